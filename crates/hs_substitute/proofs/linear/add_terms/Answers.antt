use Rattle.std.proofs.Common.{rules, arith, ℤ, pos, false}
use Rattle.std.proofs.lemmas.Grind.{common_steps}
use Rattle.hs_pure.specs.declared.var.Var.{Var}
use Rattle.hs_substitute.proofs.Merging.{wide_first, wide_both, sum_first, sum_both, wide_left}
use Rattle.hs_substitute.proofs.linear.add_terms.Goals as goal

abbrev none_there : Var × ℤ
none_there = (record { number = 0; bag = false }, pos 0)

pub returns-in_default-clause-wide : goal.returns-in_default-clause-wide
returns-in_default-clause-wide c = λ w.
    wide_first (c.args.by.now.number) c.args.a.now c.args.b.now c.merging.terms _ c.merging.i c.merging.j none_there none_there c.merging.invariant.sum c.merging-test.true c.if-j-b.true (omega arith) (search rules) c.in_default.ensures

pub returns-in_default-times_plus-clause-wide : goal.returns-in_default-times_plus-clause-wide
returns-in_default-times_plus-clause-wide c = λ w.
    wide_both (c.args.by.now.number) c.args.a.now c.args.b.now c.merging.terms _ c.merging.i c.merging.j none_there none_there c.merging.invariant.sum c.merging-test.true c.if-j-b.true (omega arith) (omega arith) (search rules) (search rules) c.in_default-times_plus.ensures

pub merging-preserved : goal.merging-preserved
merging-preserved c = record {
  a_in = omega arith;
  b_in = omega arith;
  sum = sum_both (c.args.by.now.number) c.args.a.now c.args.b.now c.merging.terms _ c.merging.i c.merging.j none_there none_there c.merging.invariant.sum c.merging-test.true c.if-j-b.true c.in-Some-times_plus.sum c.push_term.new.terms (omega arith) (omega arith) (search rules) (search rules) c.in-Some-times_plus.ensures.0 c.in-Some-times_plus.ensures.1 c.in_ok-push_term.ensures.ok;
}

pub returns-in_default-times-clause-wide : goal.returns-in_default-times-clause-wide
returns-in_default-times-clause-wide c = λ w.
    wide_left (c.args.by.now.number) c.args.a.now c.args.b.now c.left.terms _ c.left.i c.merging.j none_there none_there c.left.invariant.sum c.left-test.true (c.left.invariant.b_done c.left-test.true) (search rules) c.in_default-times.ensures

pub merging-preserved-then-place : goal.merging-preserved-then-place
merging-preserved-then-place c = record {
  a_in = omega arith;
  b_in = omega arith;
  sum = sum_first (c.args.by.now.number) c.args.a.now c.args.b.now c.merging.terms _ c.merging.i c.merging.j none_there none_there c.merging.invariant.sum c.merging-test.true c.if-j-b.true c.in-Some.c c.push.new.self (omega arith) (search rules) c.in-Some.ensures.0 c.in-Some.ensures.1 c.in_ok-push.ensures.ok;
}

pub merging-preserved-then-place-2 : goal.merging-preserved-then-place-2
merging-preserved-then-place-2 c = record {
  a_in = omega arith;
  b_in = omega arith;
  sum = grind (arith, common_steps);
}

pub left-preserved : goal.left-preserved
left-preserved c = record {
  a_in = omega arith;
  b_in = omega arith;
  b_done = λ h. c.left.invariant.b_done c.left-test.true;
  sum = grind (arith, common_steps);
}

pub right-preserved : goal.right-preserved
right-preserved c = record {
  b_in = omega arith;
  sum = grind (arith, common_steps);
}
