use Rattle.std.proofs.Common.{rules, arith, ℤ, pos, false}
use Rattle.hs_pure.specs.declared.var.Var.{Var}
use Rattle.hs_bag_parts.proofs.Adding.{wide_both, sum_both, shared_both}
use Rattle.hs_bag_parts.proofs.sums.add_terms.Goals as goal

abbrev none_there : Var × ℤ
none_there = (record { number = 0; bag = false }, pos 0)

pub returns-in_default-clause-wide : goal.returns-in_default-clause-wide
returns-in_default-clause-wide c = λ w.
    wide_both c.args.a.now c.args.b.now c.merging.terms _ c.merging.i c.merging.j none_there none_there c.merging.invariant.sum c.merging-test.true c.if-j-b.true (omega arith) (omega arith) (search rules) (search rules) c.in_default.ensures

pub merging-preserved : goal.merging-preserved
merging-preserved c = record {
  a_in = omega arith;
  b_in = omega arith;
  sum = sum_both c.args.a.now c.args.b.now c.merging.terms _ c.merging.i c.merging.j none_there none_there c.merging.invariant.sum c.merging-test.true c.if-j-b.true c.in-Some.sum c.push_term.new.terms (omega arith) (omega arith) (search rules) (search rules) c.in-Some.ensures.0 c.in-Some.ensures.1 c.in_ok-push_term.ensures.ok;
}

pub returns-in_default-clause-shared : goal.returns-in_default-clause-shared
returns-in_default-clause-shared c = λ w. shared_both c.args.a.now c.args.b.now c.merging.i c.merging.j none_there none_there c.merging-test.true c.if-j-b.true (omega arith) (omega arith)
