use Rattle.std.proofs.Common.{◌≡◌, true, ◌∙◌}
use Rattle.std.specs.List.{All}
use Rattle.hs_pure.specs.Eval.{stack_of}
use Rattle.hs_pure.proofs.Loops.{whole}
use Rattle.hs_counts.specs.declared.count.Count.{Count}
use Rattle.hs_counts.specs.Listed.{is_listed}
use Rattle.hs_counts.proofs.Bagged.{stack_said, said_rise}
use Rattle.hs_counts.proofs.rebuild.rebuild_bags.Goals as goal

pub returns-clause-same : goal.returns-clause-same
returns-clause-same c =
    let P : Count → Type 0 = λ d. is_listed c.loop-c.bags d.of ≡ true in
    stack_said c.args.v.now (record { numbers = c.in_ok-numbers.numbers; bags = c.loop-c.bags }) c.args.counts.now (c.in_ok-numbers.ensures ∙ c.as_slice.ensures)
    c.loop-c.invariant.said (whole P (All P) c.args.counts.now c.loop-c.c-index c.loop-c-test.false c.loop-c.invariant.all)

pub returns-clause-rise : goal.returns-clause-rise
returns-clause-rise c = said_rise (stack_of c.args.v.now) c.args.counts.now c.loop-c.bags c.loop-c.invariant.said
