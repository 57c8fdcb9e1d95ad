use Rattle.std.proofs.Common.{rules}
use Rattle.hs_pure.specs.Assertion.{assertion_of}
use Rattle.hs_reduction.specs.Instance.{replaced}
use Rattle.hs_bag.specs.Counting.{layout_of}
use Rattle.hs_bag.proofs.Free.{free_in_reduction}
use Rattle.hs_bag.proofs.Stops.{too_many_comparisons, too_many_numbers, some_is_free}
use Rattle.hs_bag.proofs.limited.small.Goals as goal

pub returns-then-comparisons-atoms-clause-atoms : goal.returns-then-comparisons-atoms-clause-atoms
returns-then-comparisons-atoms-clause-atoms c = λ h.
    too_many_comparisons (layout_of c.in-Ok.l) c.args.fresh c.args.atoms c.comparisons.result (assertion_of c.args.f.now) c.in-Ok.ensures.layout c.comparisons.ensures c.if-comparisons-atoms.true

pub returns-in-Err-Counts-clause-atoms : goal.returns-in-Err-Counts-clause-atoms
returns-in-Err-Counts-clause-atoms c = λ h. too_many_numbers c.args.fresh c.args.atoms (assertion_of c.args.f.now) c.requires.small (c.in-Err-Counts.ensures.counts (search rules))

pub returns-in-Err-Counts-clause-free : goal.returns-in-Err-Counts-clause-free
returns-in-Err-Counts-clause-free c = λ h. free_in_reduction replaced c.args.fresh (assertion_of c.args.f.now) (c.in-Err-Counts.ensures.there (search rules))

pub returns-then-comparisons-atoms-clause-free : goal.returns-then-comparisons-atoms-clause-free
returns-then-comparisons-atoms-clause-free c = λ h.
    let there = c.has_counts.ensures c.if-has_counts.true in
    some_is_free c.in-Ok.l c.args.fresh (assertion_of c.args.f.now) c.in-Ok.ensures.layout (search rules) there.0 there.1
