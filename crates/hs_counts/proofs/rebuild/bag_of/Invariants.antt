use Rattle.std.proofs.Common.{◌≡◌, drop}
use Rattle.hs_pure.specs.Multiset.{nothing}
use Rattle.hs_pure.specs.Eval.{stack_of, multiset_of}
use Rattle.hs_counts.specs.Counts.{bag_with, Rises}
use Rattle.hs_counts.proofs.rebuild.bag_of.Given as goal

abbrev pub invariant-loop-c : goal.invariant-loop-c
invariant-loop-c l = record {
  same : bag_with (stack_of l.v) l.counts l.u nothing ≡ bag_with (stack_of l.v) (drop l.c-index l.counts) l.u (multiset_of l.elements.items);
  rise : Rises l.elements.items;
}
