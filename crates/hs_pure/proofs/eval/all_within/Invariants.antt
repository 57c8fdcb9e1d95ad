use Rattle.std.proofs.Common.{◌↔◌, IsTrue, take}
use Rattle.std.specs.List.{All}
use Rattle.hs_pure.specs.Assertion.{bag_term_of}
use Rattle.hs_pure.specs.Values.{stack_at, PairFits, IsAtMost}
use Rattle.hs_pure.proofs.eval.all_within.Given as goal

abbrev pub invariant-loop-element : goal.invariant-loop-element
invariant-loop-element l = record {
  fits : All (λ p. PairFits (stack_at l.values) (bag_term_of l.a) (bag_term_of l.b) p.0) (take l.element-index l.elements);
  tells : IsTrue l.all ↔ All (λ p. IsAtMost (stack_at l.values) (bag_term_of l.a) (bag_term_of l.b) p.0) (take l.element-index l.elements);
}
