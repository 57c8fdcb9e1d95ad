use Rattle.std.proofs.Common.{◌+◌, ◌↔◌, IsTrue, take, map}
use Rattle.std.specs.List.{All, Any}
use Rattle.hs_pure.specs.Assertion.{bag_term_of, assertion_of}
use Rattle.hs_pure.specs.Truth.{TrueAt}
use Rattle.hs_pure.specs.Eval.{NumbersFit}
use Rattle.hs_pure.proofs.Size.{bag_size, pure_size, total}
use Rattle.hs_pure.specs.Values.{stack_at, BodyFits, BodyHolds}
use Rattle.hs_pure.proofs.eval.+holds.Given as goal

abbrev pub decreases-holds : goal.decreases-holds
decreases-holds l = pure_size l.p.now

abbrev pub decreases-all_hold : goal.decreases-all_hold
decreases-all_hold l = total (map pure_size l.ps.now) + 1

abbrev pub decreases-any_holds : goal.decreases-any_holds
decreases-any_holds l = total (map pure_size l.ps.now) + 1

abbrev pub decreases-holds_in : goal.decreases-holds_in
decreases-holds_in l = bag_size l.from.now + pure_size l.p.now + 2

abbrev pub decreases-holds_of_all : goal.decreases-holds_of_all
decreases-holds_of_all l = pure_size l.p.now + 2

abbrev pub decreases-holds_of : goal.decreases-holds_of
decreases-holds_of l = pure_size l.p.now + 1

abbrev pub invariant-all_hold-loop-p : goal.invariant-all_hold-loop-p
invariant-all_hold-loop-p l = record {
  fits : All (λ p. NumbersFit (stack_at l.values) (assertion_of p)) (take l.p-index l.ps);
  tells : IsTrue l.all ↔ All (TrueAt (stack_at l.values)) (take l.p-index l.ps);
}

abbrev pub invariant-any_holds-loop-p : goal.invariant-any_holds-loop-p
invariant-any_holds-loop-p l = record {
  fits : All (λ p. NumbersFit (stack_at l.values) (assertion_of p)) (take l.p-index l.ps);
  tells : IsTrue l.any ↔ Any (TrueAt (stack_at l.values)) (take l.p-index l.ps);
}

abbrev pub invariant-holds_of_all-loop-element : goal.invariant-holds_of_all-loop-element
invariant-holds_of_all-loop-element l = record {
  fits : All (λ e. BodyFits (stack_at l.values) l.u (bag_term_of l.b) (assertion_of l.p) e.0) (take l.element-index l.elements);
  tells : IsTrue l.all ↔ All (λ e. BodyHolds (stack_at l.values) l.u (bag_term_of l.b) (assertion_of l.p) e.0) (take l.element-index l.elements);
}
