use Rattle.std.proofs.Common.{◌≡◌, take}
use Rattle.std.specs.List.{Any}
use Rattle.hs_pure.specs.Stack.{Stack}
use Rattle.hs_equations.specs.Claims.{truth_at, IsClaimed}
use Rattle.hs_equations.proofs.claim.claims_of.Given as goal

abbrev pub invariant-loop-p : goal.invariant-loop-p
invariant-loop-p l = (s : Stack) → Any (λ p. truth_at s p ≡ l.expected) (take l.p-index l.ps) → Any (IsClaimed s) l.claims
