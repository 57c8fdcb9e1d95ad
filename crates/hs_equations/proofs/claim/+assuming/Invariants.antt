use Rattle.std.proofs.Common.{◌≡◌}
use Rattle.std.specs.List.{All}
use Rattle.hs_pure.specs.Stack.{Stack}
use Rattle.hs_equations.specs.Claims.{truth_at, HoldsAll}
use Rattle.hs_equations.proofs.claim.+assuming.Given as goal

abbrev pub invariant-assume_all-loop-p : goal.invariant-assume_all-loop-p
invariant-assume_all-loop-p l = (s : Stack) → HoldsAll s l.fn.state → All (λ p. truth_at s p ≡ l.expected) l.ps → HoldsAll s l.now
