use Rattle.std.proofs.Common.{◌≡◌, take}
use Rattle.std.specs.List.{All}
use Rattle.hs_pure.specs.Stack.{Stack}
use Rattle.hs_equations.specs.Rows.{Holds}
use Rattle.hs_equations.specs.Claims.{truth_at}
use Rattle.hs_equations.proofs.known.+refuting.Given as goal

abbrev pub invariant-all_refuted-loop-p : goal.invariant-all_refuted-loop-p
invariant-all_refuted-loop-p l = (s : Stack) → Holds s l.rows → All (λ p. ¬ (truth_at s p ≡ l.expected)) (take l.p-index l.ps)
