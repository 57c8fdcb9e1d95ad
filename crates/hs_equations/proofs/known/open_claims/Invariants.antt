use Rattle.std.proofs.Common.{take}
use Rattle.std.specs.List.{Any}
use Rattle.hs_pure.specs.Stack.{Stack}
use Rattle.hs_equations.specs.Rows.{Holds}
use Rattle.hs_equations.specs.Claims.{IsClaimed}
use Rattle.hs_equations.proofs.known.open_claims.Given as goal

abbrev pub invariant-loop-c : goal.invariant-loop-c
invariant-loop-c l = (s : Stack) → Holds s l.rows → Any (IsClaimed s) (take l.c-index l.claims) → Any (IsClaimed s) l.left
