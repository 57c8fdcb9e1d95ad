use Rattle.std.proofs.Common.{sym, subst}
use Rattle.std.specs.List.{Any}
use Rattle.hs_equations.specs.Claims.{IsClaimed, IsCase}
use Rattle.hs_equations.proofs.Lists.{All-pushed}
use Rattle.hs_equations.proofs.known.put_case.Goals as goal

pub returns-then-known : goal.returns-then-known
returns-then-known c = λ s h all one. all

pub returns : goal.returns
returns c = λ s h all one. All-pushed (IsCase s) _ _ _ c.in_ok-push.ensures.ok all (c.in_ok-claims.ensures s h (subst (Any (IsClaimed s)) (sym c.as_slice-2.ensures) one))
