use Rattle.std.proofs.Common.{◌≡◌, ◌++◌, map, replicate, Some, None}
use Rattle.hs_pure.specs.declared.var.Var.{Var}
use Rattle.hs_core.specs.Sound.{vars_from, param_vars}
use Rattle.hs_claims.proofs.entries.entry_held.Given as goal

abbrev pub invariant-loop-n : goal.invariant-loop-n
invariant-loop-n l = l.held ≡ map (λ (v : Var). Some v) (vars_from 1 l.n)

abbrev pub invariant-loop : goal.invariant-loop
invariant-loop l = l.held ≡ map (λ (v : Var). Some v) (param_vars l.method) ++ replicate l.counter None
