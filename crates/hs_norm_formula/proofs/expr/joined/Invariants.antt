use Rattle.std.proofs.Common.{◌≡◌, None, Some}
use Rattle.std.specs.List.{fold}
use Rattle.hs_norm_formula.specs.Expr.{add_one}
use Rattle.hs_norm_formula.proofs.expr.joined.Given as goal

abbrev pub invariant-loop-one : goal.invariant-loop-one
invariant-loop-one l = l.found ≡ fold (λ found a. Some (add_one found a)) None l.yielded
