use Rattle.std.proofs.Common.{◌≡◌, drop}
use Rattle.hs_rules.specs.Conditions.{coefficient_in}
use Rattle.hs_side_rules.proofs.equations.coefficient.Given as goal

abbrev pub invariant-loop-t : goal.invariant-loop-t
invariant-loop-t l = coefficient_in l.v l.a.terms ≡ coefficient_in l.v (drop l.t-index l.a.terms)
