use Rattle.std.proofs.Common.{◌≡◌, drop}
use Rattle.hs_elimination.specs.Linear.{place, coefficient}
use Rattle.hs_cooper_forms.proofs.linear.coefficient.Given as goal

abbrev pub invariant-loop-t : goal.invariant-loop-t
invariant-loop-t l = coefficient (place l.x) (drop l.t-index l.t-items) ≡ coefficient (place l.x) l.a.terms
