use Rattle.std.proofs.Common.{◌≡◌, ◌++◌, drop}
use Rattle.hs_elimination.specs.Linear.{place, without}
use Rattle.hs_cooper_forms.proofs.linear.other_terms.Given as goal

abbrev pub invariant-loop-t : goal.invariant-loop-t
invariant-loop-t l = l.terms ++ without (place l.x) (drop l.t-index l.a) ≡ without (place l.x) l.a
