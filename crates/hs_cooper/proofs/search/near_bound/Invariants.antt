use Rattle.std.proofs.Common.{◌≡◌, ◌-◌, None}
use Rattle.hs_pure.specs.Eval.{stack_of}
use Rattle.hs_elimination.specs.Linear.{place}
use Rattle.hs_elimination.specs.Witness.{first_to, near_at}
use Rattle.hs_cooper_forms.specs.Reading.{form_of}
use Rattle.hs_cooper.proofs.search.near_bound.Given as goal

abbrev pub invariant-loop-j : goal.invariant-loop-j
invariant-loop-j l = first_to (near_at (stack_of l.v) (place l.x) (form_of l.f) l.b) (l.j - 1) ≡ None
