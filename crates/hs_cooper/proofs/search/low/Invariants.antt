use Rattle.std.proofs.Common.{◌≡◌, ◌-◌, None}
use Rattle.hs_pure.specs.Eval.{stack_of}
use Rattle.hs_elimination.specs.Linear.{place}
use Rattle.hs_elimination.specs.Witness.{first_to, low_at}
use Rattle.hs_cooper_forms.specs.Reading.{form_of}
use Rattle.hs_cooper.proofs.search.low.Given as goal

abbrev pub invariant-loop-j : goal.invariant-loop-j
invariant-loop-j l = first_to (low_at (stack_of l.v) (place l.x) (form_of l.f) l.period) (l.j - 1) ≡ None
