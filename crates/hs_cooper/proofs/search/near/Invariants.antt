use Rattle.std.proofs.Common.{◌≡◌, drop}
use Rattle.hs_pure.specs.Eval.{stack_of}
use Rattle.hs_elimination.specs.Linear.{place}
use Rattle.hs_elimination.specs.Witness.{first_near}
use Rattle.hs_cooper_forms.specs.Reading.{form_of}
use Rattle.hs_cooper.proofs.search.near.Given as goal

abbrev pub invariant-loop-b : goal.invariant-loop-b
invariant-loop-b l =
    first_near (stack_of l.v) (place l.x) (form_of l.f) l.period (drop l.b-index l.bounds) ≡ first_near (stack_of l.v) (place l.x) (form_of l.f) l.period l.bounds
