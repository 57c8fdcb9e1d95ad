use Rattle.std.proofs.Common.{◌≡◌, ℕ, ◌-◌, ◌≤◌, ◌<◌, map}
use Rattle.hs_elimination.specs.Linear.{place}
use Rattle.hs_elimination.specs.Normal.{evaluate}
use Rattle.hs_elimination.specs.Cases.{cases_to}
use Rattle.hs_cooper_forms.specs.Reading.{form_of, joined}
use Rattle.hs_cooper.specs.Casing.{HasWideAt, HasWideGiven}
use Rattle.hs_cooper_forms.specs.Gathering.{gathered, HasProper}
use Rattle.hs_cooper_forms.specs.declared.nnf.Connective.TheVariants.{Or}
use Rattle.hs_cooper.proofs.cases.all_cases.Given as goal

abbrev pub invariant-loop-j : goal.invariant-loop-j
invariant-loop-j l = record {
  same : l.members.connective ≡ Or;
  form : gathered l.members ≡ joined Or (map evaluate (cases_to (place l.x) (form_of l.f) l.bounds (l.j - 1)));
  proper : HasProper l.members;
  narrow : (i : ℕ) → 1 ≤ i → i < l.j → HasWideAt l.x (form_of l.f) l.bounds i → HasWideGiven (form_of l.f) l.bounds;
}
