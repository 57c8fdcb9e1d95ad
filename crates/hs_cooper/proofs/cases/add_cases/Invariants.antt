use Rattle.std.proofs.Common.{◌≡◌, ◌⊎◌, map, take, pos}
use Rattle.std.specs.List.{fold, Contains}
use Rattle.hs_pure.specs.declared.lin.Lin.{Lin}
use Rattle.hs_elimination.specs.Linear.{place, plus, number, IsWideLin}
use Rattle.hs_elimination.specs.Form.{IsWide}
use Rattle.hs_elimination.specs.Normal.{evaluate}
use Rattle.hs_elimination.specs.Cases.{substitute, minus_infinity}
use Rattle.hs_cooper_forms.specs.Reading.{form_of, join}
use Rattle.hs_cooper_forms.specs.Changing.{changed}
use Rattle.hs_cooper_forms.specs.declared.change.Change.TheVariants.{Substitute}
use Rattle.hs_cooper_forms.specs.Gathering.{gathered, HasProper}
use Rattle.hs_cooper_forms.specs.declared.nnf.Connective.TheVariants.{Or}
use Rattle.hs_cooper.proofs.cases.add_cases.Given as goal

abbrev pub invariant-loop-b : goal.invariant-loop-b
invariant-loop-b l = record {
  same : l.members.connective ≡ Or;
  form : gathered l.members ≡ fold (join Or) (join Or (gathered l.fn.members) (evaluate (substitute (place l.x) (number (pos l.j)) (minus_infinity (place l.x) (form_of l.f)))))
      (map (λ b. evaluate (substitute (place l.x) (plus b (number (pos l.j))) (form_of l.f))) (take l.b-index l.bounds));
  proper : HasProper l.members;
  narrow : (b : Lin) → Contains (take l.b-index l.bounds) b → IsWideLin (plus b (number (pos l.j))) ⊎ IsWide (changed (Substitute l.x (plus b (number (pos l.j)))) (form_of l.f)) → IsWide (form_of l.f) ⊎ IsWideLin b;
}
