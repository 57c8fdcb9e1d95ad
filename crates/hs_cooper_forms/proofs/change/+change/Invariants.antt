use Rattle.std.proofs.Common.{◌≡◌, map, take}
use Rattle.std.specs.List.{Contains}
use Rattle.hs_elimination.specs.Form.{IsWide}
use Rattle.hs_elimination.specs.Normal.{evaluate}
use Rattle.hs_cooper_forms.specs.declared.nnf.Nnf.{Nnf}
use Rattle.hs_cooper_forms.specs.Reading.{form_of, joined}
use Rattle.hs_cooper_forms.specs.Gathering.{gathered, HasProper}
use Rattle.hs_cooper_forms.specs.Changing.{changed}
use Rattle.hs_cooper_forms.proofs.change.+change.Given as goal

abbrev pub invariant-apply_all-loop-f : goal.invariant-apply_all-loop-f
invariant-apply_all-loop-f l = record {
  same : l.members.connective ≡ l.fn.connective;
  form : gathered l.members ≡ joined l.fn.connective (map (λ f. evaluate (changed l.change (form_of f))) (take l.f-index l.fs));
  proper : HasProper l.members;
  narrow : (f : Nnf) → Contains (take l.f-index l.fs) f → IsWide (changed l.change (form_of f)) → IsWide (form_of f);
}
