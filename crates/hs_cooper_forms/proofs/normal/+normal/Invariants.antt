use Rattle.std.proofs.Common.{◌≡◌, map, take}
use Rattle.std.specs.List.{Contains}
use Rattle.hs_pure.specs.declared.pure.Pure.{Pure}
use Rattle.hs_elimination.specs.Form.{IsWide}
use Rattle.hs_elimination.specs.Normal.{evaluate}
use Rattle.hs_cooper_forms.specs.Reading.{joined}
use Rattle.hs_cooper_forms.specs.Gathering.{gathered, HasProper}
use Rattle.hs_cooper_forms.specs.Normalizing.{side, first_stage}
use Rattle.hs_cooper_forms.proofs.normal.+normal.Given as goal

abbrev pub invariant-normalize_all-loop-p : goal.invariant-normalize_all-loop-p
invariant-normalize_all-loop-p l = record {
  same : l.members.connective ≡ side l.positive l.fn.connective;
  form : gathered l.members ≡ joined (side l.positive l.fn.connective) (map (λ p. evaluate (first_stage l.positive p)) (take l.p-index l.ps));
  proper : HasProper l.members;
  narrow : (p : Pure) → Contains (take l.p-index l.ps) p → ¬ (IsWide (first_stage l.positive p));
}
