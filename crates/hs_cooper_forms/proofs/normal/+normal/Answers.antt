use Rattle.std.proofs.Common.{◌∙◌}
use Rattle.hs_elimination.specs.Form.{const, IsWide}
use Rattle.hs_elimination.specs.Normal.{evaluate}
use Rattle.hs_cooper_forms.specs.Reading.{form_of, unit}
use Rattle.hs_cooper_forms.specs.Gathering.{gathered}
use Rattle.hs_cooper_forms.specs.Normalizing.{side, first_stage}
use Rattle.hs_cooper_forms.proofs.Members.{each_more}
use Rattle.hs_cooper_forms.proofs.Changes.{ok_map, fold_next}
use Rattle.hs_cooper_forms.proofs.Normals.{joined-And, joined-Or, wide-And, wide-Or}
use Rattle.hs_cooper_forms.proofs.Narrow.{narrow-And, narrow-Or}
use Rattle.hs_cooper_forms.proofs.normal.+normal.Goals as goal

pub normalize-returns-in-And-clause-form : goal.normalize-returns-in-And-clause-form
normalize-returns-in-And-clause-form t c = ok_map c.normalize_all.result (λ r e. e ∙ joined-And c.args.positive c.args.p.now c.in-And.ps c.in-And.is) (rw c.as_slice.ensures at c.normalize_all.ensures.form)

pub normalize-returns-in-And-clause-wide : goal.normalize-returns-in-And-clause-wide
normalize-returns-in-And-clause-wide t c = λ h. wide-And c.args.positive c.args.p.now c.in-And.ps c.in-And.is (rw c.as_slice.ensures at (c.normalize_all.ensures.wide h))

pub normalize-returns-in-And-clause-narrow : goal.normalize-returns-in-And-clause-narrow
normalize-returns-in-And-clause-narrow t c = ok_map c.normalize_all.result (λ r h. narrow-And c.args.positive c.args.p.now c.in-And.ps c.in-And.is h) (rw c.as_slice.ensures at c.normalize_all.ensures.narrow)

pub normalize-returns-in-Or-clause-form : goal.normalize-returns-in-Or-clause-form
normalize-returns-in-Or-clause-form t c = ok_map c.normalize_all-in-Or.result (λ r e. e ∙ joined-Or c.args.positive c.args.p.now c.in-Or.ps c.in-Or.is) (rw c.as_slice-in-Or.ensures at c.normalize_all-in-Or.ensures.form)

pub normalize-returns-in-Or-clause-wide : goal.normalize-returns-in-Or-clause-wide
normalize-returns-in-Or-clause-wide t c = λ h. wide-Or c.args.positive c.args.p.now c.in-Or.ps c.in-Or.is (rw c.as_slice-in-Or.ensures at (c.normalize_all-in-Or.ensures.wide h))

pub normalize-returns-in-Or-clause-narrow : goal.normalize-returns-in-Or-clause-narrow
normalize-returns-in-Or-clause-narrow t c = ok_map c.normalize_all-in-Or.result (λ r h. narrow-Or c.args.positive c.args.p.now c.in-Or.ps c.in-Or.is h) (rw c.as_slice-in-Or.ensures at c.normalize_all-in-Or.ensures.narrow)

pub normalize_all-loop-p-preserved : goal.normalize_all-loop-p-preserved
normalize_all-loop-p-preserved t c = record {
  same = c.in_ok-add.ensures.same ∙ c.loop-p.invariant.same;
  form = fold_next (side c.args.positive c.args.connective) c.loop-p.members.connective (const (unit (side c.args.positive c.args.connective))) (λ p. evaluate (first_stage c.args.positive p)) c.args.ps.now c.loop-p.p-index c.p-item.result
      (gathered c.loop-p.members) (gathered c.add.new.self) (form_of c.in_ok-member.member)
      c.loop-p-test.true c.p-item.is c.loop-p.invariant.form c.loop-p.invariant.same c.in_ok-add.ensures.form c.in_ok-member.ensures.form;
  proper = c.in_ok-add.ensures.proper;
  narrow = each_more (λ p. ¬ (IsWide (first_stage c.args.positive p))) c.args.ps.now c.loop-p.p-index c.p-item.result c.loop-p-test.true c.p-item.is c.loop-p.invariant.narrow c.in_ok-member.ensures.narrow;
}
