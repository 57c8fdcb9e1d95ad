use Rattle.std.proofs.Common.{◌∙◌}
use Rattle.hs_elimination.specs.Form.{const, IsWide}
use Rattle.hs_elimination.specs.Normal.{evaluate}
use Rattle.hs_cooper_forms.specs.Reading.{form_of, unit}
use Rattle.hs_cooper_forms.specs.Gathering.{gathered}
use Rattle.hs_cooper_forms.specs.Changing.{changed}
use Rattle.hs_cooper_forms.proofs.Members.{each_more}
use Rattle.hs_cooper_forms.proofs.Narrow.{kept-Joined}
use Rattle.hs_cooper_forms.proofs.Changes.{ok_map, fold_next, result-Joined, refused-Joined}
use Rattle.hs_cooper_forms.proofs.change.+change.Goals as goal

pub apply-returns-in-Joined-clause-form : goal.apply-returns-in-Joined-clause-form
apply-returns-in-Joined-clause-form t c = ok_map c.apply_all.result (λ r e. e ∙ result-Joined c.args.change.now c.args.f.now c.in-Joined.c c.in-Joined.fs c.in-Joined.is) (rw c.as_slice.ensures at c.apply_all.ensures.form)

pub apply-returns-in-Joined-clause-wide : goal.apply-returns-in-Joined-clause-wide
apply-returns-in-Joined-clause-wide t c = λ h. refused-Joined c.args.change.now c.args.f.now c.in-Joined.c c.in-Joined.fs c.in-Joined.is (rw c.as_slice.ensures at (c.apply_all.ensures.wide h))

pub apply-returns-in-Joined-clause-narrow : goal.apply-returns-in-Joined-clause-narrow
apply-returns-in-Joined-clause-narrow t c = ok_map c.apply_all.result (λ r h. kept-Joined c.args.change.now c.args.f.now c.in-Joined.c c.in-Joined.fs c.in-Joined.is h) (rw c.as_slice.ensures at c.apply_all.ensures.narrow)

pub apply_all-loop-f-preserved : goal.apply_all-loop-f-preserved
apply_all-loop-f-preserved t c = record {
  same = c.in_ok-add.ensures.same ∙ c.loop-f.invariant.same;
  form = fold_next c.args.connective c.loop-f.members.connective (const (unit c.args.connective)) (λ f. evaluate (changed c.args.change.now (form_of f))) c.args.fs.now c.loop-f.f-index c.f-item.result
      (gathered c.loop-f.members) (gathered c.add.new.self) (form_of c.in_ok-member.member)
      c.loop-f-test.true c.f-item.is c.loop-f.invariant.form c.loop-f.invariant.same c.in_ok-add.ensures.form c.in_ok-member.ensures.form;
  proper = c.in_ok-add.ensures.proper;
  narrow = each_more (λ f. IsWide (changed c.args.change.now (form_of f)) → IsWide (form_of f)) c.args.fs.now c.loop-f.f-index c.f-item.result c.loop-f-test.true c.f-item.is c.loop-f.invariant.narrow c.in_ok-member.ensures.narrow;
}
