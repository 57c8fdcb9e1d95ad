use Rattle.std.proofs.Common.{Some}
use Rattle.hs_unit.proofs.Steps.{ok_map}
use Rattle.hs_unit.proofs.Members.{right-And, right-Or, wide-And}
use Rattle.hs_unit.proofs.sides.+collect.Goals as goal

pub collect-returns-in-And-clause-forms : goal.collect-returns-in-And-clause-forms
collect-returns-in-And-clause-forms t c = ok_map c.collect_all.result (λ r e. right-And c.args.p.now (Some c.args.all.now) _ c.in-And.ps c.in-And.is e) (rw c.as_slice.ensures at c.collect_all.ensures.forms)

pub collect-returns-in-And-clause-wide : goal.collect-returns-in-And-clause-wide
collect-returns-in-And-clause-wide t c = λ h. wide-And c.args.p.now c.in-And.ps c.in-And.is (rw c.as_slice.ensures at (c.collect_all.ensures.wide h))

pub collect-returns-in-Or-clause-forms : goal.collect-returns-in-Or-clause-forms
collect-returns-in-Or-clause-forms t c = ok_map c.collect_only.result (λ r e. right-Or c.args.p.now (Some c.args.all.now) _ c.in-Or.ps c.in-Or.is e) (rw c.as_slice-in-Or.ensures at c.collect_only.ensures.forms)
