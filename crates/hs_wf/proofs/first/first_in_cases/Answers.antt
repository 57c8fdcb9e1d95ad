use Rattle.std.proofs.Common.{◌≡◌, ◌<◌, ◌≤◌, length, get_or, ◌∙◌, subst}
use Rattle.hs_wf.specs.Founded.{CaseIsFounded, names_of}
use Rattle.hs_wf.specs.Faults.{IsCaseFault}
use Rattle.hs_wf.proofs.Firsts.{match_none, all_more, all_of}
use Rattle.hs_wf.proofs.first.first_in_cases.Goals as goal

pub loop-i-preserved : goal.loop-i-preserved
loop-i-preserved c =
    let names = c.deref.ensures.value ∙ c.in_ok-names.ensures in
    let founded : CaseIsFounded c.deref.result.now c.case-item.result =
    match_none c.in_ok-fault.field-0 (CaseIsFounded c.deref.result.now c.case-item.result) (IsCaseFault c.deref.result.now c.case-item.result) c.in_default.is c.in_ok-fault.ensures in
    all_more (CaseIsFounded (names_of c.args.pred.now)) c.args.pred.now.body.cases c.loop-i.i c.case-item.result
    (subst (λ ds. c.loop-i.i < length ds) c.as_slice-case-items.ensures c.loop-i-test.true)
    (subst (λ ds. c.case-item.result ≡ get_or ds c.loop-i.i c.case-item.result) c.as_slice-case-items.ensures c.case-item.is)
    c.loop-i.invariant
    (subst (λ ns. CaseIsFounded ns c.case-item.result) names founded)

pub returns : goal.returns
returns c =
    all_of (CaseIsFounded (names_of c.args.pred.now)) c.args.pred.now.body.cases c.loop-i.i
    (subst (λ ds. length ds ≤ c.loop-i.i) c.as_slice-case-items.ensures c.loop-i-test.false) c.loop-i.invariant
