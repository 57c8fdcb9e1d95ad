use Rattle.std.proofs.Common.{sym, subst}
use Rattle.std.specs.List.{All}
use Rattle.hs_wf.specs.Founded.{PredIsFounded}
use Rattle.hs_wf.specs.Faults.{IsFirstInPreds, IsFirstFault}
use Rattle.hs_wf.proofs.Firsts.{match_some, error_is_first}
use Rattle.hs_wf.proofs.first.founded.Goals as goal

pub returns-in-Some-clause-first : goal.returns-in-Some-clause-first
returns-in-Some-clause-first c =
    let found = match_some c.in_ok-first_in_preds.field-0 (c.in-Some.n, c.in-Some.i, c.in-Some.fault) (All PredIsFounded c.as_slice.result.now) (λ f. IsFirstInPreds c.as_slice.result.now f.0 f.1 f.2) c.in-Some.is c.in_ok-first_in_preds.ensures in
    subst (IsFirstFault c.args.defs.now) (sym c.error_at.ensures)
    (error_is_first c.args.defs.now c.in-Some.n c.in-Some.i c.in-Some.fault (subst (λ ps. IsFirstInPreds ps c.in-Some.n c.in-Some.i c.in-Some.fault) c.as_slice.ensures found))
