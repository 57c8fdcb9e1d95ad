use Rattle.std.proofs.Common.{sym, subst}
use Rattle.hs_erule.specs.Judged.{IsVerdict}
use Rattle.hs_erule.proofs.Verdicts.{verdict_is}
use Rattle.hs_erule.proofs.asking.verdict.Goals as goal

pub returns-clause-judged : goal.returns-clause-judged
returns-clause-judged c =
    let e = c.in_ok-answer.ensures in
    subst (IsVerdict c.args.atoms c.args.q.now) (sym c.verdict_of.ensures) (verdict_is c.args.atoms c.args.q.now c.in_ok-answer.answer e.yes e.no e.atoms e.wide)
