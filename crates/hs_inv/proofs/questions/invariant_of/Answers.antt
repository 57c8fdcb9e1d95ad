use Rattle.std.proofs.Common.{rules, ◌≡◌, sym, subst}
use Rattle.hs_pure.specs.declared.pure.Pure.{Pure}
use Rattle.hs_decide.specs.Span.{IsSpent}
use Rattle.hs_xpure.specs.Invariants.{invariant_premise}
use Rattle.hs_xpure.specs.Laws.{HasLowNumbers}
use Rattle.hs_inv.specs.Answer.{question_of, IsInvAnswer, IsDecidedInv}
use Rattle.hs_inv.proofs.There.{answered, decided_inv}
use Rattle.hs_inv.proofs.questions.invariant_of.Goals as goal

pub implies-requires-clause-left_low : goal.implies-requires-clause-left_low
implies-requires-clause-left_low c =
    let is : c.deref.result.now ≡ invariant_premise c.args.defs.now c.args.p.now = search rules in
    subst HasLowNumbers (sym is) (c.premise_is_low.ensures c.args.defs.now c.requires.sound c.args.pred c.args.p.now c.requires.there).0

pub implies-requires-clause-right_low : goal.implies-requires-clause-right_low
implies-requires-clause-right_low c = (c.premise_is_low.ensures c.args.defs.now c.requires.sound c.args.pred c.args.p.now c.requires.there).1

pub returns-clause-answer : goal.returns-clause-answer
returns-clause-answer c =
    let defs = c.args.defs.now in
    let p = c.args.p.now in
    let is : c.deref.result.now ≡ invariant_premise defs p = search rules in
    let e = c.in_ok-answer.ensures in
    subst (IsInvAnswer defs p c.args.atoms) (sym c.inv_answer.ensures) (answered defs p c.args.atoms c.deref.result.now is c.in_ok-answer.answer e.yes e.no e.atoms e.wide)

pub returns-clause-decided : goal.returns-clause-decided
returns-clause-decided c =
    let defs = c.args.defs.now in
    let p = c.args.p.now in
    let is : c.deref.result.now ≡ invariant_premise defs p = search rules in
    subst (λ r. (¬ (IsSpent c.args.atoms (question_of defs p))) → IsDecidedInv r) (sym c.inv_answer.ensures) (decided_inv defs p c.args.atoms c.deref.result.now is c.in_ok-answer.answer c.in_ok-answer.ensures.decided)
