use Rattle.std.proofs.Common.{sym, subst}
use Rattle.hs_xpure.specs.Laws.{HasLowNumbers}
use Rattle.hs_question.proofs.Askable.{asked_low}
use Rattle.hs_question.proofs.questions.implication.Goals as goal

pub returns-clause-low : goal.returns-clause-low
returns-clause-low c = (
  subst HasLowNumbers (sym c.conjunction.ensures) c.in_ok-left.ensures.low,
  subst HasLowNumbers (sym c.in_ok-right.ensures) (asked_low c.args.defs.now c.requires.sound c.args.goal.now c.requires.fits),
)
