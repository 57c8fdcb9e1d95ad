use Rattle.std.proofs.Common.{sym, subst}
use Rattle.hs_pure.specs.declared.pure.Pure.TheVariants.{Or}
use Rattle.hs_xpure.specs.Laws.{HasLowNumbers}
use Rattle.hs_question.proofs.Askable.{low-false}
use Rattle.hs_question.proofs.questions.contradiction.Goals as goal

pub returns-clause-low : goal.returns-clause-low
returns-clause-low c =
    (subst HasLowNumbers (sym c.conjunction.ensures) c.in_ok-left.ensures.low, subst (λ ps. HasLowNumbers (Or ps)) (sym c.new.ensures) low-false)
