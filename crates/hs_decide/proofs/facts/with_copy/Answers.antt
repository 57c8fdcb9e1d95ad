use Rattle.std.proofs.Common.{sym, subst}
use Rattle.std.specs.List.{All}
use Rattle.hs_decide.specs.Asking.{IsAskable}
use Rattle.hs_decide.proofs.Asking.{askable-more}
use Rattle.hs_decide.proofs.facts.with_copy.Goals as goal

pub returns-clause-asked : goal.returns-clause-asked
returns-clause-asked c = λ h p. subst (All IsAskable) (sym c.in_ok-push.ensures.ok) (askable-more c.args.all c.in_ok-copy.field-0 h (subst IsAskable (sym c.in_ok-copy.ensures) p))
