use Rattle.std.proofs.Common.{sym, subst}
use Rattle.std.specs.List.{All}
use Rattle.std.proofs.lemmas.List.Elements.{All-nil}
use Rattle.hs_pure.specs.Truth.{TrueAt}
use Rattle.hs_pure.proofs.Truths.{true-And}
use Rattle.hs_decide.specs.Asking.{IsAskable}
use Rattle.hs_decide.proofs.Asking.{askable-all}
use Rattle.hs_decide.proofs.facts.facts.Goals as goal

pub returns-clause-follows : goal.returns-clause-follows
returns-clause-follows c = λ s h.
    subst (TrueAt s) (sym c.in_ok-new.ensures) ((true-And s c.in_ok-members.members).1 (c.in_ok-members.ensures.follow s (subst (All (TrueAt s)) (sym c.new.ensures) (All-nil (TrueAt s))) h))

pub returns-clause-asked : goal.returns-clause-asked
returns-clause-asked c =
    subst IsAskable (sym c.in_ok-new.ensures) (askable-all c.bags_plain_is_of_assertion.ensures c.in_ok-members.members (c.in_ok-members.ensures.asked (subst (All IsAskable) (sym c.new.ensures) (All-nil IsAskable)) c.requires.asked))
