-- What is found of a step.
use Rattle.std.proofs.Common.{◌≡◌, List, [], ◌∷◌, map, Option, Some, None, refl, sym, ◌∙◌, ap, subst}
use Rattle.hs_heap.specs.declared.formula.Formula.{Formula}
use Rattle.hs_heap.specs.declared.definitions.Defs.{Defs}
use Rattle.hs_goal.specs.declared.goal.Goal.{Goal}
use Rattle.hs_core.specs.declared.program.Program.{Program}
use Rattle.hs_core.specs.declared.state.At.{At}
use Rattle.hs_core.specs.declared.state.PRule.{PRule}
use Rattle.hs_node.specs.declared.judgement.Judgement.{Judgement}
use Rattle.hs_node.specs.declared.judgement.Judgement.TheVariants.{Entails, Runs}
use Rattle.hs_check.specs.declared.verdict.Reason.TheVariants as reason
use Rattle.hs_check.specs.declared.verdict.NodeAnswer.{NodeAnswer}
use Rattle.hs_check.specs.declared.verdict.NodeAnswer.TheVariants as answer
use Rattle.hs_program_rules.specs.States.{no_formula, StateFits}
use Rattle.hs_program_rules.specs.Table.{AreLow, goal_of, premises_of}
use Rattle.hs_prule.specs.Judged.{Asks, GoesOn, Gives, further, HasRule, HasPremises, IsJudged}
use Rattle.hs_prule.specs.Following.{IsCompared, IsFollowed}

module _ (defs : Defs) (program : Program) (at : At) (r : PRule) where
  -- the comparison of the further premises follows
  pub followed_by : (f : Formula) (others : List Judgement) (states : List At) (a : NodeAnswer) → GoesOn defs program at r f → states ≡ premises_of defs program at r f →
      IsCompared (others ≡ map (λ p. Runs p) states) a → IsFollowed defs program at r f others a
  followed_by f others states answer.Right goes e same = (goes, same ∙ ap (λ ps. map (λ p. Runs p) ps) e)
  followed_by f others states (answer.Wrong reason.Shape) goes e n = absurd n
  followed_by f others states (answer.Wrong reason.Rule) goes e n = absurd n
  followed_by f others states (answer.Wrong reason.Premise) goes e n = (goes, λ same. n (same ∙ ap (λ ps. map (λ p. Runs p) ps) (sym e)))
  followed_by f others states (answer.Wrong reason.Residue) goes e n = absurd n
  followed_by f others states (answer.Wrong reason.Question) goes e n = absurd n
  followed_by f others states answer.Numbers goes e n = absurd n
  followed_by f others states answer.Atoms goes e n = absurd n
  followed_by f others states answer.Wide goes e n = absurd n

  module _ (fits : StateFits defs program at) (asks : Asks defs program at r) where
    -- what follows by the one residue that the premises give is what is found of the step
    judged_by : (goal : Option Goal) (premises : List Judgement) → goal_of defs program at r ≡ goal → (f : Formula) → Gives defs program at r goal premises f →
        ((g : Formula) → Gives defs program at r goal premises g → g ≡ f) →
        (a : NodeAnswer) → IsFollowed defs program at r f (further defs program at r goal premises) a → IsJudged defs program at r premises a
    judged_by goal premises is f gives only a followed = answers a followed
      where
        gives_it : Gives defs program at r (goal_of defs program at r) premises f
        gives_it = subst (λ o. Gives defs program at r o premises f) (sym is) gives

        only_it : (g : Formula) → Gives defs program at r (goal_of defs program at r) premises g → g ≡ f
        only_it g e = only g (subst (λ o. Gives defs program at r o premises g) is e)

        has : GoesOn defs program at r f → HasRule defs program at r premises
        has goes = record { asks = goes.asks; low = λ g e. subst (λ h. AreLow (premises_of defs program at r h)) (sym (only_it g e)) goes.low }

        goes_on : HasRule defs program at r premises → GoesOn defs program at r f
        goes_on rule = record { asks = rule.asks; low = rule.low f gives_it }

        others_here : further defs program at r goal premises ≡ map (λ p. Runs p) (premises_of defs program at r f) →
            further defs program at r (goal_of defs program at r) premises ≡ map (λ p. Runs p) (premises_of defs program at r f)
        others_here e = ap (λ o. further defs program at r o premises) is ∙ e

        others_there : HasPremises defs program at r premises → further defs program at r goal premises ≡ map (λ p. Runs p) (premises_of defs program at r f)
        others_there h = ap (λ o. further defs program at r o premises) (sym is) ∙ h.others ∙ ap (λ g. map (λ p. Runs p) (premises_of defs program at r g)) (only_it h.residue h.gives)

        answers : (a : NodeAnswer) → IsFollowed defs program at r f (further defs program at r goal premises) a → IsJudged defs program at r premises a
        answers answer.Right (goes, same) = record { fits = fits; applies = has goes; premises_are = record { residue = f; gives = gives_it; others = others_here same } }
        answers (answer.Wrong reason.Shape) n = absurd n
        answers (answer.Wrong reason.Rule) n = (fits, λ rule. n (goes_on rule))
        answers (answer.Wrong reason.Premise) (goes, n) = (fits, has goes, λ h. n (others_there h))
        answers (answer.Wrong reason.Residue) n = absurd n
        answers (answer.Wrong reason.Question) n = absurd n
        answers answer.Numbers n = absurd n
        answers answer.Atoms n = absurd n
        answers answer.Wide n = absurd n

    -- where no goal is asked
    pub judged_none : (premises : List Judgement) → goal_of defs program at r ≡ None → (a : NodeAnswer) → IsFollowed defs program at r no_formula premises a → IsJudged defs program at r premises a
    judged_none premises is a followed = judged_by None premises is no_formula refl (λ g e. e) a followed

    -- where the first premise gives the goal a residue
    pub judged_some : (g : Goal) (first : Judgement) (others : List Judgement) (f : Formula) → goal_of defs program at r ≡ Some g → first ≡ Entails g f →
        (a : NodeAnswer) → IsFollowed defs program at r f others a → IsJudged defs program at r (first ∷ others) a
    judged_some g first others f is e a followed = judged_by (Some g) (first ∷ others) is f e (λ h k. one (sym k ∙ e)) a followed
      where
        one : {h : Formula} → Entails g h ≡ Entails g f → h ≡ f
        one k = cc

    -- where no premise gives it one
    no_residue : (g : Goal) (premises : List Judgement) → goal_of defs program at r ≡ Some g → ((f : Formula) → ¬ (Gives defs program at r (Some g) premises f)) → IsJudged defs program at r premises (answer.Wrong reason.Premise)
    no_residue g premises is none = (
      fits,
      record { asks = asks; low = λ f e. absurd (none f (subst (λ o. Gives defs program at r o premises f) is e)) },
      λ h. none h.residue (subst (λ o. Gives defs program at r o premises h.residue) is h.gives),
    )

    pub judged_empty : (g : Goal) → goal_of defs program at r ≡ Some g → IsJudged defs program at r [] (answer.Wrong reason.Premise)
    judged_empty g is = no_residue g [] is (λ f e. e)

    pub judged_other : (g : Goal) (first : Judgement) (others : List Judgement) → goal_of defs program at r ≡ Some g → ((f : Formula) → ¬ (first ≡ Entails g f)) → IsJudged defs program at r (first ∷ others) (answer.Wrong reason.Premise)
    judged_other g first others is none = no_residue g (first ∷ others) is none
