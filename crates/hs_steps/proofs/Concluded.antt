-- What right steps keep is true of what proofs conclude.
use Rattle.std.proofs.Common.{◌≡◌, ℕ, zero, suc, ◌-◌, List, [], ◌∷◌, ◌++◌, map, Some, ap, ◌∙◌, subst}
use Rattle.std.specs.List.{slice_get, fold, AllByRecursion, AllZip}
use Rattle.std.proofs.lemmas.List.Sums.{fold-append}
use Rattle.hs_heap.specs.declared.formula.Formula.{Formula}
use Rattle.hs_heap.specs.declared.definitions.Defs.{Defs}
use Rattle.hs_goal.specs.declared.goal.Goal.{Goal}
use Rattle.hs_goal.specs.declared.rule.ERule.{ERule}
use Rattle.hs_goal.specs.Goal.{Holds, IsFreshResidue}
use Rattle.hs_rules.specs.Rules.{Judgement, IsRightStep}
use Rattle.hs_rules.specs.Laws.{RightStepsKeepMeaning, RightStepsStayFresh}
use Rattle.hs_erule.specs.declared.step.Step.{Step}
use Rattle.hs_erule.specs.declared.step.Proof.{Proof}
use Rattle.hs_steps.specs.Steps.{judgement_of, IsStepOf, IsRightAfter, AreRightAfter, IsProofOf}
use Rattle.hs_steps.specs.Laws.{ProofsHold, ProofsAreFresh, ResidueIsShown}

-- right steps keep a property of judgements
abbrev Keep : Defs → (Judgement → Type 0) → Type 0
Keep defs P = (g : Goal) (residue : Formula) (rule : ERule) (premises : List Judgement) → IsRightStep defs g residue rule premises →
    AllByRecursion P premises → P (record { goal = g; residue = residue })

module _ (defs : Defs) (P : Judgement → Type 0) (keep : Keep defs P) where
  at_place : (steps : List Step) (i : ℕ) (s : Step) → slice_get steps i ≡ Some s → AllByRecursion (λ (t : Step). P (judgement_of t)) steps → P (judgement_of s)
  at_place [] i s e h = absurd cc
  at_place (t ∷ steps) zero s e h = let is : t ≡ s = cc in subst (λ (u : Step). P (judgement_of u)) is h.0
  at_place (t ∷ steps) (suc i) s e h = at_place steps i s e h.1

  of_premises : (before : List Step) → AllByRecursion (λ (t : Step). P (judgement_of t)) before → (ns : List ℕ) (ps : List Step) → AllZip (IsStepOf before) ns ps →
      AllByRecursion P (map judgement_of ps)
  of_premises before h [] [] z = tt
  of_premises before h [] (p ∷ ps) z = absurd z
  of_premises before h (n ∷ ns) [] z = absurd z
  of_premises before h (n ∷ ns) (p ∷ ps) z = (at_place before (n - 1) p z.0.1 h, of_premises before h ns ps z.1)

  pushed : (before : List Step) (s : Step) → AllByRecursion (λ (t : Step). P (judgement_of t)) before → P (judgement_of s) →
      AllByRecursion (λ (t : Step). P (judgement_of t)) (before ++ s ∷ [])
  pushed [] s h p = (p, tt)
  pushed (t ∷ before) s h p = (h.0, pushed before s h.1 p)

  of_step : (before : List Step) (s : Step) → AllByRecursion (λ (t : Step). P (judgement_of t)) before → IsRightAfter defs before s → P (judgement_of s)
  of_step before s h r = keep s.goal s.residue s.rule (map judgement_of r.premises) r.right (of_premises before h s.premises r.premises r.earlier)

  of_steps : (before steps : List Step) → AllByRecursion (λ (t : Step). P (judgement_of t)) before → AreRightAfter defs before steps →
      AllByRecursion (λ (t : Step). P (judgement_of t)) steps
  of_steps before [] h r = tt
  of_steps before (s ∷ steps) h r =
      let first = of_step before s h r.0 in
      (first, of_steps (before ++ s ∷ []) steps (pushed before s h first) r.1)

  of_last : (front : List Step) (s : Step) → AllByRecursion (λ (t : Step). P (judgement_of t)) (front ++ s ∷ []) → P (judgement_of s)
  of_last [] s h = h.0
  of_last (t ∷ front) s h = of_last front s h.1

  concluded : (g : Goal) (residue : Formula) (p : Proof) → IsProofOf defs g residue p → P (record { goal = g; residue = residue })
  concluded g residue p h =
      let all = of_steps [] p.steps tt h.right in
      let last = of_last h.front h.last (subst (AllByRecursion (λ (t : Step). P (judgement_of t))) h.ends all) in
      subst P (λ i. record { goal = h.goal_is i; residue = h.residue_is i }) last

pub proofs_hold : RightStepsKeepMeaning → ProofsHold
proofs_hold keep defs sound known lemmas = concluded defs (λ (j : Judgement). Holds defs j.goal j.residue) (keep defs sound known lemmas)

pub proofs_are_fresh : RightStepsStayFresh → ProofsAreFresh
proofs_are_fresh keep defs sound = concluded defs (λ (j : Judgement). IsFreshResidue j.goal j.residue) (keep defs sound)

pub residue_is_shown : ResidueIsShown
residue_is_shown defs g residue p h =
    ap (λ (steps : List Step). fold (λ (f : Formula) (s : Step). s.residue) (record { cases = [] }) steps) h.ends
    ∙ fold-append (λ (f : Formula) (s : Step). s.residue) (record { cases = [] }) h.front (h.last ∷ [])
    ∙ h.residue_is
