-- Lists of right steps, and the goals that they prove.
use Rattle.std.specs.Prelude.{◌≡◌, ℕ, ◌-◌, ◌≤◌, List, [], ◌∷◌, ◌++◌, map, Some}
use Rattle.std.specs.List.{slice_get, AllZip}
use Rattle.hs_heap.specs.declared.formula.Formula.{Formula}
use Rattle.hs_heap.specs.declared.definitions.Defs.{Defs}
use Rattle.hs_goal.specs.declared.goal.Goal.{Goal}
use Rattle.hs_rules.specs.Rules.{Judgement, IsRightStep}
use Rattle.hs_erule.specs.declared.step.Step.{Step}
use Rattle.hs_erule.specs.declared.step.Proof.{Proof}

-- what a step concludes
abbrev pub judgement_of : Step → Judgement
judgement_of s = record { goal = s.goal; residue = s.residue }

-- the step of this number, from 1, among steps
abbrev pub IsStepOf : List Step → ℕ → Step → Type 0
IsStepOf steps n s = (1 ≤ n) × (slice_get steps (n - 1) ≡ Some s)

-- a step is right whose premises are among those before it
pub record IsRightAfter (defs : Defs) (before : List Step) (s : Step) : Type 0 where
  pub premises : List Step
  pub earlier : AllZip (IsStepOf before) s.premises premises
  pub right : IsRightStep defs s.goal s.residue s.rule (map judgement_of premises)

-- each is right after those before
abbrev pub AreRightAfter : Defs → List Step → List Step → Type 0
AreRightAfter defs before [] = Unit {0}
AreRightAfter defs before (s ∷ steps) = IsRightAfter defs before s × AreRightAfter defs (before ++ s ∷ []) steps

-- right steps of which the last concludes the goal with the residue
pub record IsProofOf (defs : Defs) (g : Goal) (residue : Formula) (p : Proof) : Type 0 where
  pub right : AreRightAfter defs [] p.steps
  pub front : List Step
  pub last : Step
  pub ends : p.steps ≡ front ++ last ∷ []
  pub goal_is : last.goal ≡ g
  pub residue_is : last.residue ≡ residue
