-- Where the tree is within the limits and the searches for its goals are too, the verifier answers.
use Rattle.std.specs.Prelude.{◌≡◌, ◌↔◌, ℕ, ◌<◌, ◌≤◌, List, [], ◌∷◌, length, Some}
use Rattle.hs_heap.specs.declared.definitions.Defs.{Defs}
use Rattle.hs_goal.specs.declared.goal.Goal.{Goal}
use Rattle.hs_goal.specs.declared.rule.Limits.{Limits}
use Rattle.hs_core.specs.declared.program.Program.{Program}
use Rattle.hs_core.specs.declared.state.At.{At}
use Rattle.hs_core.specs.declared.state.PRule.{PRule}
use Rattle.hs_choices.specs.declared.error.Spent.{Spent}
use Rattle.hs_search.specs.Answer.{derivations_of, tree_of, IsSpentIn}
use Rattle.hs_program_rules.specs.Table.{HasForm, goal_of}
use Rattle.hs_verify.specs.declared.answer.HipAnswer.{HipAnswer}
use Rattle.hs_verify.specs.declared.answer.HipAnswer.TheVariants.{Accepted, Unknown, States, Numbers}
use Rattle.hs_verify.specs.Tree.{Reaches, IsCrowded}
use Rattle.hs_verify.specs.Answer.{IsAnswer}

-- the search for the goal is within its limit and has no spent question
pub record IsWithin (defs : Defs) (limits : Limits) (g : Goal) : Type 0 where
  pub few : length (tree_of defs limits g) ≤ limits.goals
  pub not_spent : (s : Spent) → ¬ (IsSpentIn defs limits g s)

module _ (defs : Defs) (program : Program) (limits : Limits) where
  -- the goals that can be asked of the state are within the limits, and so are its new numbers
  pub record IsTame (at : At) : Type 0 where
    pub goals : (r : PRule) (g : Goal) → HasForm program at r → goal_of defs program at r ≡ Some g → IsWithin defs limits g
    pub room : ¬ (IsCrowded defs program limits at)

  -- the states that are reached are tame, and within the limit
  abbrev pub IsTameTree : At → Type 0
  IsTameTree start = (n : ℕ) (at : At) (rest : List At) → Reaches defs program limits start n (at ∷ rest) → (n < limits.goals) × IsTame at

abbrev pub IsAccepted : HipAnswer → Type 0
IsAccepted (Accepted d) = Unit {0}
IsAccepted _ = ⊥

-- the goals that the state can ask have no derivation
abbrev pub NoGoalIsDerived : Defs → Program → Limits → At → Type 0
NoGoalIsDerived defs program limits at =
    (r : PRule) (g : Goal) → HasForm program at r → goal_of defs program at r ≡ Some g → derivations_of defs limits g ≡ []

-- a pair is accepted or stuck
abbrev pub IsDecided : Defs → Program → Limits → HipAnswer → Type 0
IsDecided defs program limits (Accepted d) = Unit {0}
IsDecided defs program limits (Unknown at causes) = NoGoalIsDerived defs program limits at
IsDecided defs program limits (States at) = ⊥
IsDecided defs program limits (Numbers at) = ⊥

-- within the limits a pair is accepted exactly where its tree is closed; else the state answered, the first that
-- is not taken, has no derivation
abbrev pub VerificationIsComplete : Type 0
VerificationIsComplete = (defs : Defs) (program : Program) (limits : Limits) (start : At) (answer : HipAnswer) →
    IsAnswer defs program limits start answer → IsTameTree defs program limits start →
    (IsAccepted answer ↔ ((n : ℕ) × Reaches defs program limits start n [])) × IsDecided defs program limits answer
