-- Where the tree is within the limit of goals and has no spent question, the search answers.
use Rattle.std.specs.Prelude.{◌≡◌, ◌≤◌, ◌↔◌, [], length}
use Rattle.hs_heap.specs.declared.definitions.Defs.{Defs}
use Rattle.hs_goal.specs.declared.goal.Goal.{Goal}
use Rattle.hs_goal.specs.declared.rule.Limits.{Limits}
use Rattle.hs_goal.specs.declared.rule.Cause.TheVariants.{Goals, Numbers, Atoms, Wide, Rank, Failed}
use Rattle.hs_choices.specs.declared.error.Spent.{Spent}
use Rattle.hs_search.specs.declared.answer.SleekAnswer.{SleekAnswer}
use Rattle.hs_search.specs.declared.answer.SleekAnswer.TheVariants.{Valid, Unknown}
use Rattle.hs_search.specs.Answer.{derivations_of, tree_of, IsSpentIn, IsSearchAnswer}

abbrev pub IsValidAnswer : SleekAnswer → Type 0
IsValidAnswer (Valid proofs) = Unit {0}
IsValidAnswer (Unknown cause) = ⊥

-- for want of rank, or of any derivation
abbrev pub IsRankOrFailed : SleekAnswer → Type 0
IsRankOrFailed (Valid proofs) = ⊥
IsRankOrFailed (Unknown Goals) = ⊥
IsRankOrFailed (Unknown Numbers) = ⊥
IsRankOrFailed (Unknown (Atoms q)) = ⊥
IsRankOrFailed (Unknown (Wide q)) = ⊥
IsRankOrFailed (Unknown Rank) = Unit {0}
IsRankOrFailed (Unknown (Failed o)) = Unit {0}

-- an answer is valid exactly where a derivation has at most the rank, and else the cause is Rank or Failed
pub record IsComplete (defs : Defs) (limits : Limits) (g : Goal) (answer : SleekAnswer) : Type 0 where
  pub valid : IsValidAnswer answer ↔ (¬ (derivations_of defs limits g ≡ []))
  pub otherwise : derivations_of defs limits g ≡ [] → IsRankOrFailed answer

abbrev pub SearchIsComplete : Type 0
SearchIsComplete = (defs : Defs) (limits : Limits) (g : Goal) (answer : SleekAnswer) → IsSearchAnswer defs limits g answer →
    length (tree_of defs limits g) ≤ limits.goals → ((s : Spent) → ¬ (IsSpentIn defs limits g s)) → IsComplete defs limits g answer
