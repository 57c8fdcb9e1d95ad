-- Within the limit of goals and without a spent question, an answer is valid exactly where there is a derivation.
use Rattle.std.proofs.Common.{◌≡◌, ℕ, List, [], take, zero, suc, refl, ap, ◌∙◌, arith}
use Rattle.hs_heap.specs.declared.definitions.Defs.{Defs}
use Rattle.hs_goal.specs.declared.goal.Goal.{Goal}
use Rattle.hs_goal.specs.declared.rule.Limits.{Limits}
use Rattle.hs_goal.specs.declared.rule.Cause.TheVariants.{Goals, Numbers, Atoms, Wide, Rank, Failed}
use Rattle.hs_erule.specs.declared.step.Proof.{Proof}
use Rattle.hs_choices.specs.declared.error.Spent.TheVariants as spent
use Rattle.hs_search.specs.declared.answer.SleekAnswer.{SleekAnswer}
use Rattle.hs_search.specs.declared.answer.SleekAnswer.TheVariants.{Valid, Unknown}
use Rattle.hs_search.specs.Answer.{derivations_of}
use Rattle.hs_search.specs.Laws.{IsComplete, IsRankOrFailed, SearchIsComplete}

take_none : {A : Type 0} (n : ℕ) → take {A = A} n [] ≡ []
take_none zero = refl
take_none (suc n) = refl

without : (defs : Defs) (limits : Limits) (g : Goal) (answer : SleekAnswer) → derivations_of defs limits g ≡ [] → (IsRankOrFailed answer) → IsComplete defs limits g answer
without defs limits g (Valid proofs) empty k = absurd k
without defs limits g (Unknown cause) empty k = record { valid = (λ v. absurd v, λ some. absurd (some empty)); otherwise = λ none. k }

pub search_is_complete : SearchIsComplete
search_is_complete defs limits g (Valid proofs) h few none =
    let filled : ¬ (derivations_of defs limits g ≡ []) = λ empty. h.some (h.first ∙ ap (λ (ps : List Proof). take limits.residues ps) empty ∙ take_none limits.residues) in
    record { valid = (λ v. filled, λ some. tt); otherwise = λ empty. absurd (filled empty) }
search_is_complete defs limits g (Unknown Goals) h few none = absurd (omega (arith, h, few))
search_is_complete defs limits g (Unknown Numbers) h few none = absurd (none spent.Numbers h)
search_is_complete defs limits g (Unknown (Atoms q)) h few none = absurd (none (spent.Atoms q) h)
search_is_complete defs limits g (Unknown (Wide q)) h few none = absurd (none (spent.Wide q) h)
search_is_complete defs limits g (Unknown Rank) h few none = without defs limits g (Unknown Rank) h.0 tt
search_is_complete defs limits g (Unknown (Failed o)) h few none = without defs limits g (Unknown (Failed o)) (h.0 limits.rank) tt
