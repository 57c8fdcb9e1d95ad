-- What is answered of a goal whose tree is within the limit.
use Rattle.std.proofs.Common.{ℕ, take, ap, ◌∙◌, arith}
use Rattle.hs_calculus.specs.Calculus.{Calculus}
use Rattle.hs_calculus.specs.Blame.{IsAnswer}
use Rattle.hs_calculus.specs.Laws.{IsWithin, IsSettled}
use Rattle.hs_calculus.specs.declared.answer.Cause.TheVariants.{Goals, Spent, Rank, Failed}
use Rattle.hs_calculus.specs.declared.answer.Answer.{Answer}
use Rattle.hs_calculus.specs.declared.answer.Answer.TheVariants.{Valid, Unknown}
use Rattle.hs_calculus.proofs.Lists.{take_none}

module _ {G R P O Q : Type 0} (c : Calculus G R P) (is_spent : G → Q → Type 0) (is_stuck : G → O → Type 0) (is_refuted : G → R → O → Type 0) where
  pub search_is_complete : (rank goals wanted : ℕ) (goal : G) (answer : Answer P Q O) → IsAnswer c is_spent is_stuck is_refuted rank goals wanted goal answer
      → IsWithin c is_spent rank goals goal → IsSettled c rank wanted goal answer
  search_is_complete rank goals wanted goal (Valid proofs) h within = (h.0, λ none. h.1 (h.0 ∙ ap (take wanted) none ∙ take_none wanted))
  search_is_complete rank goals wanted goal (Unknown Goals) h within = absurd (omega (arith, within.few))
  search_is_complete rank goals wanted goal (Unknown (Spent q)) h within = absurd (within.answered q h)
  search_is_complete rank goals wanted goal (Unknown Rank) h within = h.0
  search_is_complete rank goals wanted goal (Unknown (Failed o)) h within = h.0
