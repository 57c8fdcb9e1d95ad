-- Laws of trees, derivations and answers.
use Rattle.std.specs.Prelude.{ℕ, ◌≡◌, ◌≤◌, true, List, [], ◌∷◌, length, take}
use Rattle.std.specs.List.{flat_map, AllByRecursion, AllZip, Contains}
use Rattle.hs_calculus.specs.Calculus.{Calculus}
use Rattle.hs_calculus.specs.Search.{derivations, places, derivations_by, places_by}
use Rattle.hs_calculus.specs.Progress.{AnyOf}
use Rattle.hs_calculus.specs.Blame.{IsAnswer, HasNone}
use Rattle.hs_calculus.specs.declared.place.Place.{Place}
use Rattle.hs_calculus.specs.declared.answer.Cause.TheVariants.{Goals, Spent, Rank, Failed}
use Rattle.hs_calculus.specs.declared.answer.Answer.{Answer}
use Rattle.hs_calculus.specs.declared.answer.Answer.TheVariants.{Valid, Unknown}

-- the derivations of a goal are those by its choices, in order
abbrev pub DerivationsAreByChoices : {G R P : Type 0} → Calculus G R P → Type 0
DerivationsAreByChoices {G} c = (rank : ℕ) (goal : G) → derivations c rank goal ≡ flat_map (derivations_by c rank goal) (c.choices goal)

-- the places of a tree are its root and those below its choices, in order
abbrev pub PlacesAreByChoices : {G R P : Type 0} → Calculus G R P → Type 0
PlacesAreByChoices {G} c =
    (rank : ℕ) (goal : G) → places c rank goal ≡ record { goal = goal; rank = rank } ∷ flat_map (places_by c rank goal) (c.choices goal)

-- where the question of a choice is true, the subgoals of such a goal are such again
abbrev pub IsKept : {G R P : Type 0} → Calculus G R P → (G → Type 0) → Type 0
IsKept {G} {R} c Is = (goal : G) (rule : R) → Is goal → Contains (c.choices goal) rule → c.holds goal rule ≡ true → AllByRecursion Is (c.subgoals goal rule)

-- where the question of a choice is true, what parts have for the subgoals the derivation has for such a goal
abbrev pub IsHandedOn : {G R P : Type 0} → Calculus G R P → (G → Type 0) → (G → P → Type 0) → Type 0
IsHandedOn {G} {R} {P} c Is Has =
    (goal : G) (rule : R) (parts : List P) → Is goal → Contains (c.choices goal) rule → c.holds goal rule ≡ true → AllZip Has (c.subgoals goal rule) parts
    → Has goal (c.join goal rule parts)

-- each derivation of such a goal has it
abbrev pub DerivationsHave : {G R P : Type 0} → Calculus G R P → (G → Type 0) → (G → P → Type 0) → Type 0
DerivationsHave {G} c Is Has = (rank : ℕ) (goal : G) → Is goal → AllByRecursion (Has goal) (derivations c rank goal)

-- a tree has at most so many places, and at none of them a question without answer
pub record IsWithin {G R P Q : Type 0} (c : Calculus G R P) (is_spent : G → Q → Type 0) (rank goals : ℕ) (goal : G) : Type 0 where
  pub few : length (places c rank goal) ≤ goals
  pub answered : (q : Q) → ¬ AnyOf (λ (p : Place G). is_spent p.goal q) (places c rank goal)

-- what is answered of a goal whose tree is within the limit
abbrev pub IsSettled : {G R P O Q : Type 0} → Calculus G R P → ℕ → ℕ → G → Answer P Q O → Type 0
IsSettled c rank wanted goal (Valid proofs) = (proofs.items ≡ take wanted (derivations c rank goal)) × ¬ (derivations c rank goal ≡ [])
IsSettled c rank wanted goal (Unknown Goals) = ⊥
IsSettled c rank wanted goal (Unknown (Spent q)) = ⊥
IsSettled c rank wanted goal (Unknown Rank) = derivations c rank goal ≡ []
IsSettled c rank wanted goal (Unknown (Failed o)) = HasNone c goal

-- so it is valid exactly where there is a derivation of the rank
abbrev pub SearchIsComplete : {G R P O Q : Type 0} → Calculus G R P → (G → Q → Type 0) → (G → O → Type 0) → (G → R → O → Type 0) → Type 0
SearchIsComplete {G} {R} {P} {O} {Q} c is_spent is_stuck is_refuted =
    (rank goals wanted : ℕ) (goal : G) (answer : Answer P Q O) → IsAnswer c is_spent is_stuck is_refuted rank goals wanted goal answer
    → IsWithin c is_spent rank goals goal → IsSettled c rank wanted goal answer
