-- What is to blame where there is no derivation, and what each answer says.
use Rattle.std.specs.Prelude.{ℕ, ◌≡◌, ◌⊎◌, ◌<◌, List, [], ◌∷◌, ◌++◌, take, length}
use Rattle.std.specs.List.{AllByRecursion}
use Rattle.hs_calculus.specs.Calculus.{Calculus}
use Rattle.hs_calculus.specs.Search.{derivations, places}
use Rattle.hs_calculus.specs.Progress.{AnyOf, IsCut}
use Rattle.hs_calculus.specs.declared.place.Place.{Place}
use Rattle.hs_calculus.specs.declared.answer.Cause.TheVariants.{Goals, Spent, Rank, Failed}
use Rattle.hs_calculus.specs.declared.answer.Answer.{Answer}
use Rattle.hs_calculus.specs.declared.answer.Answer.TheVariants.{Valid, Unknown}

abbrev pub HasDerivation : {G R P : Type 0} → Calculus G R P → G → Type 0
HasDerivation c goal = (rank : ℕ) × ¬ (derivations c rank goal ≡ [])

abbrev pub HasNone : {G R P : Type 0} → Calculus G R P → G → Type 0
HasNone c goal = (rank : ℕ) → derivations c rank goal ≡ []

-- what is to blame for a goal without any derivation
pub data IsBlame {G R P O : Type 0} (c : Calculus G R P) (is_stuck : G → O → Type 0) (is_refuted : G → R → O → Type 0) : G → O → Type 0 where
  -- there is no choice
  Stuck : {goal : G} {o : O} → c.choices goal ≡ [] → is_stuck goal o → IsBlame c is_stuck is_refuted goal o
  -- the question of the first choice is false
  Refuted : {goal : G} {o : O} (rule : R) (rest : List R) → c.choices goal ≡ rule ∷ rest → is_refuted goal rule o → IsBlame c is_stuck is_refuted goal o
  -- of the subgoals of the first choice, the first without derivation
  Below : {goal : G} {o : O} (rule : R) (rest : List R) (before : List G) (subgoal : G) (after : List G)
      → c.choices goal ≡ rule ∷ rest → c.subgoals goal rule ≡ before ++ subgoal ∷ after
      → AllByRecursion (HasDerivation c) before → HasNone c subgoal
      → IsBlame c is_stuck is_refuted subgoal o → IsBlame c is_stuck is_refuted goal o

-- the first of some goals without derivation, and what is to blame for it
pub record BlamedAmong {G R P O : Type 0} (c : Calculus G R P) (is_stuck : G → O → Type 0) (is_refuted : G → R → O → Type 0) (goals : List G) (o : O) : Type 0 where
  pub before : List G
  pub goal : G
  pub after : List G
  pub split : goals ≡ before ++ goal ∷ after
  pub some : AllByRecursion (HasDerivation c) before
  pub none : HasNone c goal
  pub blame : IsBlame c is_stuck is_refuted goal o

-- what is to blame for a choice
abbrev pub BlamedBy : {G R P O : Type 0} → Calculus G R P → (G → O → Type 0) → (G → R → O → Type 0) → G → R → O → Type 0
BlamedBy c is_stuck is_refuted goal rule o = is_refuted goal rule o ⊎ BlamedAmong c is_stuck is_refuted (c.subgoals goal rule) o

-- what each answer of the search says
abbrev pub IsAnswer : {G R P O Q : Type 0} → Calculus G R P → (G → Q → Type 0) → (G → O → Type 0) → (G → R → O → Type 0) → ℕ → ℕ → ℕ → G → Answer P Q O → Type 0
IsAnswer c is_spent is_stuck is_refuted rank goals wanted goal (Valid proofs) = (proofs.items ≡ take wanted (derivations c rank goal)) × ¬ (proofs.items ≡ [])
IsAnswer c is_spent is_stuck is_refuted rank goals wanted goal (Unknown Goals) = goals < length (places c rank goal)
IsAnswer {G} c is_spent is_stuck is_refuted rank goals wanted goal (Unknown (Spent q)) = AnyOf (λ (p : Place G). is_spent p.goal q) (places c rank goal)
IsAnswer c is_spent is_stuck is_refuted rank goals wanted goal (Unknown Rank) = (derivations c rank goal ≡ []) × AnyOf (IsCut c) (places c rank goal)
IsAnswer c is_spent is_stuck is_refuted rank goals wanted goal (Unknown (Failed o)) = HasNone c goal × IsBlame c is_stuck is_refuted goal o
