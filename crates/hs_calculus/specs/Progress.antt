-- What a search through places does, and why it stops.
use Rattle.std.specs.Prelude.{ℕ, ◌≡◌, ◌+◌, ◌<◌, ◌≤◌, ◌⊎◌, true, false, List, [], ◌∷◌, length, take}
use Rattle.std.specs.List.{Any}
use Rattle.hs_calculus.specs.Calculus.{Calculus}
use Rattle.hs_calculus.specs.declared.place.Place.{Place}
use Rattle.hs_calculus.specs.declared.budget.Budget.{Budget}
use Rattle.hs_calculus.specs.declared.calculus.Stop.{Stop}
use Rattle.hs_calculus.specs.declared.calculus.Stop.TheVariants.{Goals, Spent, Memory}

-- of some element
abbrev pub AnyOf : {X : Type 0} → (X → Type 0) → List X → Type 0
AnyOf P [] = ⊥
AnyOf P (x ∷ xs) = P x ⊎ AnyOf P xs

-- all the rank is used, and a choice asks for more
abbrev pub IsCut : {G R P : Type 0} → Calculus G R P → Place G → Type 0
IsCut {G} {R} c p = (p.rank ≡ 0) × Any (λ (rule : R). c.is_paid rule ≡ true) (c.choices p.goal)

-- what a search through some of these places does to its budget
pub record Progress {G R P : Type 0} (c : Calculus G R P) (places : List (Place G)) (old new : Budget) : Type 0 where
  pub counted : old.left ≤ new.left + length places
  pub kept : old.is_cut ≡ true → new.is_cut ≡ true
  pub cut : new.is_cut ≡ true → (old.is_cut ≡ true) ⊎ AnyOf (IsCut c) places

-- why a search through these places stops
abbrev pub Stops : {G Q : Type 0} → (G → Q → Type 0) → List (Place G) → ℕ → Stop Q → Type 0
Stops is_spent places left Goals = left < length places
Stops {G} is_spent places left (Spent q) = AnyOf (λ (p : Place G). is_spent p.goal q) places
Stops is_spent places left Memory = Unit {0}

-- why what is asked at a goal stops the search
abbrev pub Halts : {G Q : Type 0} → (G → Q → Type 0) → G → Stop Q → Type 0
Halts is_spent goal Goals = ⊥
Halts is_spent goal (Spent q) = is_spent goal q
Halts is_spent goal Memory = Unit {0}

-- the budget before the goal at hand was counted
abbrev pub uncounted : Budget → Budget
uncounted b = record { left = b.left + 1; is_cut = b.is_cut }

-- a search for the first wanted of all at a rank, through these places: what it found, and what it did to its budget
pub record Searched {G R P X : Type 0} (c : Calculus G R P) (places : List (Place G)) (all : ℕ → List X) (rank wanted : ℕ) (old new : Budget) (found : List X) : Type 0 where
  pub first : found ≡ take wanted (all rank)
  pub progress : Progress c places old new
  -- where nothing was found, and not for want of rank, there is nothing at any rank
  pub empty : found ≡ [] → new.is_cut ≡ false → (r : ℕ) → all r ≡ []
