-- The tree of a goal, and its derivations, in order.
use Rattle.std.specs.Prelude.{ℕ, ◌≡◌, Bool, true, false, cond, Option, Some, None, List, [], ◌∷◌, ◌++◌, map, zero, suc}
use Rattle.std.specs.List.{flat_map, fold, AllByRecursion, AllZip, Contains}
use Rattle.hs_calculus.specs.Calculus.{Calculus}
use Rattle.hs_calculus.specs.declared.place.Place.{Place}

-- each row, longer by one of these
abbrev pub extended : {A : Type 0} → List (List A) → List A → List (List A)
extended rows xs = flat_map (λ row. map (λ x. row ++ x ∷ []) xs) rows

-- one of each list, in order: the first list counts most
abbrev pub one_of_each : {A : Type 0} → List (List A) → List (List A)
one_of_each lists = fold extended ([] ∷ []) lists

-- what f gives at one rank less, if there is one
abbrev pub one_less : {X : Type 0} → (ℕ → X) → ℕ → Option X
one_less f zero = None
one_less f (suc rank) = Some (f rank)

-- what is left of the rank after a rule that is paid, or is not
abbrev pub rank_after : Bool → ℕ → Option ℕ
rank_after false rank = Some rank
rank_after true zero = None
rank_after true (suc rank) = Some rank

module _ {G R P A : Type 0} where
  -- a rule with what is below it for each of its subgoals, or nothing where it cannot be paid
  abbrev pub branch : Calculus G R P → Option (G → A) → (G → A) → G → R → List (R × List A)
  branch c paid free g rule =
      cond (c.is_paid rule)
      (elim paid [ None ↦ [] | Some f ↦ (rule, map f (c.subgoals g rule)) ∷ [] ])
      ((rule, map free (c.subgoals g rule)) ∷ [])

  -- the fold over a tree at one rank, as deep as the fuel
  unfoldable pub within : Calculus G R P → (ℕ → G → List (R × List A) → A) → ℕ → Option (G → A) → ℕ → G → A
  within c step rank paid zero g = step rank g []
  within c step rank paid (suc fuel) g = step rank g (flat_map (branch c paid (within c step rank paid fuel) g) (c.choices g))

  -- a fold over the tree of a goal at a rank: by what it is at the rules and subgoals below
  unfoldable pub over : Calculus G R P → (ℕ → G → List (R × List A) → A) → ℕ → G → A
  over c step zero g = within c step zero None (suc (c.size g)) g
  over c step (suc rank) g = within c step (suc rank) (Some (over c step rank)) (suc (c.size g)) g

-- a place, and those of all its branches
abbrev pub gather : {G R : Type 0} → ℕ → G → List (R × List (List (Place G))) → List (Place G)
gather {G} {R} rank g branches =
    record { goal = g; rank = rank } ∷ flat_map (λ (b : R × List (List (Place G))). flat_map (λ places. places) b.1) branches

module _ {G R P : Type 0} where
  -- the derivations by each branch whose question is true
  abbrev pub derive : Calculus G R P → ℕ → G → List (R × List (List P)) → List P
  derive c rank g branches =
      flat_map (λ (b : R × List (List P)). map (c.join g b.0) (cond (c.holds g b.0) (one_of_each b.1) [])) branches

  -- the derivations of a goal of at most a rank, in order
  unfoldable pub derivations : Calculus G R P → ℕ → G → List P
  derivations c = over c (derive c)

  -- the places of the tree of a goal at a rank
  unfoldable pub places : Calculus G R P → ℕ → G → List (Place G)
  places c = over c gather

  -- the rows of one derivation for each subgoal of a rule
  abbrev pub rows_by : Calculus G R P → ℕ → G → R → List (List P)
  rows_by c rank g rule =
      elim (rank_after (c.is_paid rule) rank) [
        | None ↦ []
        | Some left ↦ cond (c.holds g rule) (one_of_each (map (derivations c left) (c.subgoals g rule))) []
      ]

  -- the derivations of a goal that begin with a rule
  abbrev pub derivations_by : Calculus G R P → ℕ → G → R → List P
  derivations_by c rank g rule = map (c.join g rule) (rows_by c rank g rule)

  -- the places of a tree below a rule at its root
  abbrev pub places_by : Calculus G R P → ℕ → G → R → List (Place G)
  places_by c rank g rule =
      elim (rank_after (c.is_paid rule) rank) [ None ↦ [] | Some left ↦ flat_map (places c left) (c.subgoals g rule) ]

-- a derivation of a goal, of some rank
abbrev pub IsDerivation : {G R P : Type 0} → Calculus G R P → G → P → Type 0
IsDerivation c goal proof = (rank : ℕ) × Contains (derivations c rank goal) proof

-- a choice whose question is true, with one derivation for each subgoal
pub record MayJoin {G R P : Type 0} (c : Calculus G R P) (is_goal : G → Type 0) (goal : G) (rule : R) (parts : List P) : Type 0 where
  pub goal_is : is_goal goal
  pub choice : Contains (c.choices goal) rule
  pub holds : c.holds goal rule ≡ true
  pub parts_are : AllZip (IsDerivation c) (c.subgoals goal rule) parts

-- the same of each of these rows
abbrev pub MayJoinEach : {G R P : Type 0} → Calculus G R P → (G → Type 0) → G → R → List (List P) → Type 0
MayJoinEach c is_goal goal rule rows = AllByRecursion (MayJoin c is_goal goal rule) rows
