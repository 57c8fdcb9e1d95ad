use Rattle.std.proofs.Common.{ℕ, ◌≡◌, Bool, true, false, cond, Option, Some, None, List, [], ◌∷◌, ◌++◌, map, zero, suc, refl, ap, ◌∙◌}
use Rattle.std.specs.List.{flat_map}
use Rattle.std.proofs.lemmas.List.Concat.{flat_map-append}
use Rattle.hs_calculus.specs.Calculus.{Calculus, Falls}
use Rattle.hs_calculus.specs.Search.{branch, one_less, derivations, places, derivations_by, places_by, derive, gather, rank_after, one_of_each}
use Rattle.hs_calculus.specs.declared.place.Place.{Place}
use Rattle.hs_calculus.proofs.Over.{over_is}

pub flat_map-flat_map : {X Y Z : Type 0} (f : Y → List Z) (h : X → List Y) (xs : List X) → flat_map f (flat_map h xs) ≡ flat_map (λ x. flat_map f (h x)) xs
flat_map-flat_map f h [] = refl
flat_map-flat_map f h (x ∷ xs) = flat_map-append f (h x) (flat_map h xs) ∙ ap (λ zs. flat_map f (h x) ++ zs) (flat_map-flat_map f h xs)

pub flat_map-map : {X Y Z : Type 0} (f : Y → List Z) (h : X → Y) (xs : List X) → flat_map f (map h xs) ≡ flat_map (λ x. f (h x)) xs
flat_map-map f h [] = refl
flat_map-map f h (x ∷ xs) = ap (λ zs. f (h x) ++ zs) (flat_map-map f h xs)

pub append-nil : {X : Type 0} (xs : List X) → xs ++ [] ≡ xs
append-nil [] = refl
append-nil (x ∷ xs) = ap (λ ys. x ∷ ys) (append-nil xs)

pub flat_map_same : {X Y : Type 0} (f g : X → List Y) (xs : List X) → ((x : X) → f x ≡ g x) → flat_map f xs ≡ flat_map g xs
flat_map_same f g [] h = refl
flat_map_same f g (x ∷ xs) h = let e : flat_map f xs ≡ flat_map g xs = flat_map_same f g xs h in let d : f x ≡ g x = h x in cc

module _ {G R P A : Type 0} (c : Calculus G R P) (B : Type 0) (f : ℕ → G → A) (then : R → List A → List B) where
  -- a flat_map over the branches of a goal is one over its choices
  by_branch : ℕ → G → R → List B
  by_branch rank g rule = elim (rank_after (c.is_paid rule) rank) [ None ↦ [] | Some left ↦ then rule (map (f left) (c.subgoals g rule)) ]

  branch_is : (rank : ℕ) (g : G) (rule : R)
      → flat_map (λ (b : R × List A). then b.0 b.1) (branch c (one_less f rank) (f rank) g rule) ≡ by_branch rank g rule
  unfolding by_branch
  branch_is rank g rule = go (c.is_paid rule) rank
    where
      go : (paid : Bool) (rank : ℕ)
          → flat_map (λ (b : R × List A). then b.0 b.1) (cond {A = List (R × List A)} paid (elim (one_less f rank) [ None ↦ [] | Some f ↦ (rule, map f (c.subgoals g rule)) ∷ [] ]) ((rule, map (f rank) (c.subgoals g rule)) ∷ []))
          ≡ elim (rank_after paid rank) [ None ↦ [] | Some left ↦ then rule (map (f left) (c.subgoals g rule)) ]
      go false rank = append-nil (then rule (map (f rank) (c.subgoals g rule)))
      go true zero = refl
      go true (suc rank) = append-nil (then rule (map (f rank) (c.subgoals g rule)))

  branches_are : (rank : ℕ) (g : G)
      → flat_map (λ (b : R × List A). then b.0 b.1) (flat_map (branch c (one_less f rank) (f rank) g) (c.choices g)) ≡ flat_map (by_branch rank g) (c.choices g)
  branches_are rank g = flat_map-flat_map _ _ (c.choices g) ∙ flat_map_same _ _ (c.choices g) (branch_is rank g)

module _ {G R P : Type 0} (c : Calculus G R P) (falls : Falls c) where
  pub derivations_is : (rank : ℕ) (g : G) → derivations c rank g ≡ flat_map (derivations_by c rank g) (c.choices g)
  unfolding derivations by_branch
  derivations_is rank g =
      over_is c falls (derive c) rank g
      ∙ branches_are c P (derivations c) (λ rule parts. map (c.join g rule) (cond (c.holds g rule) (one_of_each parts) [])) rank g
      ∙ flat_map_same _ _ (c.choices g) (λ (rule : R). go rule (rank_after (c.is_paid rule) rank))
    where
      go : (rule : R) (left : Option ℕ)
          → ◌≡◌ {A = List P} (elim left [ None ↦ [] | Some left ↦ map (c.join g rule) (cond (c.holds g rule) (one_of_each (map (derivations c left) (c.subgoals g rule))) []) ])
          (map (c.join g rule) (elim left [ None ↦ [] | Some left ↦ cond (c.holds g rule) (one_of_each (map (derivations c left) (c.subgoals g rule))) [] ]))
      go rule None = refl
      go rule (Some left) = refl

  pub places_is : (rank : ℕ) (g : G) → places c rank g ≡ record { goal = g; rank = rank } ∷ flat_map (places_by c rank g) (c.choices g)
  unfolding places by_branch
  places_is rank g =
      over_is c falls gather rank g
      ∙ ap (λ (ps : List (Place G)). record { goal = g; rank = rank } ∷ ps) (branches_are c (Place G) (places c) (λ rule parts. flat_map (λ ps. ps) parts) rank g
      ∙ flat_map_same _ _ (c.choices g) (λ (rule : R). go rule (rank_after (c.is_paid rule) rank)))
    where
      go : (rule : R) (left : Option ℕ) → ◌≡◌ {A = List (Place G)} (elim left [ None ↦ [] | Some left ↦ flat_map (λ ps. ps) (map (places c left) (c.subgoals g rule)) ]) (elim left [ None ↦ [] | Some left ↦ flat_map (places c left) (c.subgoals g rule) ])
      go rule None = refl
      go rule (Some left) = flat_map-map (λ ps. ps) (places c left) (c.subgoals g rule)
