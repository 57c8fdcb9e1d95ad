use Rattle.std.proofs.Common.{ℕ, ◌<◌, ◌≡◌, Bool, true, false, cond, Option, Some, None, List, [], ◌∷◌, map, zero, suc, refl, ap, arith}
use Rattle.std.specs.List.{flat_map, AllByRecursion}
use Rattle.hs_calculus.specs.Calculus.{Calculus, Falls}
use Rattle.hs_calculus.specs.Search.{branch, within, over, one_less}

-- two functions that agree on each element map alike
pub map_agree : {X Y : Type 0} (f g : X → Y) (xs : List X) → AllByRecursion (λ x. f x ≡ g x) xs → map f xs ≡ map g xs
map_agree f g [] h = refl
map_agree f g (x ∷ xs) h = let e : map f xs ≡ map g xs = map_agree f g xs h.1 in let d : f x ≡ g x = h.0 in cc

pub flat_map_agree : {X Y : Type 0} (f g : X → List Y) (xs : List X) → AllByRecursion (λ x. f x ≡ g x) xs → flat_map f xs ≡ flat_map g xs
flat_map_agree f g [] h = refl
flat_map_agree f g (x ∷ xs) h = let e : flat_map f xs ≡ flat_map g xs = flat_map_agree f g xs h.1 in let d : f x ≡ g x = h.0 in cc

pub All_weaker : {X : Type 0} (P Q : X → Type 0) (xs : List X) → ((x : X) → P x → Q x) → AllByRecursion P xs → AllByRecursion Q xs
All_weaker P Q [] f h = h
All_weaker P Q (x ∷ xs) f h = (f x h.0, All_weaker P Q xs f h.1)

module _ {G R P A : Type 0} (c : Calculus G R P) (falls : Falls c) (step : ℕ → G → List (R × List A) → A) where
  branch_agree : (paid : Option (G → A)) (f h : G → A) (g : G) (rule : R)
      → (c.is_paid rule ≡ false → map f (c.subgoals g rule) ≡ map h (c.subgoals g rule)) → branch c paid f g rule ≡ branch c paid h g rule
  branch_agree paid f h g rule e = go (c.is_paid rule) e
    where
      go : (b : Bool) → (b ≡ false → map f (c.subgoals g rule) ≡ map h (c.subgoals g rule))
          → cond {A = List (R × List A)} b (elim paid [ None ↦ [] | Some f ↦ (rule, map f (c.subgoals g rule)) ∷ [] ]) ((rule, map f (c.subgoals g rule)) ∷ [])
          ≡ cond {A = List (R × List A)} b (elim paid [ None ↦ [] | Some f ↦ (rule, map f (c.subgoals g rule)) ∷ [] ]) ((rule, map h (c.subgoals g rule)) ∷ [])
      go true e = refl
      go false e = ap (λ (ys : List A). (rule, ys) ∷ []) (e refl)

  branches_agree : (paid : Option (G → A)) (f h : G → A) (g : G) → ((s : G) → c.size s < c.size g → f s ≡ h s)
      → flat_map (branch c paid f g) (c.choices g) ≡ flat_map (branch c paid h g) (c.choices g)
  branches_agree paid f h g e =
      flat_map_agree (branch c paid f g) (branch c paid h g) (c.choices g)
      (All_weaker _ _ (c.choices g) (λ rule fall. branch_agree paid f h g rule (λ free. map_agree f h (c.subgoals g rule) (All_weaker _ _ (c.subgoals g rule) e (fall free)))) (falls g))

  same_fuel : (rank : ℕ) (paid : Option (G → A)) (m n : ℕ) (g : G) → c.size g < m → c.size g < n → within c step rank paid m g ≡ within c step rank paid n g
  unfolding within
  same_fuel rank paid zero n g a b = absurd (omega arith)
  same_fuel rank paid (suc m) zero g a b = absurd (omega arith)
  same_fuel rank paid (suc m) (suc n) g a b =
      ap (step rank g) (branches_agree paid (within c step rank paid m) (within c step rank paid n) g (λ s l. same_fuel rank paid m n s (omega arith) (omega arith)))

  -- what the fold is at a goal, from what it is at the subgoals
  pub over_is : (rank : ℕ) (g : G) → over c step rank g ≡ step rank g (flat_map (branch c (one_less (over c step) rank) (over c step rank) g) (c.choices g))
  unfolding over within
  over_is zero g = ap (step zero g) (branches_agree None (within c step zero None (c.size g)) (over c step zero) g (λ s l. same_fuel zero None (c.size g) (suc (c.size s)) s l (omega arith)))
  over_is (suc rank) g = ap (step (suc rank) g) (branches_agree (Some (over c step rank)) (within c step (suc rank) (Some (over c step rank)) (c.size g)) (over c step (suc rank)) g (λ s l. same_fuel (suc rank) (Some (over c step rank)) (c.size g) (suc (c.size s)) s l (omega arith)))
