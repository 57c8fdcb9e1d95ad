-- What holds of each member of a list, or of each number, as far as a loop has come.
use Rattle.std.proofs.Common.{◌≡◌, ℕ, zero, suc, ◌+◌, ◌<◌, ◌≤◌, inl, inr, List, [], ◌∷◌, take, length, get_or, refl, sym, ap, ◌∙◌, subst, arith, add-one}
use Rattle.std.specs.List.{Contains}
use Rattle.std.proofs.lemmas.Bool.{cases_lt}
use Rattle.hs_elimination.proofs.Stage3.{contains_cases, contains_none, contains_head, contains_tail}

more : {X : Type 0} (P : X → Type 0) (xs : List X) (i : ℕ) (x : X) → i < length xs → x ≡ get_or xs i x → ((y : X) → Contains (take i xs) y → P y) → P x → (y : X) → Contains (take (suc i) xs) y → P y
more P [] i x h e before here y c = absurd (omega arith)
more P (z ∷ xs) zero x h e before here y c = elim (contains_cases z y [] c) [ inl is ↦ subst P (e ∙ is) here | inr k ↦ contains_none y k ]
more P (z ∷ xs) (suc i) x h e before here y c = elim (contains_cases z y (take (suc i) xs) c) [
  | inl is ↦ before y (subst (λ w. Contains (z ∷ take i xs) w) is (contains_head z (take i xs)))
  | inr k ↦ more P xs i x (omega arith) e (λ w d. before w (contains_tail z w (take i xs) d)) here y k
]

pub each_more : {X : Type 0} (P : X → Type 0) (xs : List X) (i : ℕ) (x : X) → i < length xs → x ≡ get_or xs i x → ((y : X) → Contains (take i xs) y → P y) → P x → (y : X) → Contains (take (i + 1) xs) y → P y
each_more P xs i x h e before here y c = more P xs i x h e before here y (subst (λ (n : ℕ). Contains (take n xs) y) (add-one i) c)

take_whole : {X : Type 0} (xs : List X) (i : ℕ) → length xs ≤ i → take i xs ≡ xs
take_whole [] zero h = refl
take_whole [] (suc i) h = refl
take_whole (x ∷ xs) zero h = absurd (omega arith)
take_whole (x ∷ xs) (suc i) h = ap (λ ys. x ∷ ys) (take_whole xs i (omega arith))

pub each_whole : {X : Type 0} (P : X → Type 0) (xs : List X) (i : ℕ) → length xs ≤ i → ((y : X) → Contains (take i xs) y → P y) → (y : X) → Contains xs y → P y
each_whole P xs i h before y c = before y (subst (λ ys. Contains ys y) (sym (take_whole xs i h)) c)

pub each_next : (P : ℕ → Type 0) (j : ℕ) → ((i : ℕ) → 1 ≤ i → i < j → P i) → P j → (i : ℕ) → 1 ≤ i → i < j + 1 → P i
each_next P j before here i h k = elim (cases_lt i j) [ inl p ↦ before i h p | inr p ↦ (let e : j ≡ i = omega arith in subst P e here) ]
