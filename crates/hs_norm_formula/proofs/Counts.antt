-- Lists that are cut off.
use Rattle.std.proofs.Common.{◌≡◌, ℕ, ◌-◌, ◌≤◌, ◌^◌, List, length, take, min, sym, ap, ◌∙◌, arith, ◌⊎◌, ⊎_elim}
use Rattle.std.proofs.lemmas.List.{take_all}
use Rattle.hs_norm_formula.specs.Numbered.{nameable}

cut : {A : Type 0} (xs : List A) (m k : ℕ) → ((k ≡ m) ⊎ ((length xs ≤ k) × (length xs ≤ m))) → take k xs ≡ take m xs
cut xs m k = ⊎_elim (λ e. ap (λ i. take i xs) e) (λ h. take_all k xs h.0 ∙ sym (take_all m xs h.1))

pub nameable_min : {A : Type 0} (xs : List A) (k m : ℕ) → k ≤ m → m ≤ k → m ≡ min (length xs) (2 ^ 32 - 1) → take k xs ≡ nameable xs
nameable_min xs k m le ge e = cut xs (2 ^ 32 - 1) k (of (length xs) k m le ge e)
  where
    of : (n k m : ℕ) → k ≤ m → m ≤ k → m ≡ min n (2 ^ 32 - 1) → (k ≡ 2 ^ 32 - 1) ⊎ ((n ≤ k) × (n ≤ 2 ^ 32 - 1))
    of n k m le ge e = grind arith
