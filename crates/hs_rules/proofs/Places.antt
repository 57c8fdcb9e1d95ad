-- A list at a place.
use Rattle.std.proofs.Common.{◌≡◌, ℕ, zero, suc, ◌-◌, ◌<◌, ◌≤◌, List, [], ◌∷◌, ◌++◌, length, map, get_or, take, drop, refl, sym, ap, subst, arith}
use Rattle.std.proofs.lemmas.List.{length-map}
use Rattle.hs_rules.specs.Parts.{IsPlace}

pub sub-zero_one : (k : ℕ) → suc k - 1 ≡ k
sub-zero_one k = omega arith

split_at : {X : Type 0} (k : ℕ) (xs : List X) (d : X) → k < length xs → take k xs ++ get_or xs k d ∷ drop (suc k) xs ≡ xs
split_at k [] d less = absurd (omega arith)
split_at zero (x ∷ xs) d less = refl
split_at (suc k) (x ∷ xs) d less = ap (λ ys. x ∷ ys) (split_at k xs d (omega arith))

-- the item of a place between those before it and those after it
pub at_place : {X : Type 0} (n : ℕ) (xs : List X) (d : X) → IsPlace n xs → xs ≡ take (n - 1) xs ++ get_or xs (n - 1) d ∷ drop n xs
at_place zero xs d p = let less = p.0 in absurd (omega arith)
at_place (suc k) xs d p =
    let less : k < length xs = p.1 in
    let e = sub-zero_one k in
    rw e (sym (split_at k xs d less))

pub IsPlace-map : {X Y : Type 0} (k : ℕ) (h : X → Y) (xs : List X) → IsPlace k xs → IsPlace k (map h xs)
IsPlace-map k h xs p = let e = length-map xs h in (p.0, subst (λ n. k ≤ n) (sym e) p.1)
