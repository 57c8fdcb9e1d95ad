-- Slots as a list: writing one, those of a callee, and their values as values of variables.
use Rattle.std.proofs.Common.{◌≡◌, ◌==◌, ◌⊎◌, inl, inr, ℕ, zero, suc, ◌+◌, ◌-◌, ◌<◌, ◌≤◌, ℤ, pos, Bool, true, false, List, [], ◌∷◌, ◌++◌, length, map, take, slice_set, slice_index_or, refl, ◌∙◌, ap, arith, if◌then◌else◌}
use Rattle.std.specs.Prelude.{replicate}
use Rattle.std.proofs.lemmas.Bool.Decides.{nat_tests}
use Rattle.hs_pure.specs.Stack.{number_value}
use Rattle.hs_pure.specs.Eval.{found, stack_of}
use Rattle.hs_core.specs.Machine.{numbered, updated, stack_at}
use Rattle.hs_core.specs.Sound.{IsUpTo}
use Rattle.hs_machine.specs.Read.{slots_of, listed_vars}

-- ---- writing one

item_set : (xs : List ℤ) (i j : ℕ) (x d : ℤ) → i < length xs → slice_index_or (slice_set xs i x) j d ≡ (if j == i then x else slice_index_or xs j d)
item_set [] i j x d less = absurd (omega arith)
item_set (y ∷ ys) zero zero x d less = refl
item_set (y ∷ ys) zero (suc j) x d less = let f : (suc j == zero) ≡ false = grind (arith, nat_tests) in rw f
item_set (y ∷ ys) (suc i) zero x d less = let f : (zero == suc i) ≡ false = grind (arith, nat_tests) in rw f
item_set (y ∷ ys) (suc i) (suc j) x d less = elim (bool_cases (j == i)) [
  | inl t ↦ let u : (suc j == suc i) ≡ true = grind (arith, nat_tests) in rw u (item_set ys i j x d (omega arith) ∙ rw t)
  | inr f ↦ let u : (suc j == suc i) ≡ false = grind (arith, nat_tests) in rw u (item_set ys i j x d (omega arith) ∙ rw f)
]
  where
    bool_cases : (b : Bool) → (b ≡ true) ⊎ (b ≡ false)
    bool_cases true = inl refl
    bool_cases false = inr refl

slot_set : (xs : List ℤ) (i j : ℕ) (x : ℤ) → i < length xs → slots_of (slice_set xs i x) j ≡ updated (slots_of xs) (suc i) x j
slot_set xs i zero x less = let f : (zero == suc i) ≡ false = grind (arith, nat_tests) in rw f
slot_set xs i (suc j) x less = elim (bool_cases (j == i)) [
  | inl t ↦ let u : (suc j == suc i) ≡ true = grind (arith, nat_tests) in rw u (item_set xs i j x (pos 0) less ∙ rw t)
  | inr f ↦ let u : (suc j == suc i) ≡ false = grind (arith, nat_tests) in rw u (item_set xs i j x (pos 0) less ∙ rw f)
]
  where
    bool_cases : (b : Bool) → (b ≡ true) ⊎ (b ≡ false)
    bool_cases true = inl refl
    bool_cases false = inr refl

pub slots_set : (xs : List ℤ) (k : ℕ) (x : ℤ) → IsUpTo (length xs) k → slots_of (slice_set xs (k - 1) x) ≡ updated (slots_of xs) k x
slots_set xs zero x (low, high) = absurd (omega arith)
slots_set xs (suc i) x (low, high) = let e : suc i - 1 ≡ i = omega arith in rw e (λ j k. slot_set xs i k x (omega arith) j)

-- ---- those of a callee

zeros : (n j : ℕ) → slice_index_or (replicate n (pos 0)) j (pos 0) ≡ pos 0
zeros zero j = refl
zeros (suc n) zero = refl
zeros (suc n) (suc j) = zeros n j

filled : (xs : List ℤ) (n j : ℕ) → slice_index_or (xs ++ replicate n (pos 0)) j (pos 0) ≡ slice_index_or xs j (pos 0)
filled [] n j = zeros n j
filled (x ∷ xs) n zero = refl
filled (x ∷ xs) n (suc j) = filled xs n j

slot_filled : (xs : List ℤ) (n k : ℕ) → slots_of (xs ++ replicate n (pos 0)) k ≡ slots_of xs k
slot_filled xs n zero = refl
slot_filled xs n (suc j) = filled xs n j

pub slots_filled : (xs : List ℤ) (n : ℕ) → slots_of (xs ++ replicate n (pos 0)) ≡ slots_of xs
slots_filled xs n = λ e k. slot_filled xs n k e

-- ---- as values of variables

found_at : (n j k : ℕ) (xs : List ℤ) → k ≡ n + j → found (listed_vars n xs) (record { number = k; bag = false }) ≡ slice_index_or xs j (pos 0)
found_at n j k [] e = refl
found_at n zero k (x ∷ xs) e = let t : (n == k) ≡ true = grind (arith, nat_tests) in rw t
found_at n (suc j) k (x ∷ xs) e = let f : (n == k) ≡ false = grind (arith, nat_tests) in rw f (found_at (suc n) j k xs (omega arith))

found_low : (n k : ℕ) (xs : List ℤ) → k < n → found (listed_vars n xs) (record { number = k; bag = false }) ≡ pos 0
found_low n k [] less = refl
found_low n k (x ∷ xs) less = let f : (n == k) ≡ false = grind (arith, nat_tests) in rw f (found_low (suc n) k xs (omega arith))

found_bag : (n k : ℕ) (xs : List ℤ) → found (listed_vars n xs) (record { number = k; bag = true }) ≡ pos 0
found_bag n k [] = refl
found_bag n k (x ∷ xs) = elim (bool_cases (n == k)) [
  | inl t ↦ rw t (found_bag (suc n) k xs)
  | inr f ↦ rw f (found_bag (suc n) k xs)
]
  where
    bool_cases : (b : Bool) → (b ≡ true) ⊎ (b ≡ false)
    bool_cases true = inl refl
    bool_cases false = inr refl

found_slot : (xs : List ℤ) (k : ℕ) (b : Bool) → found (listed_vars 1 xs) (record { number = k; bag = b }) ≡ (if b then pos 0 else slots_of xs k)
found_slot xs k true = found_bag 1 k xs
found_slot xs zero false = found_low 1 zero xs (omega arith)
found_slot xs (suc j) false = found_at 1 j (suc j) xs (omega arith)

pub slots_valued : (xs : List ℤ) → stack_of (record { numbers = listed_vars 1 xs; bags = [] }) ≡ stack_at (slots_of xs)
slots_valued xs = λ e v. number_value (found_slot xs v.number v.bag e)

-- one value more
pub listed_push : (n : ℕ) (xs : List ℤ) (x : ℤ) → listed_vars n (xs ++ x ∷ []) ≡ listed_vars n xs ++ (record { number = n + length xs; bag = false }, x) ∷ []
listed_push n [] x = let e : n ≡ n + 0 = omega arith in ap (λ k. (record { number = k; bag = false }, x) ∷ []) e
listed_push n (y ∷ ys) x =
    let e : suc n + length ys ≡ n + length (y ∷ ys) = omega arith in
    ap (λ t. (record { number = n; bag = false }, y) ∷ t) (listed_push (suc n) ys x ∙ ap (λ k. listed_vars (suc n) ys ++ (record { number = k; bag = false }, x) ∷ []) e)

-- ---- items of a list by number

pub numbered_item : (xs : List ℤ) (k : ℕ) (d : ℤ) → IsUpTo (length xs) k → numbered xs k d ≡ slice_index_or xs (k - 1) d
numbered_item xs zero d (low, high) = absurd (omega arith)
numbered_item xs (suc i) d up = let e : suc i - 1 ≡ i = omega arith in rw e

pub item_any : (xs : List ℤ) (i : ℕ) (d e : ℤ) → i < length xs → slice_index_or xs i d ≡ slice_index_or xs i e
item_any [] i d e less = absurd (omega arith)
item_any (x ∷ xs) zero d e less = refl
item_any (x ∷ xs) (suc i) d e less = item_any xs i d e (omega arith)

-- the values of one slot more
pub mapped_more : (f : ℕ → ℤ) (ks : List ℕ) (i d : ℕ) → i < length ks → map f (take (suc i) ks) ≡ map f (take i ks) ++ f (slice_index_or ks i d) ∷ []
mapped_more f [] i d less = absurd (omega arith)
mapped_more f (k ∷ ks) zero d less = refl
mapped_more f (k ∷ ks) (suc i) d less = ap (λ t. f k ∷ t) (mapped_more f ks i d (omega arith))

pub take_length : (xs : List ℤ) (i : ℕ) → i ≤ length xs → length (take i xs) ≡ i
take_length xs zero le = refl
take_length [] (suc i) le = absurd (omega arith)
take_length (x ∷ xs) (suc i) le = ap suc (take_length xs i (omega arith))

pub take_whole : (xs : List ℤ) (i : ℕ) → length xs ≤ i → take i xs ≡ xs
take_whole [] zero le = refl
take_whole [] (suc i) le = refl
take_whole (x ∷ xs) zero le = absurd (omega arith)
take_whole (x ∷ xs) (suc i) le = ap (λ t. x ∷ t) (take_whole xs i (omega arith))
