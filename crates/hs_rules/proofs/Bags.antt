-- Each bag has a value with its counts.
use Rattle.std.proofs.Common.{◌≡◌, ℕ, ℤ, true, false, ◌⊎◌, inl, inr, List, [], ◌∷◌, refl, sym, ap, ◌∙◌, if◌then◌else◌}
use Rattle.std.specs.Ordering.{int_eq}
use Rattle.std.proofs.lemmas.Bool.Decides.{Decides-int_eq}
use Rattle.hs_pure.specs.Multiset
use Rattle.hs_pure.specs.Multiset.{Multiset, nothing, set_count}
use Rattle.hs_pure.specs.Stack.{Stack}
use Rattle.hs_pure.specs.Assertion.{BagTerm}
use Rattle.hs_pure.specs.Truth.{count}
use Rattle.hs_pure.proofs.Listed.{count-nothing, count-set_count}
use Rattle.hs_heap.proofs.Booleans.{bool_cases}
use Rattle.hs_truth.proofs.Elements.{elements, is_among, none_else}

-- these elements with their counts
abbrev filled : (ℤ → ℕ) → List ℤ → Multiset
filled n [] = nothing
filled n (x ∷ xs) = set_count (filled n xs) x (n x)

filled-count : (n : ℤ → ℕ) (xs : List ℤ) (y : ℤ) → Multiset.count (filled n xs) y ≡ (if is_among y xs then n y else 0)
filled-count n [] y = count-nothing y
filled-count n (x ∷ xs) y = count-set_count (filled n xs) x (n x) y ∙ elim (bool_cases (int_eq y x)) [
  | inl is ↦ let f : x ≡ y = sym ((Decides-int_eq y x).0 is) in rw is (ap n f)
  | inr isnt ↦ rw isnt (filled-count n xs y)
]

counted : (s : Stack) (c : BagTerm) (x : ℤ) → (is_among x (elements s c) ≡ true) ⊎ (is_among x (elements s c) ≡ false) → (if is_among x (elements s c) then count s c x else 0) ≡ count s c x
counted s c x (inl is) = rw is refl
counted s c x (inr isnt) = rw isnt (sym (none_else s c x isnt))

pub value_of : (s : Stack) (c : BagTerm) → (m : Multiset) × ((x : ℤ) → Multiset.count m x ≡ count s c x)
value_of s c = (filled (count s c) (elements s c), λ x. filled-count (count s c) (elements s c) x ∙ counted s c x (bool_cases (is_among x (elements s c))))
