-- The elements of a bag: what is none of them has the count 0.
use Rattle.std.proofs.Common.{◌≡◌, ℕ, ℤ, Bool, true, false, inl, inr, Option, Some, None, is_some, List, [], ◌∷◌, ◌++◌, refl, sym, ◌∙◌, arith}
use Rattle.std.specs.FinMap
use Rattle.std.specs.Ordering.{int_eq}
use Rattle.std.specs.List.{list_any}
use Rattle.std.proofs.lemmas.Bool.{cases_Bool, or_parts}
use Rattle.std.proofs.lemmas.Bool.Decides.{Decides-int_eq}
use Rattle.std.proofs.lemmas.List.Folds.{list_any-append}
use Rattle.hs_pure.specs.Multiset.{count_kept}
use Rattle.hs_pure.specs.Stack.{Stack}
use Rattle.hs_pure.specs.Assertion.{BagTerm, empty, name, one, union, inter, diff}
use Rattle.hs_pure.specs.Truth.{value, count}

-- the elements that a bag may have
abbrev pub elements : Stack → BagTerm → List ℤ
elements s empty = []
elements s (name v) = FinMap.keys (s v).bag
elements s (one a) = value s a ∷ []
elements s (union a b) = elements s a ++ elements s b
elements s (inter a b) = elements s a
elements s (diff a b) = elements s a

abbrev pub is_among : ℤ → List ℤ → Bool
is_among x xs = list_any (int_eq x) xs

absent : (o : Option ℕ) → is_some o ≡ false → count_kept o ≡ 0
absent None e = refl
absent (Some n) e = absurd cc

pub apart : (x : ℤ) (xs ys : List ℤ) → is_among x (xs ++ ys) ≡ false → (is_among x xs ≡ false) × (is_among x ys ≡ false)
apart x xs ys e = or_parts (is_among x xs) (is_among x ys) (sym (list_any-append (int_eq x) xs ys) ∙ e)

-- nothing else is in the bag
pub none_else : (s : Stack) (b : BagTerm) (x : ℤ) → is_among x (elements s b) ≡ false → count s b x ≡ 0
none_else s empty x e = refl
none_else s (name v) x e = absent (FinMap.get (s v).bag x) (FinMap.contains_key-keys (s v).bag x ∙ e)
none_else s (one a) x e = elim (cases_Bool (int_eq (value s a) x)) [
  | inl is ↦
      let f : value s a ≡ x = (Decides-int_eq (value s a) x).0 is in
      let g : int_eq x (value s a) ≡ true = (Decides-int_eq x (value s a)).1 (sym f) in
      let h : int_eq x (value s a) ≡ false = (or_parts (int_eq x (value s a)) false e).0 in
      absurd cc
  | inr isnt ↦ rw isnt refl
]
none_else s (union a b) x e = let k = apart x (elements s a) (elements s b) e in let l = none_else s a x k.0 in let r = none_else s b x k.1 in omega arith
none_else s (inter a b) x e = let l = none_else s a x e in omega arith
none_else s (diff a b) x e = let l = none_else s a x e in omega arith
