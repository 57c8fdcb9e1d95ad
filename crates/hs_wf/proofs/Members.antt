-- What stands in a list.
use Rattle.std.proofs.Common.{◌≡◌, ◌⊎◌, inl, inr, ℕ, zero, suc, ◌+◌, ◌<◌, ◌≤◌, Bool, true, false, ◌||◌, List, [], ◌∷◌, ◌++◌, map, length, take, get_or, refl, sym, ap, ◌∙◌, subst, arith}
use Rattle.std.specs.List.{Contains, flat_map}
use Rattle.hs_pure.specs.declared.var.Var.{Var}
use Rattle.hs_pure.specs.Stack.{same}
use Rattle.hs_pure.proofs.Vars.{same-eq, same-refl}
use Rattle.hs_heap.specs.Meaning.{is_in}

module _ {A : Type 0} where
  pub here : (x : A) (xs : List A) → Contains (x ∷ xs) x
  here x xs = (0, omega arith, refl)

  pub later : (x y : A) (xs : List A) → Contains xs x → Contains (y ∷ xs) x
  later x y xs (k, less, is) = (suc k, omega arith, is)

  -- an element is the first one or one of the others
  pub parted : (x y : A) (xs : List A) → Contains (y ∷ xs) x → (x ≡ y) ⊎ Contains xs x
  parted x y xs (zero, less, is) = inl (sym is)
  parted x y xs (suc k, less, is) = inr (k, omega arith, is)

  pub none : (x : A) → ¬ (Contains [] x)
  none x (k, less, is) = absurd (omega arith)

  pub in_left : (x : A) (xs ys : List A) → Contains xs x → Contains (xs ++ ys) x
  in_left x [] ys c = absurd (none x c)
  in_left x (y ∷ xs) ys c = elim (parted x y xs c) [
    | inl e ↦ subst (λ z. Contains (y ∷ (xs ++ ys)) z) (sym e) (here y (xs ++ ys))
    | inr r ↦ later x y (xs ++ ys) (in_left x xs ys r)
  ]

  pub in_right : (x : A) (xs ys : List A) → Contains ys x → Contains (xs ++ ys) x
  in_right x [] ys c = c
  in_right x (y ∷ xs) ys c = later x y (xs ++ ys) (in_right x xs ys c)

  pub in_either : (x : A) (xs ys : List A) → Contains (xs ++ ys) x → Contains xs x ⊎ Contains ys x
  in_either x [] ys c = inr c
  in_either x (y ∷ xs) ys c = elim (parted x y (xs ++ ys) c) [
    | inl e ↦ inl (subst (λ z. Contains (y ∷ xs) z) (sym e) (here y xs))
    | inr r ↦ elim (in_either x xs ys r) [ inl l ↦ inl (later x y xs l) | inr q ↦ inr q ]
  ]

  pub is_last : (x : A) (xs : List A) → Contains (xs ++ x ∷ []) x
  is_last x xs = in_right x xs (x ∷ []) (here x [])

module _ {A B : Type 0} (f : A → List B) where
  pub in_flat_map : (y : B) (x : A) (xs : List A) → Contains xs x → Contains (f x) y → Contains (flat_map f xs) y
  in_flat_map y x [] c d = absurd (none x c)
  in_flat_map y x (z ∷ xs) c d = elim (parted x z xs c) [
    | inl e ↦ in_left y (f z) (flat_map f xs) (subst (λ w. Contains (f w) y) e d)
    | inr r ↦ in_right y (f z) (flat_map f xs) (in_flat_map y x xs r d)
  ]

  pub from_flat_map : (y : B) (xs : List A) → Contains (flat_map f xs) y → (x : A) × Contains xs x × Contains (f x) y
  from_flat_map y [] c = absurd (none y c)
  from_flat_map y (z ∷ xs) c = elim (in_either y (f z) (flat_map f xs) c) [
    | inl l ↦ (z, here z xs, l)
    | inr r ↦ let (x, there, d) = from_flat_map y xs r in (x, later x z xs there, d)
  ]

module _ {A B : Type 0} (f : A → B) where
  pub in_map : (x : A) (xs : List A) → Contains xs x → Contains (map f xs) (f x)
  in_map x [] c = absurd (none x c)
  in_map x (z ∷ xs) c = elim (parted x z xs c) [
    | inl e ↦ subst (λ w. Contains (f z ∷ map f xs) (f w)) (sym e) (here (f z) (map f xs))
    | inr r ↦ later (f x) (f z) (map f xs) (in_map x xs r)
  ]

  pub from_map : (y : B) (xs : List A) → Contains (map f xs) y → (x : A) × Contains xs x × (f x ≡ y)
  from_map y [] c = absurd (none y c)
  from_map y (z ∷ xs) c = elim (parted y (f z) (map f xs) c) [
    | inl e ↦ (z, here z xs, sym e)
    | inr r ↦ let (x, there, is) = from_map y xs r in (x, later x z xs there, is)
  ]

or_cases : (a b : Bool) → (a || b) ≡ true → (a ≡ true) ⊎ (b ≡ true)
or_cases true b e = inl refl
or_cases false b e = inr e

or_left : (a b : Bool) → a ≡ true → (a || b) ≡ true
or_left true b e = refl
or_left false b e = absurd cc

or_right : (a b : Bool) → b ≡ true → (a || b) ≡ true
or_right true b e = refl
or_right false b e = e

-- the test of a list of variables
pub listed : (v : Var) (vs : List Var) → Contains vs v → is_in v vs ≡ true
listed v [] c = absurd (none v c)
listed v (w ∷ vs) c = elim (parted v w vs c) [
  | inl e ↦ or_left (same v w) (is_in v vs) (subst (λ u. same v u ≡ true) e (same-refl v))
  | inr r ↦ or_right (same v w) (is_in v vs) (listed v vs r)
]

pub stands : (v : Var) (vs : List Var) → is_in v vs ≡ true → Contains vs v
stands v [] e = absurd cc
stands v (w ∷ vs) e = elim (or_cases (same v w) (is_in v vs) e) [
  | inl is ↦ subst (λ u. Contains (w ∷ vs) u) (sym (same-eq v w is)) (here w vs)
  | inr rest ↦ later v w vs (stands v vs rest)
]

pub is_in-snoc : (v w : Var) (vs : List Var) → is_in v (vs ++ w ∷ []) ≡ (same v w || is_in v vs)
is_in-snoc v w [] = grind arith
is_in-snoc v w (u ∷ us) = let e = is_in-snoc v w us in grind arith
