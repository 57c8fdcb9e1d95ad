-- What is found by its name.
use Rattle.std.proofs.Common.{◌≡◌, ℕ, zero, suc, ◌+◌, ◌<◌, Bool, true, false, List, [], ◌∷◌, ◌++◌, length, Some, slice_get, unwrap_or, map, if◌then◌else◌, subst, refl, ap, ◌∙◌, arith}
use Rattle.std.specs.List.{position_from, Contains, AllByRecursion}

pub some_eq : {A : Type 0} (x y : A) → Some x ≡ Some y → x ≡ y
some_eq x y e = ap (λ o. unwrap_or o x) e

-- an element that passes the test, at its place
pub record FoundAt {X : Type 0} (t : X → Bool) (from : ℕ) (xs : List X) (j : ℕ) : Type 0 where
  pub place : ℕ
  pub item : X
  pub is : j ≡ from + place
  pub got : slice_get xs place ≡ Some item
  pub passes : t item ≡ true

module _ {X : Type 0} (t : X → Bool) where
  pub found_at : (xs : List X) (from j : ℕ) → position_from t from xs ≡ Some j → FoundAt t from xs j
  found_at [] from j e = cc
  found_at (x ∷ xs) from j e = of (t x) refl e (found_at xs (from + 1) j)
    where
      of : (b : Bool) → t x ≡ b → (if b then Some from else position_from t (from + 1) xs) ≡ Some j → (position_from t (from + 1) xs ≡ Some j → FoundAt t (from + 1) xs j) → FoundAt t from (x ∷ xs) j
      of true h k later = let at : from ≡ j = some_eq from j k in record { place = 0; item = x; is = omega arith; got = refl; passes = h }
      of false h k later = let f = later k in let is = f.is in record { place = suc f.place; item = f.item; is = omega arith; got = f.got; passes = f.passes }

  -- none before the place that is found
  pub none_before : (xs : List X) (x : X) (ys : List X) (from : ℕ) → position_from t from (xs ++ x ∷ ys) ≡ Some (from + length xs) → AllByRecursion (λ y. t y ≡ false) xs
  none_before [] x ys from e = tt
  none_before (z ∷ xs) x ys from e = of (t z) refl e (none_before xs x ys (from + 1))
    where
      of : (b : Bool) → t z ≡ b → (if b then Some from else position_from t (from + 1) (xs ++ x ∷ ys)) ≡ Some (from + length (z ∷ xs)) →
          (position_from t (from + 1) (xs ++ x ∷ ys) ≡ Some (from + 1 + length xs) → AllByRecursion (λ y. t y ≡ false) xs) → AllByRecursion (λ y. t y ≡ false) (z ∷ xs)
      of true h k later = absurd (let at : from ≡ from + suc (length xs) = some_eq from (from + suc (length xs)) k in omega arith)
      of false h k later = let at : from + suc (length xs) ≡ from + 1 + length xs = omega arith in (h, later (k ∙ ap Some at))

pub get_contains : {X : Type 0} (xs : List X) (k : ℕ) (x : X) → slice_get xs k ≡ Some x → Contains xs x
get_contains [] k x e = cc
get_contains (y ∷ xs) zero x e = (0, omega arith, some_eq y x e)
get_contains (y ∷ xs) (suc k) x e = let c = get_contains xs k x e in let lt = c.1 in (suc c.0, omega arith, c.2)

pub get_all : {X : Type 0} (P : X → Type 0) (xs : List X) (k : ℕ) (x : X) → slice_get xs k ≡ Some x → AllByRecursion P xs → P x
get_all P [] k x e h = cc
get_all P (y ∷ xs) zero x e h = subst P (some_eq y x e) h.0
get_all P (y ∷ xs) (suc k) x e h = get_all P xs k x e h.1

pub get_below : {X : Type 0} (xs : List X) (k : ℕ) (x : X) → slice_get xs k ≡ Some x → k < length xs
get_below [] k x e = cc
get_below (y ∷ xs) zero x e = omega arith
get_below (y ∷ xs) (suc k) x e = let lt = get_below xs k x e in omega arith

pub get_map : {X Y : Type 0} (f : X → Y) (xs : List X) (k : ℕ) (x : X) → slice_get xs k ≡ Some x → slice_get (map f xs) k ≡ Some (f x)
get_map f [] k x e = cc
get_map f (y ∷ xs) zero x e = ap Some (ap f (some_eq y x e))
get_map f (y ∷ xs) (suc k) x e = get_map f xs k x e
