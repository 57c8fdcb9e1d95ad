-- What is found in lists, by a test and by a number.
use Rattle.std.proofs.Common.{◌≡◌, ℕ, zero, suc, ◌+◌, ◌<◌, Bool, true, false, List, [], ◌∷◌, ◌++◌, length, map, Some, cond, slice_get, slice_index_or, refl, sym, ap, ◌∙◌, subst, arith, length-append}
use Rattle.std.specs.List.{AllByRecursion, Contains, position, position_from, find}
use Rattle.std.specs.Str.{bytes_eq}
use Rattle.std.proofs.lemmas.Iterator.Adapters.{position_from-zero}
use Rattle.std.proofs.lemmas.Slice.Eq.{bytes_eq-Decides}
use Rattle.hs_core.specs.Sound.{IsUpTo}
use Rattle.hs_lower_scope.specs.Scope.{number_by, number_by_place}
use Rattle.hs_norm_sound.specs.Methods.{AreApart}
use Rattle.hs_norm_sound.proofs.Found.{found_at, get_below, get_map, some_eq}

-- ---- by a number

pub index_of_get : {X : Type 0} (xs : List X) (k : ℕ) (x d : X) → slice_get xs k ≡ Some x → slice_index_or xs k d ≡ x
index_of_get [] k x d e = cc
index_of_get (y ∷ xs) zero x d e = some_eq y x e
index_of_get (y ∷ xs) (suc k) x d e = index_of_get xs k x d e

pub get_of_index : {X : Type 0} (xs : List X) (k : ℕ) (d : X) → k < length xs → slice_get xs k ≡ Some (slice_index_or xs k d)
get_of_index [] k d lt = absurd (omega arith)
get_of_index (y ∷ xs) zero d lt = refl
get_of_index (y ∷ xs) (suc k) d lt = get_of_index xs k d (omega arith)

pub get_of_contains : {X : Type 0} (xs : List X) (x : X) (c : Contains xs x) → slice_get xs c.0 ≡ Some x
get_of_contains xs x c = get_of_index xs c.0 x c.1 ∙ ap Some c.2

pub all_at : {X : Type 0} (P : X → Type 0) (xs : List X) (k : ℕ) (d : X) → AllByRecursion P xs → k < length xs → P (slice_index_or xs k d)
all_at P [] k d h lt = absurd (omega arith)
all_at P (x ∷ xs) zero d h lt = h.0
all_at P (x ∷ xs) (suc k) d h lt = all_at P xs k d h.1 (omega arith)

pub length_of_map : {X Y : Type 0} (f : X → Y) (xs : List X) → length (map f xs) ≡ length xs
length_of_map f [] = refl
length_of_map f (x ∷ xs) = ap suc (length_of_map f xs)

-- ---- by a test

-- the first element that passes, at its place
pub record FirstAt {X : Type 0} (t : X → Bool) (xs : List X) (x : X) : Type 0 where
  pub place : ℕ
  pub is : number_by t xs ≡ suc place
  pub got : slice_get xs place ≡ Some x

module _ {X : Type 0} (t : X → Bool) where
  -- some place is found where an element passes
  located : (xs : List X) (from i : ℕ) (x : X) → slice_get xs i ≡ Some x → t x ≡ true → (j : ℕ) × (position_from t from xs ≡ Some j)
  located [] from i x e h = absurd (no i e)
    where
      no : (i : ℕ) → slice_get [] i ≡ Some x → ⊥
      no i e = cc
  located (y ∷ ys) from zero x e h = (from, ap (λ b. cond b (Some from) (position_from t (from + 1) ys)) (ap t (some_eq y x e) ∙ h))
  located (y ∷ ys) from (suc i) x e h = of (t y) (located ys (from + 1) i x e h)
    where
      of : (b : Bool) → (j : ℕ) × (position_from t (from + 1) ys ≡ Some j) → (j : ℕ) × (cond b (Some from) (position_from t (from + 1) ys) ≡ Some j)
      of true f = (from, refl)
      of false f = f

  placed_at : (xs : List X) → position t xs ≡ position_from t 0 xs
  placed_at xs = position_from-zero t xs

  pub number_there : (xs : List X) (x : X) → Contains xs x → t x ≡ true → IsUpTo (length xs) (number_by t xs)
  number_there xs x c h =
      let l = located xs 0 c.0 x (get_of_contains xs x c) h in
      let f = found_at t xs 0 l.0 l.1 in
      let lt = get_below xs f.place f.item f.got in
      let at = f.is in
      let is : number_by t xs ≡ suc l.0 = ap number_by_place (placed_at xs ∙ l.1) in
      subst (IsUpTo (length xs)) (sym is) (omega arith, omega arith)

  find_from : (xs : List X) (from : ℕ) (x : X) → find t xs ≡ Some x → (k : ℕ) × (position_from t from xs ≡ Some (from + k)) × (slice_get xs k ≡ Some x)
  find_from [] from x e = cc
  find_from (y ∷ ys) from x e = of (t y) e (find_from ys (from + 1) x)
    where
      none : (m : ℕ) → m ≡ m + 0
      none m = omega arith

      next : (m k : ℕ) → m + 1 + k ≡ m + suc k
      next m k = omega arith

      of : (b : Bool) → cond b (Some y) (find t ys) ≡ Some x → (find t ys ≡ Some x → (k : ℕ) × (position_from t (from + 1) ys ≡ Some (from + 1 + k)) × (slice_get ys k ≡ Some x)) →
          (k : ℕ) × (cond b (Some from) (position_from t (from + 1) ys) ≡ Some (from + k)) × (slice_get (y ∷ ys) k ≡ Some x)
      of true f later = (0, ap Some (none from), f)
      of false f later = let l = later f in (suc l.0, l.1 ∙ ap Some (next from l.0), l.2)

  pub first_at : (xs : List X) (x : X) → find t xs ≡ Some x → FirstAt t xs x
  first_at xs x e =
      let f = find_from xs 0 x e in
      record { place = f.0; is = ap number_by_place (placed_at xs ∙ f.1 ∙ ap Some (none f.0)); got = f.2 }
    where
      none : (m : ℕ) → 0 + m ≡ m
      none m = omega arith

-- ---- by a name that no other has

apart_tail : (x : List ℕ) (xs : List (List ℕ)) → AreApart (x ∷ xs) → AreApart xs
apart_tail x xs h = λ i j d lt within. h (suc i) (suc j) d (omega arith) (omega arith)

pub apart_front : (xs ys : List (List ℕ)) → AreApart (xs ++ ys) → AreApart xs
apart_front xs ys h = λ i j d lt within. let long = length-append xs ys in
    let far : j < length (xs ++ ys) = omega arith in
    let near : i < length xs = omega arith in
    subst (λ a. ¬ (a ≡ slice_index_or xs j d)) (front xs ys i d near) (subst (λ b. ¬ (slice_index_or (xs ++ ys) i d ≡ b)) (front xs ys j d within) (h i j d lt far))
  where
    front : (xs ys : List (List ℕ)) (k : ℕ) (d : List ℕ) → k < length xs → slice_index_or (xs ++ ys) k d ≡ slice_index_or xs k d
    front [] ys k d lt = absurd (omega arith)
    front (x ∷ xs) ys zero d lt = refl
    front (x ∷ xs) ys (suc k) d lt = front xs ys k d (omega arith)

pub find_apart : {X : Type 0} (name : X → List ℕ) (t : List ℕ) (xs : List X) (k : ℕ) (x : X) → AreApart (map name xs) → slice_get xs k ≡ Some x → name x ≡ t → find (λ y. bytes_eq (name y) t) xs ≡ Some x
find_apart name t [] k x apart e is = cc
find_apart name t (y ∷ ys) zero x apart e is =
    let here : bytes_eq (name y) t ≡ true = (bytes_eq-Decides (name y) t).1 (ap name (some_eq y x e) ∙ is) in
    ap (λ b. cond b (Some y) (find (λ y. bytes_eq (name y) t) ys)) here ∙ e
find_apart name t (y ∷ ys) (suc k) x apart e is = of (bytes_eq (name y) t) refl (find_apart name t ys k x (apart_tail (name y) (map name ys) apart) e is)
  where
    differs : name y ≡ t → ⊥
    differs same =
        let lt = get_below ys k x e in
        let long = length_of_map name ys in
        apart 0 (suc k) t (omega arith) (omega arith) (same ∙ sym (index_of_get (map name ys) k (name x) t (get_map name ys k x e) ∙ is))

    of : (b : Bool) → bytes_eq (name y) t ≡ b → find (λ y. bytes_eq (name y) t) ys ≡ Some x → cond b (Some y) (find (λ y. bytes_eq (name y) t) ys) ≡ Some x
    of true h later = absurd (differs ((bytes_eq-Decides (name y) t).0 h))
    of false h later = later
