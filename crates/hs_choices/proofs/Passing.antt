-- The places of items that pass a test.
use Rattle.std.proofs.Common.{◌≡◌, ℕ, zero, suc, ◌+◌, ◌-◌, ◌<◌, ◌≤◌, Bool, true, false, inl, inr, List, [], ◌∷◌, length, get_or, drop, Some, None, refl, subst, arith}
use Rattle.std.specs.List.{position_from, All, list_any}
use Rattle.std.proofs.lemmas.List.Elements.{All-nil, All-cons, All-weaker}
use Rattle.hs_heap.proofs.Booleans.{bool_cases}
use Rattle.hs_rules.specs.Parts.{IsPlace}
use Rattle.hs_choices.specs.Places.{places_from}

module _ {X : Type 0} (test : X → Bool) where
  -- the place, counted from n, of an item that passes
  pub record IsPassing (n : ℕ) (xs : List X) (l : ℕ) : Type 0 where
    pub from : n ≤ l
    pub to : l < n + length xs
    pub passes : (d : X) → test (get_or xs (l - n) d) ≡ true

  later : (n : ℕ) (x : X) (xs : List X) (l : ℕ) → IsPassing (n + 1) xs l → IsPassing n (x ∷ xs) l
  later n x xs l p =
      let from = p.from in
      let to = p.to in
      let e : l - n ≡ suc (l - (n + 1)) = omega arith in
      record { from = omega arith; to = omega arith; passes = λ d. rw e (p.passes d) }

  here : (n : ℕ) (x : X) (xs : List X) → test x ≡ true → IsPassing n (x ∷ xs) n
  here n x xs e =
      let z : n - n ≡ 0 = omega arith in
      record { from = omega arith; to = omega arith; passes = λ d. rw z e }

  pub places_pass : (n : ℕ) (xs : List X) → All (IsPassing n xs) (places_from test n xs)
  places_pass n [] = All-nil (IsPassing n [])
  places_pass n (x ∷ xs) =
      let rest = All-weaker (IsPassing (n + 1) xs) (IsPassing n (x ∷ xs)) (later n x xs) (places_from test (n + 1) xs) (places_pass (n + 1) xs) in
      elim (bool_cases (test x)) [
        | inl is ↦ rw is (All-cons (IsPassing n (x ∷ xs)) n (places_from test (n + 1) xs) (here n x xs is) rest)
        | inr isnt ↦ rw isnt rest
      ]

  pub first_passes : (n : ℕ) (xs : List X) (l : ℕ) → position_from test n xs ≡ Some l → IsPassing n xs l
  first_passes n [] l e = absurd cc
  first_passes n (x ∷ xs) l e = elim (bool_cases (test x)) [
    | inl is ↦ (let f : Some n ≡ Some l = rw is at e in let g : n ≡ l = cc in subst (IsPassing n (x ∷ xs)) g (here n x xs is))
    | inr isnt ↦ (let f : position_from test (n + 1) xs ≡ Some l = rw isnt at e in later n x xs l (first_passes (n + 1) xs l f))
  ]

  pub none_passes : (n : ℕ) (xs : List X) → position_from test n xs ≡ None → list_any test xs ≡ false
  none_passes n [] e = refl
  none_passes n (x ∷ xs) e = elim (bool_cases (test x)) [
    | inl is ↦ (let f : Some n ≡ None = rw is at e in absurd cc)
    | inr isnt ↦ (let f : position_from test (n + 1) xs ≡ None = rw isnt at e in rw isnt (none_passes (n + 1) xs f))
  ]

  pub is_place : (xs : List X) (l : ℕ) → IsPassing 1 xs l → IsPlace l xs
  is_place xs l p =
      let from = p.from in
      let to = p.to in
      (from, omega arith)

module _ {X : Type 0} (test : X → Bool) where
  -- an item that passes has a place
  pub places-here : (n i : ℕ) (xs : List X) (d : X) → i < length xs → test (get_or xs i d) ≡ true → places_from test n (drop i xs) ≡ n ∷ places_from test (n + 1) (drop (i + 1) xs)
  places-here n i [] d less e = absurd (omega arith)
  places-here n zero (x ∷ xs) d less e = rw e refl
  places-here n (suc i) (x ∷ xs) d less e =
      let next : suc i + 1 ≡ suc (i + 1) = omega arith in
      rw next (places-here n i xs d (omega arith) e)

  -- and one that does not has none
  pub places-past : (n i : ℕ) (xs : List X) (d : X) → i < length xs → test (get_or xs i d) ≡ false → places_from test n (drop i xs) ≡ places_from test (n + 1) (drop (i + 1) xs)
  places-past n i [] d less e = absurd (omega arith)
  places-past n zero (x ∷ xs) d less e = rw e refl
  places-past n (suc i) (x ∷ xs) d less e =
      let next : suc i + 1 ≡ suc (i + 1) = omega arith in
      rw next (places-past n i xs d (omega arith) e)
