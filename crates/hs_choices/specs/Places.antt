-- The places of items in lists, from 1.
use Rattle.std.specs.Prelude.{ℕ, ◌+◌, Bool, true, if◌then◌else◌, List, [], ◌∷◌, Option}
use Rattle.std.specs.List.{position_from}

-- the places of the items that pass a test, where the first item is at place n
abbrev pub places_from : {X : Type 0} → (X → Bool) → ℕ → List X → List ℕ
places_from test n [] = []
places_from test n (x ∷ xs) = if test x then n ∷ places_from test (n + 1) xs else places_from test (n + 1) xs

-- the places of the items that pass a test
abbrev pub places_of : {X : Type 0} → (X → Bool) → List X → List ℕ
places_of test xs = places_from test 1 xs

-- 1, 2 and so on, a place for each item
abbrev pub all_places : {X : Type 0} → List X → List ℕ
all_places xs = places_of (λ x. true) xs

-- the place of the first item that passes a test
abbrev pub first_place : {X : Type 0} → (X → Bool) → List X → Option ℕ
first_place test xs = position_from test 1 xs
