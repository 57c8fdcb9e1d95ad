-- Tests of the elements of a list that was mapped.
use Rattle.std.proofs.Common.{◌≡◌, ℕ, suc, ◌<◌, Bool, true, false, not, ◌||◌, List, [], ◌∷◌, length, ◌++◌, get_or, map, refl, sym, ap, ◌∙◌, arith, take, ◌+◌, Result, Ok, Err, IfOk}
use Rattle.std.specs.List.{list_any, All, flat_map}
use Rattle.std.proofs.lemmas.List.Folds.{list_any_at}
use Rattle.std.proofs.lemmas.List.{take_more, map-append}
use Rattle.std.proofs.lemmas.List.Elements.{All-head, All-nil, All-cons}

pub list_any-map : {X Y : Type 0} (p : Y → Bool) (f : X → Y) (xs : List X) → list_any p (map f xs) ≡ list_any (λ x. p (f x)) xs
list_any-map p f [] = refl
list_any-map p f (x ∷ xs) = ap (λ b. p (f x) || b) (list_any-map p f xs)

-- one element settles the answer
pub list_any-map_at : {X Y : Type 0} (p : Y → Bool) (f : X → Y) (xs : List X) (i : ℕ) (d : X) → i < length xs → p (f (get_or xs i d)) ≡ true →
    list_any p (map f xs) ≡ true
list_any-map_at p f xs i d h e = list_any-map p f xs ∙ list_any_at (λ x. p (f x)) xs i d h e

pub from_not : (b : Bool) → not b ≡ false → b ≡ true
from_not true e = refl
from_not false e = sym e

pub All-first : {X : Type 0} (P : X → Type 0) (x : X) (xs : List X) → All P (x ∷ xs) → P x
All-first P x xs h = All-head P x xs h

pub All-later : {X : Type 0} (P : X → Type 0) (x : X) (xs : List X) → All P (x ∷ xs) → All P xs
All-later P x xs h i d less = h (suc i) d (omega arith)

pub All-left : {X : Type 0} (P : X → Type 0) (xs ys : List X) → All P (xs ++ ys) → All P xs
All-left P [] ys h = All-nil P
All-left P (x ∷ xs) ys h = All-cons P x xs (All-first P x (xs ++ ys) h) (All-left P xs ys (All-later P x (xs ++ ys) h))

pub All-right : {X : Type 0} (P : X → Type 0) (xs ys : List X) → All P (xs ++ ys) → All P ys
All-right P [] ys h = h
All-right P (x ∷ xs) ys h = All-right P xs ys (All-later P x (xs ++ ys) h)

-- what all elements of all pieces have, all elements of each piece have
pub All-pieces : {X Y : Type 0} (P : Y → Type 0) (f : X → List Y) (xs : List X) → All P (flat_map (λ ys. ys) (map f xs)) → All (λ x. All P (f x)) xs
All-pieces P f [] h = All-nil _
All-pieces P f (x ∷ xs) h =
    All-cons (λ x. All P (f x)) x xs (All-left P (f x) (flat_map (λ ys. ys) (map f xs)) h) (All-pieces P f xs (All-right P (f x) (flat_map (λ ys. ys) (map f xs)) h))

-- one more element of a mapped list
pub map-take_more : {X Y : Type 0} (f : X → Y) (xs : List X) (i : ℕ) (d : X) → i < length xs → map f (take (i + 1) xs) ≡ map f (take i xs) ++ f (get_or xs i d) ∷ []
map-take_more f xs i d h = rw (take_more xs i d h) (map-append f (take i xs) (get_or xs i d ∷ []))

pub if_ok_weaker : {A E : Type 0} (P Q : A → Type 0) (r : Result A E) → ((x : A) → P x → Q x) → IfOk r P → IfOk r Q
if_ok_weaker P Q (Ok x) f h = f x h
if_ok_weaker P Q (Err e) f h = h

pub All-weaker : {X : Type 0} (P Q : X → Type 0) → ((x : X) → P x → Q x) → (xs : List X) → All P xs → All Q xs
All-weaker P Q f xs h i d less = f (get_or xs i d) (h i d less)
