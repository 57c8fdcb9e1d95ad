use Rattle.std.proofs.Common.{min, inl, inr, ℕ, ◌+◌, ◌<◌, ◌≤◌, ◌≡◌, ◌-◌, List, [], ◌∷◌, ◌++◌, map, take, drop, zero, suc, refl, ap, sym, ◌∙◌, arith, length, get_or, slice_set}
use Rattle.std.specs.List.{flat_map, fold}
use Rattle.std.proofs.lemmas.List.{length-append, length-map, map-append, take-append-drop, take_more}
use Rattle.std.proofs.lemmas.List.Concat.{flat_map-append}
use Rattle.std.proofs.lemmas.List.Sums.{fold-append}
use Rattle.std.proofs.Math.Seq.{drop-cons}
use Rattle.std.proofs.lemmas.Bool.{cases_lt}
use Rattle.hs_calculus.specs.Search.{extended, one_of_each}
use Rattle.hs_calculus.proofs.Trees.{append-nil}

-- the first n of two lists, one after the other
pub take-append_rest : {X : Type 0} (n : ℕ) (a b : List X) → take n a ++ take (n - length (take n a)) b ≡ take n (a ++ b)
take-append_rest zero a b = let e : zero - zero ≡ zero = omega arith in ap (λ k. take k b) e
take-append_rest (suc n) [] b = let e : suc n - zero ≡ suc n = omega arith in ap (λ k. take k b) e
take-append_rest (suc n) (x ∷ a) b =
    let e : suc n - suc (length (take n a)) ≡ n - length (take n a) = omega arith in
    ap (λ k. x ∷ (take n a ++ take k b)) e ∙ ap (λ ys. x ∷ ys) (take-append_rest n a b)

-- where the first part is full already, the rest adds nothing
pub take_full : {X : Type 0} (n : ℕ) (a b : List X) → n ≤ length (take n a) → take n (a ++ b) ≡ take n a
take_full zero a b h = refl
take_full (suc n) [] b h = absurd (omega arith)
take_full (suc n) (x ∷ a) b h = ap (λ ys. x ∷ ys) (take_full n a b (omega arith))

pub take-take : {X : Type 0} (n : ℕ) (xs : List X) → take n (take n xs) ≡ take n xs
take-take zero xs = refl
take-take (suc n) [] = refl
take-take (suc n) (x ∷ xs) = ap (λ ys. x ∷ ys) (take-take n xs)

pub take-map : {X Y : Type 0} (n : ℕ) (f : X → Y) (xs : List X) → take n (map f xs) ≡ map f (take n xs)
take-map zero f xs = refl
take-map (suc n) f [] = refl
take-map (suc n) f (x ∷ xs) = ap (λ ys. f x ∷ ys) (take-map n f xs)

-- the first n need no more than the first n of the end
pub take-append_take : {X : Type 0} (n : ℕ) (a b : List X) → take n (a ++ take n b) ≡ take n (a ++ b)
take-append_take n a b = go n n a b (omega arith)
  where
    go : {X : Type 0} (k n : ℕ) (a b : List X) → k ≤ n → take k (a ++ take n b) ≡ take k (a ++ b)
    go zero n a b h = refl
    go (suc k) zero a b h = absurd (omega arith)
    go (suc k) (suc n) [] [] h = refl
    go (suc k) (suc n) [] (x ∷ b) h = ap (λ ys. x ∷ ys) (go k n [] b (omega arith))
    go (suc k) (suc n) (x ∷ a) b h = ap (λ ys. x ∷ ys) (go k (suc n) a b (omega arith))

-- the first n need no more than the first n of the front
pub take_take-append : {X : Type 0} (n : ℕ) (a b : List X) → take n (take n a ++ b) ≡ take n (a ++ b)
take_take-append zero a b = refl
take_take-append (suc n) [] b = refl
take_take-append (suc n) (x ∷ a) b = ap (λ ys. x ∷ ys) (take_take-append n a b)

pub take_empty : {X : Type 0} (n : ℕ) (xs : List X) → 0 < n → take n xs ≡ [] → xs ≡ []
take_empty n [] h e = refl
take_empty zero (x ∷ xs) h e = absurd (omega arith)
take_empty (suc n) (x ∷ xs) h e = cc

pub map_empty : {X Y : Type 0} (f : X → Y) (xs : List X) → map f xs ≡ [] → xs ≡ []
map_empty f [] e = refl
map_empty f (x ∷ xs) e = cc

pub append_empty : {X : Type 0} (a b : List X) → a ≡ [] → b ≡ [] → a ++ b ≡ []
append_empty a b e h = cc

pub append_empty_front : {X : Type 0} (a b : List X) → a ++ b ≡ [] → a ≡ []
append_empty_front [] b e = refl
append_empty_front (x ∷ a) b e = cc

-- a list by its elements before, at and after a place
pub split_at : {X : Type 0} (xs : List X) (i : ℕ) (x : X) → i < length xs → x ≡ get_or xs i x → xs ≡ take i xs ++ x ∷ drop (suc i) xs
split_at xs i x h e = sym (take-append-drop i xs) ∙ ap (λ ys. take i xs ++ ys) (drop-cons xs i x h ∙ ap (λ y. y ∷ drop (suc i) xs) (sym e))

pub take_more_read : {X : Type 0} (xs : List X) (i : ℕ) (x : X) → i < length xs → x ≡ get_or xs i x → take (i + 1) xs ≡ take i xs ++ x ∷ []
take_more_read xs i x h e = take_more xs i x h ∙ ap (λ y. take i xs ++ y ∷ []) (sym e)

more_behind : {Y : Type 0} (k : ℕ) (a b c : List Y) → 0 < length a → take k b ≡ take k c → take (suc k) (a ++ b) ≡ take (suc k) (a ++ c)
more_behind k [] b c h e = absurd (omega arith)
more_behind k (y ∷ a) b c h e = ap (λ ys. y ∷ ys) (sym (take-append_take k a b) ∙ ap (λ ys. take k (a ++ ys)) e ∙ take-append_take k a c)

take_flat_map : {X Y : Type 0} (f : X → List Y) (h : (x : X) → 0 < length (f x)) (k m : ℕ) (xs : List X) → k ≤ m → take k (flat_map f (take m xs)) ≡ take k (flat_map f xs)
take_flat_map f h zero m xs l = refl
take_flat_map f h (suc k) zero xs l = absurd (omega arith)
take_flat_map f h (suc k) (suc m) [] l = refl
take_flat_map f h (suc k) (suc m) (x ∷ xs) l = more_behind k (f x) (flat_map f (take m xs)) (flat_map f xs) (h x) (take_flat_map f h k m xs (omega arith))

take_each : {X Y : Type 0} (n : ℕ) (f g : X → List Y) (xs : List X) → ((x : X) → take n (f x) ≡ take n (g x)) → take n (flat_map f xs) ≡ take n (flat_map g xs)
take_each n f g [] h = refl
take_each n f g (x ∷ xs) h =
    sym (take_take-append n (f x) (flat_map f xs)) ∙ sym (take-append_take n (take n (f x)) (flat_map f xs))
    ∙ ap (λ ys. take n (ys ++ take n (flat_map f xs))) (h x) ∙ ap (λ ys. take n (take n (g x) ++ ys)) (take_each n f g xs h)
    ∙ take-append_take n (take n (g x)) (flat_map g xs) ∙ take_take-append n (g x) (flat_map g xs)

empty_each : {X Y : Type 0} (xs : List X) → flat_map {A = Y} (λ x. []) xs ≡ []
empty_each [] = refl
empty_each (x ∷ xs) = empty_each xs

-- the first n of each list do for the first n rows
pub take_extended : {A : Type 0} (n : ℕ) (rows : List (List A)) (xs : List A) → take n (extended (take n rows) (take n xs)) ≡ take n (extended rows xs)
take_extended zero rows xs = refl
take_extended (suc n) rows [] = ap (take (suc n)) (empty_each (take (suc n) rows) ∙ sym (empty_each rows))
take_extended {A} (suc n) rows (x ∷ xs) =
    take_flat_map (λ row. map (λ x. row ++ x ∷ []) (x ∷ take n xs)) (λ row. omega arith) (suc n) (suc n) rows (omega arith)
    ∙ take_each (suc n) (λ row. map (λ x. row ++ x ∷ []) (take (suc n) (x ∷ xs))) (λ row. map (λ x. row ++ x ∷ []) (x ∷ xs)) rows
    (λ row. ap (take (suc n)) (sym (take-map (suc n) (λ x. row ++ x ∷ []) (x ∷ xs))) ∙ take-take (suc n) (map (λ x. row ++ x ∷ []) (x ∷ xs)))

pub one_of_each_more : {A : Type 0} (lists : List (List A)) (xs : List A) → one_of_each (lists ++ xs ∷ []) ≡ extended (one_of_each lists) xs
one_of_each_more lists xs = fold-append extended ([] ∷ []) lists (xs ∷ [])

no_row : {A : Type 0} (lists : List (List A)) → fold extended [] lists ≡ []
no_row [] = refl
no_row (xs ∷ lists) = no_row lists

-- no row is there where one of the lists is empty
pub one_of_each_none : {A : Type 0} (before after : List (List A)) → one_of_each (before ++ [] ∷ after) ≡ []
one_of_each_none {A} before after =
    fold-append extended ([] ∷ []) before ([] ∷ after)
    ∙ ap (λ (rows : List (List A)). fold extended rows after) (empty_each (fold extended ([] ∷ []) before))
    ∙ no_row after

pub one_of_each_stops : {A : Type 0} (before after : List (List A)) → one_of_each before ≡ [] → one_of_each (before ++ after) ≡ []
one_of_each_stops {A} before after e =
    fold-append extended ([] ∷ []) before after ∙ ap (λ (rows : List (List A)). fold extended rows after) e ∙ no_row after

-- rows stay there where there is something to add
pub extended_some : {A : Type 0} (n : ℕ) (rows : List (List A)) (xs : List A) → 0 < n → take n (extended rows xs) ≡ [] → ¬ (rows ≡ []) → xs ≡ []
extended_some n rows xs h e some = go rows xs (take_empty n (extended rows xs) h e) some
  where
    go : {A : Type 0} (rows : List (List A)) (xs : List A) → extended rows xs ≡ [] → ¬ (rows ≡ []) → xs ≡ []
    go [] xs e some = absurd (some refl)
    go (row ∷ rows) xs e some = map_empty (λ x. row ++ x ∷ []) xs (append_empty_front _ _ e)

take_all : {X : Type 0} (n : ℕ) (xs : List X) → length xs ≤ n → take n xs ≡ xs
take_all zero [] h = refl
take_all (suc n) [] h = refl
take_all zero (x ∷ xs) h = absurd (omega arith)
take_all (suc n) (x ∷ xs) h = ap (λ ys. x ∷ ys) (take_all n xs (omega arith))

take_min : {X : Type 0} (n : ℕ) (xs : List X) → take (min n (length xs)) xs ≡ take n xs
take_min n xs =
    elim (cases_lt n (length xs)) [
      | inl h ↦ let e : min n (length xs) ≡ n = omega arith in ap (λ k. take k xs) e
      | inr h ↦ let e : min n (length xs) ≡ length xs = omega arith in ap (λ k. take k xs) e ∙ take_all (length xs) xs (omega arith) ∙ sym (take_all n xs h)
    ]

pub extend_ends : {X Y : Type 0} (room k i : ℕ) (f : X → Y) (found : List X) → k ≡ min room (length found) → length (take k found) ≤ i
    → map f (take i (take k found)) ≡ take room (map f found)
extend_ends room k i f found e h =
    ap (map f) (take_all i (take k found) h ∙ ap (λ k. take k found) e ∙ take_min room found) ∙ sym (take-map room f found)

pub extend_step : {V A : Type 0} (items : V → List A) (wanted i len : ℕ) (rows longer more : List V) (found : List A) (row : V) (front : List A)
    → map items longer ≡ take wanted (extended (map items (take i rows)) found)
    → map items more ≡ take (wanted - len) (map (λ x. front ++ x ∷ []) found)
    → len ≡ length longer → front ≡ items row → i < length rows → row ≡ get_or rows i row
    → map items (longer ++ more) ≡ take wanted (extended (map items (take (i + 1) rows)) found)
extend_step {V} {A} items wanted i len rows longer more found row front e m same is l read =
    let n : len ≡ length (take wanted (extended (map items (take i rows)) found)) = same ∙ (sym (length-map longer items) ∙ ap length e) in
    let one : List A → List (List A) = λ r. map (λ x. r ++ x ∷ []) found in
    let step : take (wanted - len) (one front) ≡ take (wanted - length (take wanted (extended (map items (take i rows)) found))) (one (items row)) =
    ap (λ k. take (wanted - k) (one front)) n ∙ ap (λ f. take (wanted - length (take wanted (extended (map items (take i rows)) found))) (one f)) is in
    map-append items longer more
    ∙ ap (λ ys. ys ++ map items more) e
    ∙ ap (λ ys. take wanted (extended (map items (take i rows)) found) ++ ys) (m ∙ step)
    ∙ take-append_rest wanted (extended (map items (take i rows)) found) (one (items row))
    ∙ ap (take wanted) (ap (λ ys. extended (map items (take i rows)) found ++ ys) (sym (append-nil (one (items row))))
    ∙ sym (flat_map-append one (map items (take i rows)) (items row ∷ []))
    ∙ ap (flat_map one) (sym (map-append items (take i rows) (row ∷ [])) ∙ ap (map items) (sym (take_more_read rows i row l read))))

pub extended_none : {A : Type 0} (rows : List (List A)) → extended rows [] ≡ []
extended_none rows = empty_each rows

pub append_empty_rest : {X : Type 0} (a b : List X) → a ++ b ≡ [] → b ≡ []
append_empty_rest [] b e = e
append_empty_rest (x ∷ a) b e = cc

pub take_none : {X : Type 0} (n : ℕ) → take {A = X} n [] ≡ []
take_none zero = refl
take_none (suc n) = refl

pub no_items : {X : Type 0} (xs : List X) → length xs ≡ 0 → xs ≡ []
no_items [] e = refl
no_items (x ∷ xs) e = absurd (omega arith)

-- one row, longer by one
pub one_extended : {A : Type 0} (n : ℕ) (rows : List (List A)) (xs : List A) → length rows ≡ 1 → length xs ≡ 1 → 0 < n → extended rows xs ≡ take n (extended rows xs)
one_extended zero rows xs e h k = absurd (omega arith)
one_extended n [] xs e h k = absurd (omega arith)
one_extended n (a ∷ b ∷ rows) xs e h k = absurd (omega arith)
one_extended n (row ∷ []) [] e h k = absurd (omega arith)
one_extended n (row ∷ []) (a ∷ b ∷ xs) e h k = absurd (omega arith)
one_extended (suc n) (row ∷ []) (x ∷ []) e h k = ap (λ ys. (row ++ x ∷ []) ∷ ys) (sym (take_none n))

pub one_row_set : {V A : Type 0} (items : V → List A) (rows : List V) (found : List A) (x : A) (old new : V)
    → length rows ≡ 1 → length found ≡ 1 → x ≡ get_or found 0 x → old ≡ get_or rows 0 old → items new ≡ items old ++ x ∷ []
    → map items (slice_set rows 0 new) ≡ extended (map items rows) found
one_row_set items [] found x old new e h f r n = absurd (omega arith)
one_row_set items (a ∷ b ∷ rows) found x old new e h f r n = absurd (omega arith)
one_row_set items (row ∷ []) [] x old new e h f r n = absurd (omega arith)
one_row_set items (row ∷ []) (a ∷ b ∷ xs) x old new e h f r n = absurd (omega arith)
one_row_set items (row ∷ []) (y ∷ []) x old new e h f r n = ap (λ z. z ∷ []) (n ∙ ap (λ v. items v ++ x ∷ []) r ∙ ap (λ z. items row ++ z ∷ []) f)

-- how many derivations there are after more were joined
more_length : {V A B : Type 0} (f : A → B) (items : V → A) (len : ℕ) (found more all : List B) (rows : List V)
    → len ≡ length found → more ≡ map f (map items rows) → all ≡ found ++ more → length all ≡ len + length rows
more_length f items len found more all rows n m e =
    let k : length more ≡ length rows = ap length m ∙ length-map (map items rows) f ∙ length-map rows items in
    ap length e ∙ length-append found more ∙ (omega (arith, n, k))

pub enough : {V A B : Type 0} (f : A → B) (items : V → A) (wanted len : ℕ) (found more all : List B) (rows : List V)
    → wanted - len ≤ length rows → len ≡ length found → more ≡ map f (map items rows) → all ≡ found ++ more → wanted ≤ length all
enough f items wanted len found more all rows h n m e = omega (arith, h, more_length f items len found more all rows n m e)

pub not_enough : {V A B : Type 0} (f : A → B) (items : V → A) (wanted len : ℕ) (found more all : List B) (rows : List V)
    → length rows < wanted - len → len ≡ length found → more ≡ map f (map items rows) → all ≡ found ++ more → length all < wanted
not_enough f items wanted len found more all rows h n m e = omega (arith, h, more_length f items len found more all rows n m e)

pub not_none : {X : Type 0} (wanted : ℕ) (all : List X) → 0 < wanted → wanted ≤ length all → ¬ (all ≡ [])
not_none wanted all some h none = let z : length all ≡ 0 = ap length none in absurd (omega (arith, some, h, z))
