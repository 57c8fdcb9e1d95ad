-- The layout of an assertion has its terms and its bag variables.
use Rattle.std.proofs.Common.{◌≡◌, ℕ, ◌⊎◌, inl, inr, Bool, true, false, ◌||◌, List, [], ◌∷◌, ◌++◌, nat_lt, refl, if◌then◌else◌}
use Rattle.hs_pure.specs.declared.var.Var.{Var}
use Rattle.hs_pure.specs.declared.lin.Lin.{Lin}
use Rattle.hs_pure.specs.Stack.{same}
use Rattle.hs_pure.specs.Assertion.{BagTerm, empty, name, one, union, inter, diff, Assertion, truth, eq, lt, le, divides, bag_eq, subset, member, all_of, negation, both, either, exists, forall}
use Rattle.hs_pure.proofs.Vars.{or_left, or_right, same-refl}
use Rattle.hs_elimination.specs.Linear.{same_lin}
use Rattle.hs_elimination.specs.Cases.{has_lin, join_distinct}
use Rattle.hs_elimination.specs.Ordered.{term_sums}
use Rattle.hs_reduction.specs.Layout.{Layout, layout, has_name, add_name, terms, bag_names, names}
use Rattle.hs_reduction.proofs.Below.{LinBelow, BagBelow, Below}
use Rattle.hs_reduction.proofs.Places.{same_lin-itself}
use Rattle.hs_reduction.proofs.Counts.{BagFits, Fits}
use Rattle.hs_reduction.proofs.Back.{AllBelow}

or_cases : (a b : Bool) → (a || b) ≡ true → (a ≡ true) ⊎ (b ≡ true)
or_cases true b e = inl refl
or_cases false b e = inr e

-- ---- terms
has_lin-left : (a : Lin) (xs ys : List Lin) → has_lin a xs ≡ true → has_lin a (xs ++ ys) ≡ true
has_lin-left a [] ys e = absurd cc
has_lin-left a (x ∷ xs) ys e = elim (or_cases (same_lin a x) (has_lin a xs) e) [
  | inl is ↦ or_left (same_lin a x) (has_lin a (xs ++ ys)) is
  | inr later ↦ or_right (same_lin a x) (has_lin a (xs ++ ys)) (has_lin-left a xs ys later)
]

has_lin-right : (a : Lin) (xs ys : List Lin) → has_lin a ys ≡ true → has_lin a (xs ++ ys) ≡ true
has_lin-right a [] ys e = e
has_lin-right a (x ∷ xs) ys e = or_right (same_lin a x) (has_lin a (xs ++ ys)) (has_lin-right a xs ys e)

abbrev joined : Bool → Lin → List Lin → List Lin
joined b a done = if b then done else done ++ a ∷ []

has_lin-joined : (a x : Lin) (done : List Lin) (b : Bool) → has_lin a done ≡ true → has_lin a (joined b x done) ≡ true
has_lin-joined a x done true e = e
has_lin-joined a x done false e = has_lin-left a done (x ∷ []) e

joined-has : (x : Lin) (done : List Lin) (b : Bool) → has_lin x done ≡ b → has_lin x (joined b x done) ≡ true
joined-has x done true e = e
joined-has x done false e = has_lin-right x done (x ∷ []) (or_left (same_lin x x) false (same_lin-itself x))

join_distinct-keeps : (a : Lin) (done xs : List Lin) → has_lin a done ≡ true → has_lin a (join_distinct done xs) ≡ true
join_distinct-keeps a done [] e = e
join_distinct-keeps a done (x ∷ xs) e = join_distinct-keeps a (joined (has_lin x done) x done) xs (has_lin-joined a x done (has_lin x done) e)

-- every term of the second list is there
abbrev Has : List Lin → List Lin → Type 0
Has all [] = Unit {0}
Has all (x ∷ xs) = (has_lin x all ≡ true) × Has all xs

join_distinct-has : (done xs : List Lin) → Has (join_distinct done xs) xs
join_distinct-has done [] = tt
join_distinct-has done (x ∷ xs) = (
  join_distinct-keeps x (joined (has_lin x done) x done) xs (joined-has x done (has_lin x done) refl),
  join_distinct-has (joined (has_lin x done) x done) xs,
)

Has-append : (all xs ys : List Lin) → Has all (xs ++ ys) → Has all xs × Has all ys
Has-append all [] ys h = (tt, h)
Has-append all (x ∷ xs) ys h = let rest = Has-append all xs ys h.1 in ((h.0, rest.0), rest.1)

-- ---- names
add_name-has : (v : Var) (ws : List Var) → has_name v (add_name v ws) ≡ true
add_name-has v [] = or_left (same v v) false (same-refl v)
add_name-has v (w ∷ ws) = by_tests (add_name-has v ws) (same w v) (nat_lt v.number w.number) refl
  where
    by_tests : has_name v (add_name v ws) ≡ true → (b c : Bool) → (same w v) ≡ b → has_name v (if b then w ∷ ws else (if c then v ∷ w ∷ ws else w ∷ add_name v ws)) ≡ true
    by_tests rest true c e = or_left (same w v) (has_name v ws) e
    by_tests rest false true e = or_left (same v v) (has_name v (w ∷ ws)) (same-refl v)
    by_tests rest false false e = or_right (same w v) (has_name v (add_name v ws)) rest

add_name-keeps : (v x : Var) (ws : List Var) → has_name v ws ≡ true → has_name v (add_name x ws) ≡ true
add_name-keeps v x [] e = absurd cc
add_name-keeps v x (w ∷ ws) e = by_tests (add_name-keeps v x ws) (same w x) (nat_lt x.number w.number)
  where
    by_tests : (has_name v ws ≡ true → has_name v (add_name x ws) ≡ true) → (b c : Bool) → has_name v (if b then w ∷ ws else (if c then x ∷ w ∷ ws else w ∷ add_name x ws)) ≡ true
    by_tests rest true c = e
    by_tests rest false true = or_right (same x v) (has_name v (w ∷ ws)) e
    by_tests rest false false = elim (or_cases (same w v) (has_name v ws) e) [
      | inl is ↦ or_left (same w v) (has_name v (add_name x ws)) is
      | inr later ↦ or_right (same w v) (has_name v (add_name x ws)) (rest later)
    ]

bag_names-keep : (b : BagTerm) (v : Var) (vs : List Var) → has_name v vs ≡ true → has_name v (bag_names b vs) ≡ true
bag_names-keep empty v vs e = e
bag_names-keep (name w) v vs e = add_name-keeps v w vs e
bag_names-keep (one a) v vs e = e
bag_names-keep (union a b) v vs e = bag_names-keep b v (bag_names a vs) (bag_names-keep a v vs e)
bag_names-keep (inter a b) v vs e = bag_names-keep b v (bag_names a vs) (bag_names-keep a v vs e)
bag_names-keep (diff a b) v vs e = bag_names-keep b v (bag_names a vs) (bag_names-keep a v vs e)

names-keep : (p : Assertion) (v : Var) (vs : List Var) → has_name v vs ≡ true → has_name v (names p vs) ≡ true
names-keep (bag_eq a b) v vs e = bag_names-keep b v (bag_names a vs) (bag_names-keep a v vs e)
names-keep (subset a b) v vs e = bag_names-keep b v (bag_names a vs) (bag_names-keep a v vs e)
names-keep (member a b) v vs e = bag_names-keep b v vs e
names-keep (all_of u b p) v vs e = bag_names-keep b v vs e
names-keep (negation p) v vs e = names-keep p v vs e
names-keep (both p q) v vs e = names-keep q v (names p vs) (names-keep p v vs e)
names-keep (either p q) v vs e = names-keep q v (names p vs) (names-keep p v vs e)
names-keep truth v vs e = e
names-keep (eq a b) v vs e = e
names-keep (lt a b) v vs e = e
names-keep (le a b) v vs e = e
names-keep (divides d a) v vs e = e
names-keep (exists u p) v vs e = e
names-keep (forall u p) v vs e = e

-- ---- fitting
bag_fits : (l : Layout) (b : BagTerm) (vs : List Var) → Has l.listed (term_sums b) → ((v : Var) → has_name v (bag_names b vs) ≡ true → has_name v l.bags ≡ true) → BagFits l b
bag_fits l empty vs has kept = tt
bag_fits l (name v) vs has kept = kept v (add_name-has v vs)
bag_fits l (one a) vs has kept = has.0
bag_fits l (union a b) vs has kept =
    let (x, y) = Has-append l.listed (term_sums a) (term_sums b) has in
    (bag_fits l a vs x (λ v e. kept v (bag_names-keep b v (bag_names a vs) e)), bag_fits l b (bag_names a vs) y kept)
bag_fits l (inter a b) vs has kept =
    let (x, y) = Has-append l.listed (term_sums a) (term_sums b) has in
    (bag_fits l a vs x (λ v e. kept v (bag_names-keep b v (bag_names a vs) e)), bag_fits l b (bag_names a vs) y kept)
bag_fits l (diff a b) vs has kept =
    let (x, y) = Has-append l.listed (term_sums a) (term_sums b) has in
    (bag_fits l a vs x (λ v e. kept v (bag_names-keep b v (bag_names a vs) e)), bag_fits l b (bag_names a vs) y kept)

fits : (l : Layout) (p : Assertion) (vs : List Var) → Has l.listed (terms p) → ((v : Var) → has_name v (names p vs) ≡ true → has_name v l.bags ≡ true) → Fits l p
fits l (bag_eq a b) vs has kept =
    let (x, y) = Has-append l.listed (term_sums a) (term_sums b) has in
    (bag_fits l a vs x (λ v e. kept v (bag_names-keep b v (bag_names a vs) e)), bag_fits l b (bag_names a vs) y kept)
fits l (subset a b) vs has kept =
    let (x, y) = Has-append l.listed (term_sums a) (term_sums b) has in
    (bag_fits l a vs x (λ v e. kept v (bag_names-keep b v (bag_names a vs) e)), bag_fits l b (bag_names a vs) y kept)
fits l (member a b) vs has kept = (has.0, bag_fits l b vs has.1 kept)
fits l (all_of u b p) vs has kept = bag_fits l b vs has kept
fits l (negation p) vs has kept = fits l p vs has kept
fits l (both p q) vs has kept =
    let (x, y) = Has-append l.listed (terms p) (terms q) has in
    (fits l p vs x (λ v e. kept v (names-keep q v (names p vs) e)), fits l q (names p vs) y kept)
fits l (either p q) vs has kept =
    let (x, y) = Has-append l.listed (terms p) (terms q) has in
    (fits l p vs x (λ v e. kept v (names-keep q v (names p vs) e)), fits l q (names p vs) y kept)
fits l truth vs has kept = tt
fits l (eq a b) vs has kept = tt
fits l (lt a b) vs has kept = tt
fits l (le a b) vs has kept = tt
fits l (divides d a) vs has kept = tt
fits l (exists u p) vs has kept = tt
fits l (forall u p) vs has kept = tt

pub layout-fits : (start : ℕ) (p : Assertion) → Fits (layout start p) p
layout-fits start p = fits (layout start p) p [] (join_distinct-has [] (terms p)) (λ v e. e)

-- ---- the terms lie below the first new number
AllBelow-append : (n : ℕ) (xs ys : List Lin) → AllBelow n xs → AllBelow n ys → AllBelow n (xs ++ ys)
AllBelow-append n [] ys h k = k
AllBelow-append n (x ∷ xs) ys h k = (h.0, AllBelow-append n xs ys h.1 k)

AllBelow-joined : (n : ℕ) (b : Bool) (a : Lin) (done : List Lin) → AllBelow n done → LinBelow n a → AllBelow n (joined b a done)
AllBelow-joined n true a done h k = h
AllBelow-joined n false a done h k = AllBelow-append n done (a ∷ []) h (k, tt)

AllBelow-join_distinct : (n : ℕ) (done xs : List Lin) → AllBelow n done → AllBelow n xs → AllBelow n (join_distinct done xs)
AllBelow-join_distinct n done [] h k = h
AllBelow-join_distinct n done (x ∷ xs) h k = AllBelow-join_distinct n (joined (has_lin x done) x done) xs (AllBelow-joined n (has_lin x done) x done h k.0) k.1

term_sums-below : (n : ℕ) (b : BagTerm) → BagBelow n b → AllBelow n (term_sums b)
term_sums-below n empty h = tt
term_sums-below n (name v) h = tt
term_sums-below n (one a) h = (h, tt)
term_sums-below n (union a b) h = AllBelow-append n (term_sums a) (term_sums b) (term_sums-below n a h.0) (term_sums-below n b h.1)
term_sums-below n (inter a b) h = AllBelow-append n (term_sums a) (term_sums b) (term_sums-below n a h.0) (term_sums-below n b h.1)
term_sums-below n (diff a b) h = AllBelow-append n (term_sums a) (term_sums b) (term_sums-below n a h.0) (term_sums-below n b h.1)

terms-below : (n : ℕ) (p : Assertion) → Below n p → AllBelow n (terms p)
terms-below n (bag_eq a b) h = AllBelow-append n (term_sums a) (term_sums b) (term_sums-below n a h.0) (term_sums-below n b h.1)
terms-below n (subset a b) h = AllBelow-append n (term_sums a) (term_sums b) (term_sums-below n a h.0) (term_sums-below n b h.1)
terms-below n (member a b) h = (h.0, term_sums-below n b h.1)
terms-below n (all_of u b p) h = term_sums-below n b h.1
terms-below n (negation p) h = terms-below n p h
terms-below n (both p q) h = AllBelow-append n (terms p) (terms q) (terms-below n p h.0) (terms-below n q h.1)
terms-below n (either p q) h = AllBelow-append n (terms p) (terms q) (terms-below n p h.0) (terms-below n q h.1)
terms-below n truth h = tt
terms-below n (eq a b) h = tt
terms-below n (lt a b) h = tt
terms-below n (le a b) h = tt
terms-below n (divides d a) h = tt
terms-below n (exists u p) h = tt
terms-below n (forall u p) h = tt

pub layout-below : (start : ℕ) (p : Assertion) → Below start p → AllBelow start (layout start p).listed
layout-below start p h = AllBelow-join_distinct start [] (terms p) tt (terms-below start p h)
