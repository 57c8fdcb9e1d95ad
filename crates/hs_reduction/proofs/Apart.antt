-- The bag variables of a layout are there once, and its numbers are below the first new one.
use Rattle.std.proofs.Common.{◌≡◌, ℕ, zero, suc, ◌<◌, ◌≤◌, true, false, nat_lt, inl, inr, List, [], ◌∷◌, length, get_or, sym, ap, ◌∙◌, subst, arith, if◌then◌else◌}
use Rattle.std.specs.List.{All}
use Rattle.std.proofs.lemmas.Bool.{cases_Bool, ltb-true, ltb-false}
use Rattle.std.proofs.lemmas.List.Elements.{All-nil, All-cons}
use Rattle.hs_pure.specs.declared.var.Var.{Var}
use Rattle.hs_pure.specs.Assertion.{BagTerm, empty, name, one, union, inter, diff, Assertion, truth, eq, lt, le, divides, bag_eq, subset, member, all_of, negation, both, either, exists, forall}
use Rattle.hs_pure.specs.Stack.{same}
use Rattle.hs_pure.specs.Occurs.{lin_top}
use Rattle.hs_pure.specs.Mirror.{assertion_top}
use Rattle.hs_pure.proofs.Vars.{different}
use Rattle.hs_pure.proofs.Lists.{All-first, All-later}
use Rattle.hs_reduction.specs.Layout.{add_name, bag_names, names, layout}
use Rattle.hs_reduction.proofs.Below.{BagBelow, Below, from_top, lin-top}
use Rattle.hs_reduction.proofs.Back.{at_below}
use Rattle.hs_reduction.proofs.Laid.{layout-below}

-- by rising number, and no two are one
abbrev pub AreApart : List Var → Type 0
AreApart [] = Unit {0}
AreApart (w ∷ ws) = All (λ u. (w.number ≤ u.number) × (same w u ≡ false)) ws × AreApart ws

-- ---- a name more

add_name-here : (v w : Var) (ws : List Var) → same w v ≡ true → add_name v (w ∷ ws) ≡ w ∷ ws
add_name-here v w ws h = λ i. if h i then w ∷ ws else (if nat_lt v.number w.number then v ∷ w ∷ ws else w ∷ add_name v ws)

add_name-before : (v w : Var) (ws : List Var) → same w v ≡ false → nat_lt v.number w.number ≡ true → add_name v (w ∷ ws) ≡ v ∷ w ∷ ws
add_name-before v w ws h k =
    (λ i. if h i then w ∷ ws else (if nat_lt v.number w.number then v ∷ w ∷ ws else w ∷ add_name v ws)) ∙ (λ i. if k i then v ∷ w ∷ ws else w ∷ add_name v ws)

add_name-after : (v w : Var) (ws : List Var) → same w v ≡ false → nat_lt v.number w.number ≡ false → add_name v (w ∷ ws) ≡ w ∷ add_name v ws
add_name-after v w ws h k =
    (λ i. if h i then w ∷ ws else (if nat_lt v.number w.number then v ∷ w ∷ ws else w ∷ add_name v ws)) ∙ (λ i. if k i then v ∷ w ∷ ws else w ∷ add_name v ws)

all-add : (P : Var → Type 0) (v : Var) (ws : List Var) → P v → All P ws → All P (add_name v ws)
all-add P v [] this all = All-cons P v [] this all
all-add P v (w ∷ ws) this all = elim (cases_Bool (same w v)) [
  | inl is ↦ subst (All P) (sym (add_name-here v w ws is)) all
  | inr other ↦ elim (cases_Bool (nat_lt v.number w.number)) [
    | inl before ↦ subst (All P) (sym (add_name-before v w ws other before)) (All-cons P v (w ∷ ws) this all)
    | inr after ↦ subst (All P) (sym (add_name-after v w ws other after)) (All-cons P w (add_name v ws) (All-first P w ws all) (all-add P v ws this (All-later P w ws all)))
  ]
]

lower_apart : (v u : Var) → v.number < u.number → same v u ≡ false
lower_apart v u less = different v u (λ e. let f : v.number ≡ u.number = ap (λ w. w.number) e in absurd (omega arith))

add-apart : (v : Var) (ws : List Var) → AreApart ws → AreApart (add_name v ws)
add-apart v [] h = (All-nil (λ u. (v.number ≤ u.number) × (same v u ≡ false)), tt)
add-apart v (w ∷ ws) h =
    let P : Var → Type 0 = λ u. (w.number ≤ u.number) × (same w u ≡ false) in
    elim (cases_Bool (same w v)) [
      | inl is ↦ subst AreApart (sym (add_name-here v w ws is)) h
      | inr other ↦ elim (cases_Bool (nat_lt v.number w.number)) [
        | inl before ↦
            let less : v.number < w.number = ltb-true v.number w.number before in
            let Q : Var → Type 0 = λ u. (v.number ≤ u.number) × (same v u ≡ false) in
            let rest : All Q ws = λ k d within. let r = h.0 k d within in (let up = r.0 in omega arith, lower_apart v (get_or ws k d) (let up = r.0 in omega arith)) in
            subst AreApart (sym (add_name-before v w ws other before)) (All-cons Q w ws (omega arith, lower_apart v w less) rest, h)
        | inr after ↦
            subst AreApart (sym (add_name-after v w ws other after)) (all-add P v ws (ltb-false v.number w.number after, other) h.0, add-apart v ws h.1)
      ]
    ]

-- ---- all names

bag_names-apart : (b : BagTerm) (vs : List Var) → AreApart vs → AreApart (bag_names b vs)
bag_names-apart empty vs h = h
bag_names-apart (name v) vs h = add-apart v vs h
bag_names-apart (one a) vs h = h
bag_names-apart (union a b) vs h = bag_names-apart b (bag_names a vs) (bag_names-apart a vs h)
bag_names-apart (inter a b) vs h = bag_names-apart b (bag_names a vs) (bag_names-apart a vs h)
bag_names-apart (diff a b) vs h = bag_names-apart b (bag_names a vs) (bag_names-apart a vs h)

pub names-apart : (p : Assertion) (vs : List Var) → AreApart vs → AreApart (names p vs)
names-apart (bag_eq a b) vs h = bag_names-apart b (bag_names a vs) (bag_names-apart a vs h)
names-apart (subset a b) vs h = bag_names-apart b (bag_names a vs) (bag_names-apart a vs h)
names-apart (member a b) vs h = bag_names-apart b vs h
names-apart (all_of u b p) vs h = bag_names-apart b vs h
names-apart (negation p) vs h = names-apart p vs h
names-apart (both p q) vs h = names-apart q (names p vs) (names-apart p vs h)
names-apart (either p q) vs h = names-apart q (names p vs) (names-apart p vs h)
names-apart truth vs h = h
names-apart (eq a b) vs h = h
names-apart (lt a b) vs h = h
names-apart (le a b) vs h = h
names-apart (divides d a) vs h = h
names-apart (exists u p) vs h = h
names-apart (forall u p) vs h = h

apart_at : (ws : List Var) → AreApart ws → (i j : ℕ) (d : Var) → i < j → j < length ws → same (get_or ws i d) (get_or ws j d) ≡ false
apart_at [] h i j d less within = absurd (omega arith)
apart_at (w ∷ ws) h i zero d less within = absurd (omega arith)
apart_at (w ∷ ws) h zero (suc j) d less within = (h.0 j d (omega arith)).1
apart_at (w ∷ ws) h (suc i) (suc j) d less within = apart_at ws h.1 i j d (omega arith) (omega arith)

-- no two places have one bag variable
pub bags-apart : (start : ℕ) (p : Assertion) (i j : ℕ) (d : Var) → i < j → j < length (layout start p).bags → same (get_or (layout start p).bags i d) (get_or (layout start p).bags j d) ≡ false
bags-apart start p = apart_at (names p []) (names-apart p [] tt)

-- ---- below the first new number

module _ (n : ℕ) where
  abbrev IsLow : Var → Type 0
  IsLow v = v.number < n

  bag_names-low : (b : BagTerm) (vs : List Var) → BagBelow n b → All IsLow vs → All IsLow (bag_names b vs)
  bag_names-low empty vs low h = h
  bag_names-low (name v) vs low h = all-add IsLow v vs low h
  bag_names-low (one a) vs low h = h
  bag_names-low (union a b) vs low h = bag_names-low b (bag_names a vs) low.1 (bag_names-low a vs low.0 h)
  bag_names-low (inter a b) vs low h = bag_names-low b (bag_names a vs) low.1 (bag_names-low a vs low.0 h)
  bag_names-low (diff a b) vs low h = bag_names-low b (bag_names a vs) low.1 (bag_names-low a vs low.0 h)

  names-low : (p : Assertion) (vs : List Var) → Below n p → All IsLow vs → All IsLow (names p vs)
  names-low (bag_eq a b) vs low h = bag_names-low b (bag_names a vs) low.1 (bag_names-low a vs low.0 h)
  names-low (subset a b) vs low h = bag_names-low b (bag_names a vs) low.1 (bag_names-low a vs low.0 h)
  names-low (member a b) vs low h = bag_names-low b vs low.1 h
  names-low (all_of u b p) vs low h = bag_names-low b vs low.1 h
  names-low (negation p) vs low h = names-low p vs low h
  names-low (both p q) vs low h = names-low q (names p vs) low.1 (names-low p vs low.0 h)
  names-low (either p q) vs low h = names-low q (names p vs) low.1 (names-low p vs low.0 h)
  names-low truth vs low h = h
  names-low (eq a b) vs low h = h
  names-low (lt a b) vs low h = h
  names-low (le a b) vs low h = h
  names-low (divides d a) vs low h = h
  names-low (exists u p) vs low h = h
  names-low (forall u p) vs low h = h

pub bags-below : (start : ℕ) (p : Assertion) → assertion_top p < start → All (λ v. v.number < start) (layout start p).bags
bags-below start p top = names-low start p [] (from_top start p top) (All-nil (IsLow start))

pub listed-below : (start : ℕ) (p : Assertion) → assertion_top p < start → All (λ a. lin_top a < start) (layout start p).listed
listed-below start p top = λ i none within. lin-top start (get_or (layout start p).listed i none) (omega arith) (at_below start none (layout start p).listed i (layout-below start p (from_top start p top)) within)
