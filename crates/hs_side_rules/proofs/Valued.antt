-- Conjuncts that give the one open variable a value are told.
use Rattle.std.proofs.Common.{◌≡◌, ℤ, pos, negsuc, ◌-ℤ◌, Bool, true, false, not, ◌&&◌, ◌||◌, ◌⊎◌, inl, inr, IsTrue, List, [], ◌∷◌, Option, Some, None, refl, sym, ap, ◌∙◌, subst}
use Rattle.std.specs.List.{All, list_any}
use Rattle.std.specs.Option.{option_map_or}
use Rattle.std.specs.Ordering.{int_eq}
use Rattle.std.proofs.lemmas.Bool.{or_cases, and_parts, and_from}
use Rattle.std.proofs.lemmas.Bool.Decides.{Decides-int_eq}
use Rattle.hs_pure.specs.declared.var.Var.{Var}
use Rattle.hs_pure.specs.declared.lin.Lin.{Lin}
use Rattle.hs_pure.specs.declared.bag.Bag.{Bag, map-Bag, ind-Bag, roll-Bag, fold-roll-Bag}
use Rattle.hs_pure.specs.declared.bag.Bag.TheOpen.{Bag-F}
use Rattle.hs_pure.specs.declared.bag.Bag.TheVariants as bag_of
use Rattle.hs_pure.specs.declared.pure.Pure.{Pure, map-Pure, ind-Pure, roll-Pure, fold-roll-Pure}
use Rattle.hs_pure.specs.declared.pure.Pure.TheOpen.{Pure-F}
use Rattle.hs_pure.specs.declared.pure.Pure.TheVariants as pure_of
use Rattle.hs_pure.specs.Stack.{same}
use Rattle.hs_pure.specs.Occurs.{in_lin, in_bag, is_free, is_free_level}
use Rattle.hs_pure.proofs.Vars.{or_left, or_right, same-eq, same-refl}
use Rattle.hs_pure.proofs.Views.{fold-Eq, fold-BagEq, fold_bag-Name}
use Rattle.hs_heap.specs.Meaning.{is_in}
use Rattle.hs_heap.proofs.Booleans.{bool_cases, or_false_left, or_false_right, clash}
use Rattle.hs_heap.proofs.Stacks.{same_is}
use Rattle.hs_heap.proofs.Tells.{Tells, tells, tells_both, tells_all, tells_not}
use Rattle.hs_heap.proofs.Lists.{listed_forth, listed_back}
use Rattle.hs_rules.specs.Conditions.{coefficient_in, coefficient, IsSumEquation, IsBagEquation}
use Rattle.hs_side_rules.specs.Solving.{in_sums, first_with, is_only, is_unit, solves, is_sum_equation, has_none, is_open_name_level, is_open_name, is_bag_equation, is_equation_level, is_equation, HasEquation}

-- ---- tests of lists

first_here : (test : Var → Bool) (v : Var) (vs : List Var) → test v ≡ true → first_with test (v ∷ vs) ≡ Some v
first_here test v vs e = rw e refl

first_later : (test : Var → Bool) (v : Var) (vs : List Var) → test v ≡ false → first_with test (v ∷ vs) ≡ first_with test vs
first_later test v vs e = rw e refl

-- what is found first
abbrev IsFirst : (Var → Bool) → List Var → Option Var → Type 0
IsFirst test vs None = (w : Var) → IsTrue (is_in w vs) → test w ≡ false
IsFirst test vs (Some v) = IsTrue (is_in v vs) × IsTrue (test v)

first_told : (test : Var → Bool) (vs : List Var) → IsFirst test vs (first_with test vs)
first_told test [] = λ w e. absurd cc
first_told test (v ∷ vs) = elim (bool_cases (test v)) [
  | inl is ↦ subst (IsFirst test (v ∷ vs)) (sym (first_here test v vs is)) (or_left (same v v) (is_in v vs) (same-refl v), is)
  | inr isnt ↦ subst (IsFirst test (v ∷ vs)) (sym (first_later test v vs isnt)) (more (first_with test vs) (first_told test vs) isnt)
]
  where
    more : (o : Option Var) → IsFirst test vs o → test v ≡ false → IsFirst test (v ∷ vs) o
    more None h isnt = λ w e. elim (or_cases (same w v) (is_in w vs) e) [ inl is ↦ ap test (same-eq w v is) ∙ isnt | inr later ↦ h w later ]
    more (Some u) h isnt = (or_right (same u v) (is_in u vs) h.0, h.1)

or_implied : (a b : Bool) (A : Type 0) → Tells a A → Tells (a || not b) (IsTrue b → A)
or_implied true b A t = (λ h e. t.0 refl, λ h. refl)
or_implied false true A t = (λ h e. absurd cc, λ h. t.1 (h refl))
or_implied false false A t = (λ h e. absurd cc, λ h. refl)

only_told : (test : Var → Bool) (v : Var) (vs : List Var) → Tells (is_only test v vs) ((w : Var) → IsTrue (is_in w vs) → IsTrue (test w) → w ≡ v)
only_told test v vs = tells (is_only test v vs) (All (λ w. IsTrue (test w) → w ≡ v) vs) ((w : Var) → IsTrue (is_in w vs) → IsTrue (test w) → w ≡ v)
    (tells_all (λ w. same w v || not (test w)) (λ w. IsTrue (test w) → w ≡ v) (λ w. or_implied (same w v) (test w) (w ≡ v) (λ h. same-eq w v h, λ h. same_is w v h)) vs)
    (listed_forth (λ w. IsTrue (test w) → w ≡ v) vs) (listed_back (λ w. IsTrue (test w) → w ≡ v) vs)

none_told : (vs : List Var) (b : Bag) → Tells (has_none vs b) ((w : Var) → IsTrue (is_in w vs) → in_bag w b ≡ false)
none_told vs b = tells (has_none vs b) (All (λ w. in_bag w b ≡ false) vs) ((w : Var) → IsTrue (is_in w vs) → in_bag w b ≡ false)
    (tells_all (λ w. not (in_bag w b)) (λ w. in_bag w b ≡ false) (λ w. tells_not (in_bag w b)) vs)
    (listed_forth (λ w. in_bag w b ≡ false) vs) (listed_back (λ w. in_bag w b ≡ false) vs)

-- ---- coefficients

abbrev IsUnit : ℤ → Type 0
IsUnit x = (x ≡ pos 1) ⊎ (x ≡ negsuc 0)

unit_told : (x : ℤ) → Tells (is_unit x) (IsUnit x)
unit_told x = (
  λ h. elim (or_cases (int_eq x (pos 1)) (int_eq x (negsuc 0)) h) [ inl e ↦ inl ((Decides-int_eq x (pos 1)).0 e) | inr e ↦ inr ((Decides-int_eq x (negsuc 0)).0 e) ],
  λ h. elim h [ inl e ↦ or_left (int_eq x (pos 1)) (int_eq x (negsuc 0)) ((Decides-int_eq x (pos 1)).1 e) | inr e ↦ or_right (int_eq x (pos 1)) (int_eq x (negsuc 0)) ((Decides-int_eq x (negsuc 0)).1 e) ],
)

pub coefficient-other : (v : Var) (t : Var × ℤ) (ts : List (Var × ℤ)) → same t.0 v ≡ false → coefficient_in v (t ∷ ts) ≡ coefficient_in v ts
coefficient-other v t ts e = rw e refl

absent : (v : Var) (ts : List (Var × ℤ)) → list_any (λ t. same t.0 v) ts ≡ false → coefficient_in v ts ≡ pos 0
absent v [] e = refl
absent v (t ∷ ts) e = coefficient-other v t ts (or_false_left (same t.0 v) (list_any (λ u. same u.0 v) ts) e) ∙ absent v ts (or_false_right (same t.0 v) (list_any (λ u. same u.0 v) ts) e)

-- what is in no sum has no coefficient
unit_occurs : (a b : Lin) (v : Var) → IsUnit (coefficient v a -ℤ coefficient v b) → in_sums a b v ≡ false → ⊥
unit_occurs a b v unit isnt =
    let x : coefficient v a ≡ pos 0 = absent v a.terms (or_false_left (in_lin v a) (in_lin v b) isnt) in
    let y : coefficient v b ≡ pos 0 = absent v b.terms (or_false_right (in_lin v a) (in_lin v b) isnt) in
    let zero : coefficient v a -ℤ coefficient v b ≡ pos 0 = (λ i. x i -ℤ y i) in
    elim unit [ inl e ↦ let f : pos 0 ≡ pos 1 = sym zero ∙ e in absurd cc | inr e ↦ let f : pos 0 ≡ negsuc 0 = sym zero ∙ e in absurd cc ]

-- ---- equations of sums

record Solves (opens : List Var) (a b : Lin) (v : Var) : Type 0 where
  open_there : IsTrue (is_in v opens)
  only : (w : Var) → IsTrue (is_in w opens) → IsTrue (in_sums a b w) → w ≡ v
  unit : IsUnit (coefficient v a -ℤ coefficient v b)

sum_told : (opens : List Var) (a b : Lin) → Tells (is_sum_equation opens a b) ((v : Var) × Solves opens a b v)
sum_told opens a b = go (first_with (in_sums a b) opens) (first_told (in_sums a b) opens)
  where
    test : Var → Bool
    test = in_sums a b

    parts : (v : Var) → Tells (solves opens a b v) (((w : Var) → IsTrue (is_in w opens) → IsTrue (in_sums a b w) → w ≡ v) × IsUnit (coefficient v a -ℤ coefficient v b))
    parts v = tells_both (is_only (in_sums a b) v opens) (is_unit (coefficient v a -ℤ coefficient v b)) ((w : Var) → IsTrue (is_in w opens) → IsTrue (in_sums a b w) → w ≡ v) (IsUnit (coefficient v a -ℤ coefficient v b))
        (only_told (in_sums a b) v opens) (unit_told (coefficient v a -ℤ coefficient v b))

    go : (o : Option Var) → IsFirst (in_sums a b) opens o → Tells (option_map_or (solves opens a b) o false) ((v : Var) × Solves opens a b v)
    go None h = (λ e. absurd cc, λ s. absurd (unit_occurs a b s.0 s.1.unit (h s.0 s.1.open_there)))
    go (Some u) h = (
      λ e. let p = (parts u).0 e in (u, record { open_there = h.0; only = p.0; unit = p.1 }),
      λ s. let same_var : u ≡ s.0 = s.1.only u h.0 h.1 in subst (λ v. IsTrue (solves opens a b v)) (sym same_var) ((parts s.0).1 (s.1.only, s.1.unit)),
    )

free_in_equation : (w : Var) (a b : Lin) → is_free w (pure_of.Eq a b) ≡ in_sums a b w
free_in_equation w a b = fold-Eq (is_free_level w) a b

sum_equation : (opens : List Var) (a b : Lin) (v : Var) → Solves opens a b v → IsSumEquation opens v (pure_of.Eq a b)
sum_equation opens a b v s = record {
  a = a;
  b = b;
  is = refl;
  open_there = s.open_there;
  only = λ w is there. s.only w there (sym (free_in_equation w a b) ∙ is);
  unit = s.unit;
}

solved : (opens : List Var) (v : Var) (p : Pure) (s : IsSumEquation opens v p) → Solves opens s.a s.b v
solved opens v p s = record {
  open_there = s.open_there;
  only = λ w there is. s.only w (ap (is_free w) s.is ∙ free_in_equation w s.a s.b ∙ is) there;
  unit = s.unit;
}

-- ---- equations of bags

abbrev IsNameRead : List Var → Bag → Type 0
IsNameRead opens b = is_open_name opens b ≡ true → (v : Var) × ((b ≡ bag_of.Name v) × IsTrue (is_in v opens))

name_read : (opens : List Var) (b : Bag) → IsNameRead opens b
name_read opens = ind-Bag (IsNameRead opens) (λ x y is e. level x (sym (fold-roll-Bag Bool (is_open_name_level opens) x) ∙ e))
  where
    level : (x : Bag-F Bag) → is_open_name_level opens (map-Bag Bag Bool (is_open_name opens) x) ≡ true → (v : Var) × ((roll-Bag x ≡ bag_of.Name v) × IsTrue (is_in v opens))
    level Bag-F.Empty e = absurd cc
    level (Bag-F.Name v) e = (v, (bag_of.rolls-Name v, e))
    level (Bag-F.One a) e = absurd cc
    level (Bag-F.Union a b) e = absurd cc
    level (Bag-F.Inter a b) e = absurd cc
    level (Bag-F.Diff a b) e = absurd cc

-- one bag is an open variable, and the other has none
abbrev IsValue : List Var → Bag → Bag → Type 0
IsValue opens a other = (v : Var) × ((a ≡ bag_of.Name v) × (IsTrue (is_in v opens) × ((w : Var) → IsTrue (in_bag w other) → is_in w opens ≡ false)))

turned : (a b : Bool) → (IsTrue a → b ≡ false) → IsTrue b → a ≡ false
turned true b h e = clash e (h refl)
turned false b h e = refl

value_told : (opens : List Var) (a b : Bag) → Tells (is_open_name opens a && has_none opens b) (IsValue opens a b)
value_told opens a b = (
  λ h.
      let parts = and_parts (is_open_name opens a) (has_none opens b) h in
      let name = name_read opens a parts.0 in
      (name.0, (name.1.0, (name.1.1, λ w. turned_back w ((none_told opens b).0 parts.1 w)))),
  λ s. and_from (is_open_name opens a) (has_none opens b)
      (ap (is_open_name opens) s.1.0 ∙ fold_bag-Name (is_open_name_level opens) s.0 ∙ s.1.1.0)
      ((none_told opens b).1 (λ w there. turned (in_bag w b) (is_in w opens) (s.1.1.1 w) there)),
)
  where
    turned_back : (w : Var) → (IsTrue (is_in w opens) → in_bag w b ≡ false) → IsTrue (in_bag w b) → is_in w opens ≡ false
    turned_back w h e = turned (is_in w opens) (in_bag w b) h e

bag_told : (opens : List Var) (a b : Bag) → Tells (is_bag_equation opens a b) (IsValue opens a b ⊎ IsValue opens b a)
bag_told opens a b =
    let left = is_open_name opens a && has_none opens b in
    let right = is_open_name opens b && has_none opens a in (
      λ h. elim (or_cases left right h) [ inl e ↦ inl ((value_told opens a b).0 e) | inr e ↦ inr ((value_told opens b a).0 e) ],
      λ h. elim h [ inl s ↦ or_left left right ((value_told opens a b).1 s) | inr s ↦ or_right left right ((value_told opens b a).1 s) ],
    )

-- ---- formulas

sum_back : (opens : List Var) (p : Pure) (v : Var) → IsSumEquation opens v p → IsTrue (is_equation opens p)
sum_back opens p v s = ap (is_equation opens) s.is ∙ fold-Eq (is_equation_level opens) s.a s.b ∙ (sum_told opens s.a s.b).1 (v, solved opens v p s)

bag_back : (opens : List Var) (p : Pure) (v : Var) → IsBagEquation opens v p → IsTrue (is_equation opens p)
bag_back opens p v s = elim s.is [
  | inl e ↦ ap (is_equation opens) e ∙ fold-BagEq (is_equation_level opens) (bag_of.Name v) s.other ∙ (bag_told opens (bag_of.Name v) s.other).1 (inl (v, (refl, (s.open_there, s.closed))))
  | inr e ↦ ap (is_equation opens) e ∙ fold-BagEq (is_equation_level opens) s.other (bag_of.Name v) ∙ (bag_told opens s.other (bag_of.Name v)).1 (inr (v, (refl, (s.open_there, s.closed))))
]

bag_equation : (opens : List Var) (a b : Bag) → IsValue opens a b ⊎ IsValue opens b a → HasEquation opens (pure_of.BagEq a b)
bag_equation opens a b h = elim h [
  | inl s ↦ (s.0, inr (record { other = b; is = inl (ap (λ c. pure_of.BagEq c b) s.1.0); open_there = s.1.1.0; closed = s.1.1.1 }))
  | inr s ↦ (s.0, inr (record { other = a; is = inr (ap (λ c. pure_of.BagEq a c) s.1.0); open_there = s.1.1.0; closed = s.1.1.1 }))
]

abbrev IsRead : List Var → Pure → Type 0
IsRead opens p = is_equation opens p ≡ true → HasEquation opens p

equation_read : (opens : List Var) (p : Pure) → IsRead opens p
equation_read opens = ind-Pure (IsRead opens) (λ x y is e. level x (sym (fold-roll-Pure Bool (is_equation_level opens) x) ∙ e))
  where
    level : (x : Pure-F Pure) → is_equation_level opens (map-Pure Pure Bool (is_equation opens) x) ≡ true → HasEquation opens (roll-Pure x)
    level (Pure-F.Eq a b) e =
        let s = (sum_told opens a b).0 e in
        subst (HasEquation opens) (sym (pure_of.rolls-Eq a b)) (s.0, inl (sum_equation opens a b s.0 s.1))
    level (Pure-F.Lt a b) e = absurd cc
    level (Pure-F.Le a b) e = absurd cc
    level (Pure-F.Divides d a) e = absurd cc
    level (Pure-F.BagEq a b) e = subst (HasEquation opens) (sym (pure_of.rolls-BagEq a b)) (bag_equation opens a b ((bag_told opens a b).0 e))
    level (Pure-F.Subset a b) e = absurd cc
    level (Pure-F.Member a b) e = absurd cc
    level (Pure-F.AllOf u b p) e = absurd cc
    level (Pure-F.Not p) e = absurd cc
    level (Pure-F.And ps) e = absurd cc
    level (Pure-F.Or ps) e = absurd cc
    level (Pure-F.Exists u p) e = absurd cc
    level (Pure-F.Forall u p) e = absurd cc

-- the test is true exactly where there is such a variable
pub equation_told : (opens : List Var) (p : Pure) → Tells (is_equation opens p) (HasEquation opens p)
equation_told opens p = (equation_read opens p, λ h. elim h.1 [ inl s ↦ sum_back opens p h.0 s | inr s ↦ bag_back opens p h.0 s ])
