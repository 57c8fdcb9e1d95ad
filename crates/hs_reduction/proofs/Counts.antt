-- What the counts of the reduction say of the bags.
use Rattle.std.proofs.Common.{◌≡◌, ℕ, zero, suc, ◌+◌, ◌-◌, min, ◌<◌, ◌≤◌, ◌⊎◌, inl, inr, ℤ, pos, ◌+ℤ◌, ◌<ℤ◌, ◌≤ℤ◌, true, false, List, [], ◌∷◌, ◌++◌, length, get_or, nat_lt, refl, sym, ap, ◌∙◌, subst, arith}
use Rattle.std.proofs.lemmas.Int.{ints}
use Rattle.std.proofs.lemmas.List.{length-append}
use Rattle.hs_pure.specs.declared.var.Var.{Var}
use Rattle.hs_pure.specs.declared.lin.Lin.{Lin}
use Rattle.hs_pure.specs.Multiset
use Rattle.hs_pure.specs.Stack.{Stack}
use Rattle.hs_pure.specs.Assertion.{BagTerm, empty, name, one, union, inter, diff, Assertion, truth, eq, lt, le, divides, bag_eq, subset, member, all_of, negation, both, either, exists, forall}
use Rattle.hs_pure.specs.Truth.{value, count, IsTrueAt}
use Rattle.hs_elimination.specs.Linear.{number}
use Rattle.hs_elimination.specs.Cases.{has_lin}
use Rattle.hs_reduction.specs.Layout.{variable, Layout, width, element, count_number, lin_place, has_name, name_place, bag_compounds}
use Rattle.hs_reduction.specs.Reduction.{all_below, count_term, defined}
use Rattle.hs_reduction.specs.Rebuilt.{count_at}
use Rattle.hs_reduction.proofs.Bags.{int_cases, int_equal, int_other}
use Rattle.hs_reduction.proofs.Below.{BagBelow}
use Rattle.hs_reduction.proofs.Values.{SameBelow, value_agrees, value-variable, value-plus}
use Rattle.hs_reduction.proofs.Places.{less_test, not_less_test, lin_place-is, StandsAt, StandsAt-left, StandsAt-right}

pub by_last : (i n : ℕ) → i < suc n → (i ≡ n) ⊎ (i < n)
by_last i n less = grind arith

pub all_below-each : (n : ℕ) (f : ℕ → Assertion) (s : Stack) → IsTrueAt s (all_below n f) → (i : ℕ) → i < n → IsTrueAt s (f i)
all_below-each zero f s h i less = absurd (omega arith)
all_below-each (suc zero) f s h i less = subst (λ j. IsTrueAt s (f j)) (let first : 0 ≡ i = omega arith in first) h
all_below-each (suc (suc n)) f s h i less = elim (by_last i (suc n) less) [
  | inl last ↦ subst (λ j. IsTrueAt s (f j)) (sym last) h.1
  | inr before ↦ all_below-each (suc n) f s h.0 i before
]

pub each-all_below : (n : ℕ) (f : ℕ → Assertion) (s : Stack) → ((i : ℕ) → i < n → IsTrueAt s (f i)) → IsTrueAt s (all_below n f)
each-all_below zero f s h = tt
each-all_below (suc zero) f s h = h 0 (omega arith)
each-all_below (suc (suc n)) f s h = (each-all_below (suc n) f s (λ i less. h i (omega arith)), h (suc n) (omega arith))

-- ---- element terms

pub element-listed : (l : Layout) (i : ℕ) → i < length l.listed → element l i ≡ get_or l.listed i (number (pos 0))
element-listed l i h = let is = less_test i (length l.listed) h in rw is refl

pub element-new : (l : Layout) (j : ℕ) → element l (length l.listed + j) ≡ variable (l.start + j)
element-new l j =
    let beyond : nat_lt (length l.listed + j) (length l.listed) ≡ false = not_less_test (length l.listed + j) (length l.listed) (λ h. absurd (omega arith)) in
    let back : length l.listed + j - length l.listed ≡ j = omega arith in
    rw (beyond, back) refl

pub element-place : (l : Layout) (a : Lin) → has_lin a l.listed ≡ true → element l (lin_place a l.listed) ≡ a
element-place l a e =
    let place = lin_place-is (number (pos 0)) a l.listed e in
    element-listed l (lin_place a l.listed) place.0 ∙ place.1

pub place_within : (l : Layout) (a : Lin) → has_lin a l.listed ≡ true → lin_place a l.listed < width l
place_within l a e = let place = lin_place-is (number (pos 0)) a l.listed e in omega (arith, place.0)

-- ---- what a layout has of an assertion

abbrev pub BagFits : Layout → BagTerm → Type 0
BagFits l empty = Unit {0}
BagFits l (name v) = has_name v l.bags ≡ true
BagFits l (one a) = has_lin a l.listed ≡ true
BagFits l (union a b) = BagFits l a × BagFits l b
BagFits l (inter a b) = BagFits l a × BagFits l b
BagFits l (diff a b) = BagFits l a × BagFits l b

abbrev pub Fits : Layout → Assertion → Type 0
Fits l truth = Unit {0}
Fits l (eq a b) = Unit {0}
Fits l (lt a b) = Unit {0}
Fits l (le a b) = Unit {0}
Fits l (divides d a) = Unit {0}
Fits l (bag_eq a b) = BagFits l a × BagFits l b
Fits l (subset a b) = BagFits l a × BagFits l b
Fits l (member a b) = (has_lin a l.listed ≡ true) × BagFits l b
Fits l (all_of u b p) = BagFits l b
Fits l (negation p) = Fits l p
Fits l (both p q) = Fits l p × Fits l q
Fits l (either p q) = Fits l p × Fits l q
Fits l (exists u p) = Unit {0}
Fits l (forall u p) = Unit {0}

-- ---- compound bags in the order of their blocks

abbrev pub bag_parts : BagTerm → List BagTerm
bag_parts empty = []
bag_parts (name v) = []
bag_parts (one a) = one a ∷ []
bag_parts (union a b) = bag_parts a ++ (bag_parts b ++ union a b ∷ [])
bag_parts (inter a b) = bag_parts a ++ (bag_parts b ++ inter a b ∷ [])
bag_parts (diff a b) = bag_parts a ++ (bag_parts b ++ diff a b ∷ [])

length_parts : (xs ys : List BagTerm) (z : BagTerm) (m n : ℕ) → length xs ≡ m → length ys ≡ n → length (xs ++ (ys ++ z ∷ [])) ≡ m + n + 1
length_parts xs ys z m n e f = omega (arith, length-append xs (ys ++ z ∷ []), length-append ys (z ∷ []))

pub length-bag_parts : (b : BagTerm) → length (bag_parts b) ≡ bag_compounds b
length-bag_parts empty = refl
length-bag_parts (name v) = refl
length-bag_parts (one a) = refl
length-bag_parts (union a b) = length_parts (bag_parts a) (bag_parts b) (union a b) (bag_compounds a) (bag_compounds b) (length-bag_parts a) (length-bag_parts b)
length-bag_parts (inter a b) = length_parts (bag_parts a) (bag_parts b) (inter a b) (bag_compounds a) (bag_compounds b) (length-bag_parts a) (length-bag_parts b)
length-bag_parts (diff a b) = length_parts (bag_parts a) (bag_parts b) (diff a b) (bag_compounds a) (bag_compounds b) (length-bag_parts a) (length-bag_parts b)

-- two bags and what is made of them
abbrev Segments : ℕ → BagTerm → BagTerm → BagTerm → (ℕ → BagTerm) → Type 0
Segments k a b whole table =
    StandsAt empty k (bag_parts a) table × StandsAt empty (k + bag_compounds a) (bag_parts b) table × (table (k + bag_compounds a + bag_compounds b) ≡ whole)

segments : (k : ℕ) (a b whole : BagTerm) (table : ℕ → BagTerm) → StandsAt empty k (bag_parts a ++ (bag_parts b ++ whole ∷ [])) table → Segments k a b whole table
segments k a b whole table stands =
    let rest = StandsAt-right empty k (bag_compounds a) (bag_parts a) (bag_parts b ++ whole ∷ []) table (length-bag_parts a) stands in
    let last = StandsAt-right empty (k + bag_compounds a) (bag_compounds b) (bag_parts b) (whole ∷ []) table (length-bag_parts b) rest in (
      StandsAt-left empty k (bag_parts a) (bag_parts b ++ whole ∷ []) table stands,
      StandsAt-left empty (k + bag_compounds a) (bag_parts b) (whole ∷ []) table rest,
      ap table (let e : k + bag_compounds a + bag_compounds b ≡ k + bag_compounds a + bag_compounds b + 0 = omega arith in e) ∙ last 0 (omega arith),
    )

-- ---- counts

pub count_one : (s : Stack) (a : Lin) (x : ℤ) → value s a ≡ x → count s (one a) x ≡ 1
count_one s a x e = let is = int_equal (value s a) x e in rw is refl

pub count_other : (s : Stack) (a : Lin) (x : ℤ) → ¬ (value s a ≡ x) → count s (one a) x ≡ 0
count_other s a x apart = let isnt = int_other (value s a) x apart in rw isnt refl

sum_of : (c x y : ℤ) (m n : ℕ) → x ≡ pos m → y ≡ pos n → c ≡ x +ℤ y → c ≡ pos (m + n)
sum_of c x y m n e f g = omega (arith, ints)

least_of : (c x y : ℤ) (m n : ℕ) → x ≡ pos m → y ≡ pos n → ((x ≤ℤ y) × (c ≡ x)) ⊎ ((y <ℤ x) × (c ≡ y)) → c ≡ pos (min m n)
least_of c x y m n e f (inl g) = omega (arith, ints, g.0, g.1)
least_of c x y m n e f (inr g) = omega (arith, ints, g.0, g.1)

rest_of : (c x y : ℤ) (m n : ℕ) → x ≡ pos m → y ≡ pos n → ((x ≤ℤ y) × (c ≡ pos 0)) ⊎ ((y <ℤ x) × ((c +ℤ y) ≡ x)) → c ≡ pos (m - n)
rest_of c x y m n e f (inl g) = omega (arith, ints, g.0, g.1)
rest_of c x y m n e f (inr g) = omega (arith, ints, g.0, g.1)

of_sum : (c x y : ℤ) (m n : ℕ) → x ≡ pos m → y ≡ pos n → c ≡ pos (m + n) → c ≡ x +ℤ y
of_sum c x y m n e f g = omega (arith, ints)

nat_order : (m n : ℕ) → (m ≤ n) ⊎ (n < m)
nat_order m n = grind arith

of_least : (c x y : ℤ) (m n : ℕ) → x ≡ pos m → y ≡ pos n → c ≡ pos (min m n) → ((x ≤ℤ y) × (c ≡ x)) ⊎ ((y <ℤ x) × (c ≡ y))
of_least c x y m n e f g = elim (nat_order m n) [
  | inl h ↦ inl (omega (arith, ints), omega (arith, ints))
  | inr h ↦ inr (omega (arith, ints), omega (arith, ints))
]

of_rest : (c x y : ℤ) (m n : ℕ) → x ≡ pos m → y ≡ pos n → c ≡ pos (m - n) → ((x ≤ℤ y) × (c ≡ pos 0)) ⊎ ((y <ℤ x) × ((c +ℤ y) ≡ x))
of_rest c x y m n e f g = elim (nat_order m n) [
  | inl h ↦ inl (omega (arith, ints), omega (arith, ints))
  | inr h ↦ inr (omega (arith, ints), omega (arith, ints))
]

-- t has at each element term the counts of the bag variables at s
abbrev pub Counted : Layout → Stack → Stack → Type 0
Counted l s t = (v : Var) → has_name v l.bags ≡ true → (i : ℕ) → i < width l → count_at l t (name_place v l.bags) i ≡ pos (Multiset.count (s v).bag (value t (element l i)))

module _ (l : Layout) (s t : Stack) (numbers : SameBelow l.start s t) (named : Counted l s t) where
  -- a count term is worth the count
  abbrev Reads : ℕ → BagTerm → ℕ → Type 0
  Reads block b i = value t (count_term l block b i) ≡ pos (count s b (value t (element l i)))

  pub reads : (b : BagTerm) (block i : ℕ) → i < width l → BagFits l b → BagBelow l.start b → IsTrueAt t (defined l block b i) → Reads block b i
  reads empty block i h fits below d = refl
  reads (name v) block i h fits below d = value-variable t (count_number l (name_place v l.bags) i) ∙ named v fits i h
  reads (one a) block i h fits below d =
      let same = value_agrees l.start s t a below numbers in
      elim d [
        | inl is ↦ is.1 ∙ ap pos (sym (count_one s a (value t (element l i)) (same ∙ sym is.0)))
        | inr isnt ↦ isnt.1 ∙ ap pos (sym (count_other s a (value t (element l i)) (λ e. isnt.0 (sym e ∙ same))))
      ]
  reads (union a b) block i h fits below d =
      sum_of _ _ _ _ _ (reads a block i h fits.0 below.0 d.0.0) (reads b (block + bag_compounds a) i h fits.1 below.1 d.0.1)
      (d.1 ∙ value-plus t (count_term l block a i) (count_term l (block + bag_compounds a) b i))
  reads (inter a b) block i h fits below d =
      least_of _ _ _ _ _ (reads a block i h fits.0 below.0 d.0.0) (reads b (block + bag_compounds a) i h fits.1 below.1 d.0.1) d.1
  reads (diff a b) block i h fits below d =
      rest_of _ _ _ _ _ (reads a block i h fits.0 below.0 d.0.0) (reads b (block + bag_compounds a) i h fits.1 below.1 d.0.1)
      (elim d.1 [
        | inl less ↦ inl less
        | inr more ↦ inr (more.0, sym (value-plus t (count_term l block (diff a b) i) (count_term l (block + bag_compounds a) b i)) ∙ more.1)
      ])

  -- the other way: where t has the counts of the compound bags of a table, they are as they are defined
  module _ (table : ℕ → BagTerm)
      (told : (block : ℕ) → length l.bags ≤ block → (i : ℕ) → i < width l → count_at l t block i ≡ pos (count s (table block) (value t (element l i)))) where
    told_whole : (block k : ℕ) (whole : BagTerm) (i : ℕ) → length l.bags ≤ block → i < width l → block ≤ k → table k ≡ whole →
        value t (variable (count_number l k i)) ≡ pos (count s whole (value t (element l i)))
    told_whole block k whole i start h more e = value-variable t (count_number l k i) ∙ told k (omega arith) i h ∙ ap (λ b. pos (count s b (value t (element l i)))) e

    pub told_reads : (b : BagTerm) (block i : ℕ) → i < width l → BagFits l b → length l.bags ≤ block → StandsAt empty block (bag_parts b) table → Reads block b i
    told_reads empty block i h fits start stands = refl
    told_reads (name v) block i h fits start stands = value-variable t (count_number l (name_place v l.bags) i) ∙ named v fits i h
    told_reads (one a) block i h fits start stands =
        told_whole block block (one a) i start h (omega arith) (ap table (let e : block ≡ block + 0 = omega arith in e) ∙ stands 0 (omega arith))
    told_reads (union a b) block i h fits start stands =
        told_whole block (block + bag_compounds a + bag_compounds b) (union a b) i start h (omega arith) (segments block a b (union a b) table stands).2
    told_reads (inter a b) block i h fits start stands =
        told_whole block (block + bag_compounds a + bag_compounds b) (inter a b) i start h (omega arith) (segments block a b (inter a b) table stands).2
    told_reads (diff a b) block i h fits start stands =
        told_whole block (block + bag_compounds a + bag_compounds b) (diff a b) i start h (omega arith) (segments block a b (diff a b) table stands).2

    pub told_defined : (b : BagTerm) (block i : ℕ) → i < width l → BagFits l b → BagBelow l.start b → length l.bags ≤ block → StandsAt empty block (bag_parts b) table →
        IsTrueAt t (defined l block b i)
    told_defined empty block i h fits below start stands = tt
    told_defined (name v) block i h fits below start stands = tt
    told_defined (one a) block i h fits below start stands =
        let same = value_agrees l.start s t a below numbers in
        let own = told_reads (one a) block i h fits start stands in
        elim (int_cases (value s a) (value t (element l i))) [
          | inl is ↦ inl (sym is ∙ same, own ∙ ap pos (count_one s a (value t (element l i)) is))
          | inr isnt ↦ inr (λ e. isnt (same ∙ sym e), own ∙ ap pos (count_other s a (value t (element l i)) isnt))
        ]
    told_defined (union a b) block i h fits below start stands =
        let parts = segments block a b (union a b) table stands in
        let x = told_reads a block i h fits.0 start parts.0 in
        let y = told_reads b (block + bag_compounds a) i h fits.1 (omega arith) parts.1 in (
          (told_defined a block i h fits.0 below.0 start parts.0, told_defined b (block + bag_compounds a) i h fits.1 below.1 (omega arith) parts.1),
          of_sum _ _ _ _ _ x y (told_reads (union a b) block i h fits start stands) ∙ sym (value-plus t (count_term l block a i) (count_term l (block + bag_compounds a) b i)),
        )
    told_defined (inter a b) block i h fits below start stands =
        let parts = segments block a b (inter a b) table stands in
        let x = told_reads a block i h fits.0 start parts.0 in
        let y = told_reads b (block + bag_compounds a) i h fits.1 (omega arith) parts.1 in (
          (told_defined a block i h fits.0 below.0 start parts.0, told_defined b (block + bag_compounds a) i h fits.1 below.1 (omega arith) parts.1),
          of_least _ _ _ _ _ x y (told_reads (inter a b) block i h fits start stands),
        )
    told_defined (diff a b) block i h fits below start stands =
        let parts = segments block a b (diff a b) table stands in
        let x = told_reads a block i h fits.0 start parts.0 in
        let y = told_reads b (block + bag_compounds a) i h fits.1 (omega arith) parts.1 in (
          (told_defined a block i h fits.0 below.0 start parts.0, told_defined b (block + bag_compounds a) i h fits.1 below.1 (omega arith) parts.1),
          elim (of_rest _ _ _ _ _ x y (told_reads (diff a b) block i h fits start stands)) [
            | inl less ↦ inl less
            | inr more ↦ inr (more.0, value-plus t (count_term l block (diff a b) i) (count_term l (block + bag_compounds a) b i) ∙ more.1)
          ],
        )
