-- From a stack that makes the reduction true to one that makes the assertion true.
use Rattle.std.proofs.Common.{◌≡◌, ℕ, zero, suc, ◌+◌, ◌-◌, min, ◌<◌, ◌≤◌, ◌⊎◌, inl, inr, ◌↔◌, ℤ, pos, ◌<ℤ◌, ◌≤ℤ◌, Bool, true, false, not, List, [], ◌∷◌, length, get_or, refl, sym, ap, ◌∙◌, subst, arith}
use Rattle.std.proofs.lemmas.Int.{ints}
use Rattle.std.proofs.lemmas.Bool.{and_parts}
use Rattle.hs_pure.specs.declared.var.Var.{Var}
use Rattle.hs_pure.specs.declared.lin.Lin.{Lin}
use Rattle.hs_pure.specs.Multiset
use Rattle.hs_pure.specs.Stack.{Stack, with_value, number_value}
use Rattle.hs_pure.specs.Assertion.{BagTerm, empty, name, one, union, inter, diff, Assertion, truth, eq, lt, le, divides, bag_eq, subset, member, all_of, negation, both, either, exists, forall}
use Rattle.hs_pure.specs.Truth.{value, count, IsTrueAt}
use Rattle.hs_elimination.specs.Linear.{number}
use Rattle.hs_elimination.specs.Ordered.{has_bag_literal}
use Rattle.hs_reduction.specs.Layout.{bags_plain, variable, Layout, width, element, lin_place, has_name, bag_compounds, compounds, denied}
use Rattle.hs_reduction.specs.Instance.{Instance, instance}
use Rattle.hs_reduction.specs.Reduction.{count_term, defined, all_defined, signed, reduced, equal_at, within_at, held_at}
use Rattle.hs_reduction.proofs.Bags.{int_cases}
use Rattle.hs_reduction.proofs.Below.{LinBelow, BagBelow, Below, lin_below_more}
use Rattle.hs_reduction.proofs.Values.{SameBelow, value_agrees, truth_agrees}
use Rattle.hs_reduction.proofs.Instances.{instance-truth}
use Rattle.hs_reduction.proofs.Counts.{by_last, all_below-each, element-listed, element-new, element-place, place_within, BagFits, Fits, Counted, count_other, reads}

abbrev pub AllBelow : ℕ → List Lin → Type 0
AllBelow n [] = Unit {0}
AllBelow n (a ∷ rest) = LinBelow n a × AllBelow n rest

pub at_below : (n : ℕ) (none : Lin) (xs : List Lin) (i : ℕ) → AllBelow n xs → i < length xs → LinBelow n (get_or xs i none)
at_below n none [] i below h = absurd (omega arith)
at_below n none (x ∷ xs) zero below h = below.0
at_below n none (x ∷ xs) (suc i) below h = at_below n none xs i below.1 (omega arith)

nat_order : (m n : ℕ) → (m < n) ⊎ (n ≤ m)
nat_order m n = grind arith

pub element_below : (l : Layout) → AllBelow l.start l.listed → (i : ℕ) → i < width l → LinBelow (l.start + l.new) (element l i)
element_below l below i h = elim (nat_order i (length l.listed)) [
  | inl listed ↦
      let low = at_below l.start (number (pos 0)) l.listed i below listed in
      subst (LinBelow (l.start + l.new)) (sym (element-listed l i listed)) (lin_below_more l.start (l.start + l.new) (omega arith) (get_or l.listed i (number (pos 0))) low)
  | inr new ↦
      let is : i ≡ length l.listed + (i - length l.listed) = omega arith in
      let e : element l i ≡ variable (l.start + (i - length l.listed)) = ap (element l) is ∙ element-new l (i - length l.listed) in
      subst (LinBelow (l.start + l.new)) (sym e) (omega arith, tt)
]

-- p at an element term says at t what p says at s of the element
pub element-truth : (l : Layout) (s t : Stack) → SameBelow l.start s t → AllBelow l.start l.listed → (way : Instance) (end : ℕ) → l.start + l.new ≤ end →
    (u : Var) (p : Assertion) (i : ℕ) → i < width l → has_bag_literal p ≡ false → Below l.start p →
    IsTrueAt (with_value u (number_value (value t (element l i))) s) p ↔ IsTrueAt t (instance way u (element l i) end p)
element-truth l s t numbers listed way end ends u p i h plain below =
    instance-truth l.start end u (element l i) p s t plain below (omega arith) (lin_below_more (l.start + l.new) end ends (element l i) (element_below l listed i h)) numbers way

pub none_under : (b : Bool) → not b ≡ true → b ≡ false
none_under true e = absurd cc
none_under false e = refl

pub signed_agrees : (b : Bool) (p : Assertion) (k : ℕ) (s t : Stack) → has_bag_literal p ≡ false → Below k p → SameBelow k s t → IsTrueAt t (signed b p) → IsTrueAt s (signed b p)
signed_agrees true p k s t plain below same h = (truth_agrees p k s t plain below same).1 h
signed_agrees false p k s t plain below same h = λ g. h ((truth_agrees p k s t plain below same).0 g)

module _ (l : Layout) (s t : Stack) (numbers : SameBelow l.start s t)
    (named : Counted l s t)
    (outside : (v : Var) → has_name v l.bags ≡ true → (x : ℤ) → ((i : ℕ) → i < width l → ¬ (value t (element l i) ≡ x)) → Multiset.count (s v).bag x ≡ 0)
    (listed : AllBelow l.start l.listed) (way : Instance) (end : ℕ) (ends : l.start + l.new ≤ end) where
  abbrev Beyond : ℤ → Type 0
  Beyond x = (i : ℕ) → i < width l → ¬ (value t (element l i) ≡ x)

  found : (x : ℤ) (n : ℕ) → ((i : ℕ) × (i < n) × (value t (element l i) ≡ x)) ⊎ ((i : ℕ) → i < n → ¬ (value t (element l i) ≡ x))
  found x zero = inr (λ i h. absurd (omega arith))
  found x (suc n) = elim (found x n) [
    | inl (i, h, e) ↦ inl (i, omega arith, e)
    | inr none ↦ elim (int_cases (value t (element l n)) x) [
      | inl is ↦ inl (n, omega arith, is)
      | inr isnt ↦ inr (λ i h e. elim (by_last i n h) [
        | inl last ↦ absurd (isnt (ap (λ j. value t (element l j)) (sym last) ∙ e))
        | inr before ↦ none i before e
      ])
    ]
  ]

  -- what is worth no element term is in no bag
  count_beyond : (b : BagTerm) (x : ℤ) → BagFits l b → BagBelow l.start b → Beyond x → count s b x ≡ 0
  count_beyond empty x fits below none = refl
  count_beyond (name v) x fits below none = outside v fits x none
  count_beyond (one a) x fits below none = count_other s a x (λ e. none (lin_place a l.listed) (place_within l a fits)
      (ap (value t) (element-place l a fits) ∙ sym (value_agrees l.start s t a below numbers) ∙ e))
  count_beyond (union a b) x fits below none = omega (arith, count_beyond a x fits.0 below.0 none, count_beyond b x fits.1 below.1 none)
  count_beyond (inter a b) x fits below none = ap (λ n. min n (count s b x)) (count_beyond a x fits.0 below.0 none) ∙ omega arith
  count_beyond (diff a b) x fits below none = omega (arith, count_beyond a x fits.0 below.0 none)

  everywhere : (P : ℤ → Type 0) → ((i : ℕ) → i < width l → P (value t (element l i))) → ((x : ℤ) → Beyond x → P x) → (x : ℤ) → P x
  everywhere P inside beyond x = elim (found x (width l)) [
    | inl (i, h, e) ↦ subst P e (inside i h)
    | inr none ↦ beyond x none
  ]

  reads_all : (b : BagTerm) (block : ℕ) → BagFits l b → BagBelow l.start b → IsTrueAt t (all_defined l block b) →
      (i : ℕ) → i < width l → value t (count_term l block b i) ≡ pos (count s b (value t (element l i)))
  reads_all b block fits below d i h = reads l s t numbers named b block i h fits below (all_below-each (width l) (defined l block b) t d i h)

  same_natural : (x y : ℤ) (m n : ℕ) → x ≡ pos m → y ≡ pos n → x ≡ y → m ≡ n
  same_natural x y m n e f g = omega (arith, ints)

  natural_within : (x y : ℤ) (m n : ℕ) → x ≡ pos m → y ≡ pos n → x ≤ℤ y → m ≤ n
  natural_within x y m n e f g = omega (arith, ints)

  natural_positive : (x : ℤ) (m : ℕ) → x ≡ pos m → pos 0 <ℤ x → 0 < m
  natural_positive x m e g = omega (arith, ints)

  positive_natural : (x : ℤ) (m : ℕ) → x ≡ pos m → 0 < m → pos 0 <ℤ x
  positive_natural x m e g = omega (arith, ints)

  natural_zero : (x : ℤ) (m : ℕ) → x ≡ pos m → x ≡ pos 0 → 0 < m → ⊥
  natural_zero x m e f g = omega (arith, ints)

  pub back : (asserted : Bool) (p : Assertion) (new block : ℕ) → Fits l p → Below l.start p → bags_plain p ≡ true → new + denied asserted p ≤ l.new →
      IsTrueAt t (reduced l way end asserted p new block) → IsTrueAt s (signed asserted p)
  back true truth new block fits below plain room h = tt
  back false truth new block fits below plain room h = h
  back true (eq a b) new block fits below plain room h = signed_agrees true (eq a b) l.start s t refl below numbers h
  back false (eq a b) new block fits below plain room h = signed_agrees false (eq a b) l.start s t refl below numbers h
  back true (lt a b) new block fits below plain room h = signed_agrees true (lt a b) l.start s t refl below numbers h
  back false (lt a b) new block fits below plain room h = signed_agrees false (lt a b) l.start s t refl below numbers h
  back true (le a b) new block fits below plain room h = signed_agrees true (le a b) l.start s t refl below numbers h
  back false (le a b) new block fits below plain room h = signed_agrees false (le a b) l.start s t refl below numbers h
  back true (divides d a) new block fits below plain room h = signed_agrees true (divides d a) l.start s t refl below numbers h
  back false (divides d a) new block fits below plain room h = signed_agrees false (divides d a) l.start s t refl below numbers h
  back true (exists u p) new block fits below plain room h = signed_agrees true (exists u p) l.start s t (none_under (has_bag_literal p) plain) below numbers h
  back false (exists u p) new block fits below plain room h = signed_agrees false (exists u p) l.start s t (none_under (has_bag_literal p) plain) below numbers h
  back true (forall u p) new block fits below plain room h = signed_agrees true (forall u p) l.start s t (none_under (has_bag_literal p) plain) below numbers h
  back false (forall u p) new block fits below plain room h = signed_agrees false (forall u p) l.start s t (none_under (has_bag_literal p) plain) below numbers h
  back true (bag_eq a b) new block fits below plain room h =
      let x = reads_all a block fits.0 below.0 h.0.0 in
      let y = reads_all b (block + bag_compounds a) fits.1 below.1 h.0.1 in
      everywhere (λ z. count s a z ≡ count s b z)
      (λ i less. same_natural _ _ _ _ (x i less) (y i less) (all_below-each (width l) (equal_at l block a b) t h.1 i less))
      (λ z none. count_beyond a z fits.0 below.0 none ∙ sym (count_beyond b z fits.1 below.1 none))
  back false (bag_eq a b) new block fits below plain room h =
      let i = length l.listed + new in
      let less : i < width l = omega arith in
      let x = reads_all a block fits.0 below.0 h.0.0 i less in
      let y = reads_all b (block + bag_compounds a) fits.1 below.1 h.0.1 i less in
      λ same. h.1 (x ∙ ap pos (same (value t (element l i))) ∙ sym y)
  back true (subset a b) new block fits below plain room h =
      let x = reads_all a block fits.0 below.0 h.0.0 in
      let y = reads_all b (block + bag_compounds a) fits.1 below.1 h.0.1 in
      everywhere (λ z. count s a z ≤ count s b z)
      (λ i less. natural_within _ _ _ _ (x i less) (y i less) (all_below-each (width l) (within_at l block a b) t h.1 i less))
      (λ z none. omega (arith, count_beyond a z fits.0 below.0 none))
  back false (subset a b) new block fits below plain room h =
      let i = length l.listed + new in
      let less : i < width l = omega arith in
      let x = reads_all a block fits.0 below.0 h.0.0 i less in
      let y = reads_all b (block + bag_compounds a) fits.1 below.1 h.0.1 i less in
      λ within. h.1 (let w = within (value t (element l i)) in omega (arith, ints, x, y, w))
  back true (member a b) new block fits below plain room h =
      let i = lin_place a l.listed in
      let x = reads_all b block fits.1 below.1 h.0 i (place_within l a fits.0) in
      let e : value t (element l i) ≡ value s a = ap (value t) (element-place l a fits.0) ∙ sym (value_agrees l.start s t a below.0 numbers) in
      subst (λ z. 0 < count s b z) e (natural_positive _ _ x h.1)
  back false (member a b) new block fits below plain room h =
      let i = lin_place a l.listed in
      let x = reads_all b block fits.1 below.1 h.0 i (place_within l a fits.0) in
      let e : value t (element l i) ≡ value s a = ap (value t) (element-place l a fits.0) ∙ sym (value_agrees l.start s t a below.0 numbers) in
      λ in_b. h.1 (positive_natural _ _ x (subst (λ z. 0 < count s b z) (sym e) in_b))
  back true (all_of u b p) new block fits below plain room h =
      let x = reads_all b block fits below.1 h.0 in
      everywhere (λ z. 0 < count s b z → IsTrueAt (with_value u (number_value z) s) p)
      (λ i less has. elim (all_below-each (width l) (held_at l way end block u b p) t h.1 i less) [
        | inl none ↦ absurd (natural_zero _ _ (x i less) none has)
        | inr holds ↦ (element-truth l s t numbers listed way end ends u p i less (none_under (has_bag_literal p) plain) below.2).1 holds
      ])
      (λ z none has. absurd (let zero_count = count_beyond b z fits below.1 none in omega arith))
  back false (all_of u b p) new block fits below plain room h =
      let i = length l.listed + new in
      let less : i < width l = omega arith in
      let x = reads_all b block fits below.1 h.0 i less in
      λ all. h.1.1 ((element-truth l s t numbers listed way end ends u p i less (none_under (has_bag_literal p) plain) below.2).0 (all (value t (element l i)) (natural_positive _ _ x h.1.0)))
  back true (negation p) new block fits below plain room h = back_signed false p (back false p new block fits below plain room h)
    where
      back_signed : (b : Bool) (p : Assertion) → IsTrueAt s (signed b p) → IsTrueAt s (signed b p)
      back_signed b p h = h
  back false (negation p) new block fits below plain room h = let holds = back true p new block fits below plain room h in λ fails. fails holds
  back true (both p q) new block fits below plain room h =
      let parts = and_parts (bags_plain p) (bags_plain q) plain in (
        back true p new block fits.0 below.0 parts.0 (omega arith) h.0,
        back true q (new + denied true p) (block + compounds p) fits.1 below.1 parts.1 (omega arith) h.1,
      )
  back false (both p q) new block fits below plain room h =
      let parts = and_parts (bags_plain p) (bags_plain q) plain in
      elim h [
        | inl x ↦ let fails = back false p new block fits.0 below.0 parts.0 (omega arith) x in λ holds. fails holds.0
        | inr x ↦ let fails = back false q (new + denied false p) (block + compounds p) fits.1 below.1 parts.1 (omega arith) x in λ holds. fails holds.1
      ]
  back true (either p q) new block fits below plain room h =
      let parts = and_parts (bags_plain p) (bags_plain q) plain in
      elim h [
        | inl x ↦ inl (back true p new block fits.0 below.0 parts.0 (omega arith) x)
        | inr x ↦ inr (back true q (new + denied true p) (block + compounds p) fits.1 below.1 parts.1 (omega arith) x)
      ]
  back false (either p q) new block fits below plain room h =
      let parts = and_parts (bags_plain p) (bags_plain q) plain in
      let first = back false p new block fits.0 below.0 parts.0 (omega arith) h.0 in
      let second = back false q (new + denied false p) (block + compounds p) fits.1 below.1 parts.1 (omega arith) h.1 in
      λ holds. elim holds [ inl x ↦ first x | inr x ↦ second x ]
