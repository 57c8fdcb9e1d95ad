-- What the forms of a side say of its truth.
use Rattle.std.proofs.Common.{◌≡◌, List, Some, sym, ap, ◌∙◌, subst, arith, ℤ, pos, negsuc, neg_ℤ, ◌+ℤ◌, ◌*ℤ◌, ◌<ℤ◌, ◌≤ℤ◌}
use Rattle.std.proofs.lemmas.Int.{ints}
use Rattle.hs_pure.specs.declared.lin.Lin.{Lin}
use Rattle.hs_pure.specs.Assertion.{Assertion, truth, eq, lt, le, divides, bag_eq, subset, member, all_of, negation, both, either, exists, forall}
use Rattle.hs_pure.specs.Stack.{Stack}
use Rattle.hs_pure.specs.Truth as Truth
use Rattle.hs_pure.specs.Truth.{IsTrueAt}
use Rattle.hs_elimination.specs.Linear.{minus, times}
use Rattle.hs_elimination.proofs.Meaning.{Assignment, RisesFrom, HasRising, value}
use Rattle.hs_elimination.proofs.Rising.{rises-merge, rises-scale}
use Rattle.hs_elimination.proofs.Values.{value-plus, value-times}
use Rattle.hs_unit.specs.Sides.{Comparison, forms, left_forms, comparisons}
use Rattle.hs_unit.proofs.Zeros.{AllRise, rise-append, rise-forms, Zeros, zeros-append, zeros-parts, AllMeet, meet-append, meet-parts}
use Rattle.hs_unit.proofs.Members.{joined_is}
use Rattle.hs_unit.proofs.Steps.{some_is}

value-minus : (s : Assignment) (a b : Lin) → value s (minus a b) ≡ value s a +ℤ neg_ℤ (value s b)
value-minus s a b = value-plus s (times (negsuc 0) b) a ∙ ap (λ z. z +ℤ value s a) (value-times s (negsuc 0) b) ∙ turned (value s b) (value s a)
  where
    turned : (y x : ℤ) → negsuc 0 *ℤ y +ℤ x ≡ x +ℤ neg_ℤ y
    turned y x = omega (arith, ints)

-- ---- at a stack that gives sums the values of an assignment

module _ (st : Stack) (s : Assignment) (same : (a : Lin) → Truth.value st a ≡ value s a) where
  difference : (a b : Lin) → value s (minus a b) ≡ Truth.value st a +ℤ neg_ℤ (Truth.value st b)
  difference a b = value-minus s a b ∙ (λ i. sym (same a) i +ℤ neg_ℤ (sym (same b) i))

  left_zero : (a b : Lin) → Truth.value st a ≡ Truth.value st b → value s (minus a b) ≡ pos 0
  left_zero a b h = difference a b ∙ omega (arith, ints, h)

  -- where the left side is true, its forms are 0
  pub left_zeros : (p : Assertion) (fs : List Lin) → left_forms p ≡ Some fs → IsTrueAt st p → Zeros s fs
  left_zeros truth fs h t = subst (Zeros s) (some_is _ _ h) tt
  left_zeros (eq a b) fs h t = subst (Zeros s) (some_is _ _ h) (left_zero a b t, tt)
  left_zeros (both p q) fs h t =
      let j = joined_is (left_forms p) (left_forms q) fs h in
      subst (Zeros s) j.4 (zeros-append s j.0 j.1 (left_zeros p j.0 j.2 t.0) (left_zeros q j.1 j.3 t.1))
  left_zeros (lt a b) fs h t = absurd cc
  left_zeros (le a b) fs h t = absurd cc
  left_zeros (divides d a) fs h t = absurd cc
  left_zeros (bag_eq a b) fs h t = absurd cc
  left_zeros (subset a b) fs h t = absurd cc
  left_zeros (member a b) fs h t = absurd cc
  left_zeros (all_of u b p) fs h t = absurd cc
  left_zeros (negation p) fs h t = absurd cc
  left_zeros (either p q) fs h t = absurd cc
  left_zeros (exists u p) fs h t = absurd cc
  left_zeros (forall u p) fs h t = absurd cc

  -- and where they are 0, it is true
  pub left_true : (p : Assertion) (fs : List Lin) → left_forms p ≡ Some fs → Zeros s fs → IsTrueAt st p
  left_true truth fs h z = tt
  left_true (eq a b) fs h z =
      let k = subst (Zeros s) (sym (some_is _ _ h)) z in
      let e : Truth.value st a +ℤ neg_ℤ (Truth.value st b) ≡ pos 0 = sym (difference a b) ∙ k.0 in
      omega (arith, ints, e)
  left_true (both p q) fs h z =
      let j = joined_is (left_forms p) (left_forms q) fs h in
      let k = zeros-parts s j.0 j.1 (subst (Zeros s) (sym j.4) z) in
      (left_true p j.0 j.2 k.0, left_true q j.1 j.3 k.1)
  left_true (lt a b) fs h t = absurd cc
  left_true (le a b) fs h t = absurd cc
  left_true (divides d a) fs h t = absurd cc
  left_true (bag_eq a b) fs h t = absurd cc
  left_true (subset a b) fs h t = absurd cc
  left_true (member a b) fs h t = absurd cc
  left_true (all_of u b p) fs h t = absurd cc
  left_true (negation p) fs h t = absurd cc
  left_true (either p q) fs h t = absurd cc
  left_true (exists u p) fs h t = absurd cc
  left_true (forall u p) fs h t = absurd cc

  -- the right side is true where its forms are as their kinds say
  pub right_true : (p : Assertion) (cs : List Comparison) → comparisons p ≡ Some cs → AllMeet s cs → IsTrueAt st p
  right_true truth cs h m = tt
  right_true (eq a b) cs h m =
      let k = subst (AllMeet s) (sym (some_is _ _ h)) m in
      let e : Truth.value st a +ℤ neg_ℤ (Truth.value st b) ≡ pos 0 = sym (difference a b) ∙ k.0 in
      omega (arith, ints, e)
  right_true (lt a b) cs h m =
      let k = subst (AllMeet s) (sym (some_is _ _ h)) m in
      let e : (Truth.value st a +ℤ neg_ℤ (Truth.value st b)) <ℤ pos 0 = subst (λ z. z <ℤ pos 0) (difference a b) k.0 in
      omega (arith, ints, e)
  right_true (le a b) cs h m =
      let k = subst (AllMeet s) (sym (some_is _ _ h)) m in
      let e : (Truth.value st a +ℤ neg_ℤ (Truth.value st b)) ≤ℤ pos 0 = subst (λ z. z ≤ℤ pos 0) (difference a b) k.0 in
      omega (arith, ints, e)
  right_true (both p q) cs h m =
      let j = joined_is (comparisons p) (comparisons q) cs h in
      let k = meet-parts s j.0 j.1 (subst (AllMeet s) (sym j.4) m) in
      (right_true p j.0 j.2 k.0, right_true q j.1 j.3 k.1)
  right_true (divides d a) cs h m = absurd cc
  right_true (bag_eq a b) cs h m = absurd cc
  right_true (subset a b) cs h m = absurd cc
  right_true (member a b) cs h m = absurd cc
  right_true (all_of u b p) cs h m = absurd cc
  right_true (negation p) cs h m = absurd cc
  right_true (either p q) cs h m = absurd cc
  right_true (exists u p) cs h m = absurd cc
  right_true (forall u p) cs h m = absurd cc

  -- and where it is true, they are
  pub right_meet : (p : Assertion) (cs : List Comparison) → comparisons p ≡ Some cs → IsTrueAt st p → AllMeet s cs
  right_meet truth cs h t = subst (AllMeet s) (some_is _ _ h) tt
  right_meet (eq a b) cs h t = subst (AllMeet s) (some_is _ _ h) (difference a b ∙ omega (arith, ints, t), tt)
  right_meet (lt a b) cs h t = subst (AllMeet s) (some_is _ _ h) (subst (λ z. z <ℤ pos 0) (sym (difference a b)) (omega (arith, ints, t)), tt)
  right_meet (le a b) cs h t = subst (AllMeet s) (some_is _ _ h) (subst (λ z. z ≤ℤ pos 0) (sym (difference a b)) (omega (arith, ints, t)), tt)
  right_meet (both p q) cs h t =
      let j = joined_is (comparisons p) (comparisons q) cs h in
      subst (AllMeet s) j.4 (meet-append s j.0 j.1 (right_meet p j.0 j.2 t.0) (right_meet q j.1 j.3 t.1))
  right_meet (divides d a) cs h m = absurd cc
  right_meet (bag_eq a b) cs h m = absurd cc
  right_meet (subset a b) cs h m = absurd cc
  right_meet (member a b) cs h m = absurd cc
  right_meet (all_of u b p) cs h m = absurd cc
  right_meet (negation p) cs h m = absurd cc
  right_meet (either p q) cs h m = absurd cc
  right_meet (exists u p) cs h m = absurd cc
  right_meet (forall u p) cs h m = absurd cc

-- ---- the terms of the forms rise

one_not_zero : ¬ (negsuc 0 ≡ pos 0)
one_not_zero h = absurd (omega (arith, ints))

rises-minus : (a b : Lin) → RisesFrom 0 a.terms → RisesFrom 0 b.terms → RisesFrom 0 (minus a b).terms
rises-minus a b ra rb = rises-merge 0 (times (negsuc 0) b).terms a.terms (rises-scale 0 (negsuc 0) b.terms one_not_zero rb) ra

pub left_rise : (p : Assertion) (fs : List Lin) → left_forms p ≡ Some fs → HasRising p → AllRise fs
left_rise truth fs h r = subst AllRise (some_is _ _ h) tt
left_rise (eq a b) fs h r = subst AllRise (some_is _ _ h) (rises-minus a b r.0 r.1, tt)
left_rise (both p q) fs h r =
    let j = joined_is (left_forms p) (left_forms q) fs h in
    subst AllRise j.4 (rise-append j.0 j.1 (left_rise p j.0 j.2 r.0) (left_rise q j.1 j.3 r.1))
left_rise (lt a b) fs h t = absurd cc
left_rise (le a b) fs h t = absurd cc
left_rise (divides d a) fs h t = absurd cc
left_rise (bag_eq a b) fs h t = absurd cc
left_rise (subset a b) fs h t = absurd cc
left_rise (member a b) fs h t = absurd cc
left_rise (all_of u b p) fs h t = absurd cc
left_rise (negation p) fs h t = absurd cc
left_rise (either p q) fs h t = absurd cc
left_rise (exists u p) fs h t = absurd cc
left_rise (forall u p) fs h t = absurd cc

pub right_rise : (p : Assertion) (cs : List Comparison) → comparisons p ≡ Some cs → HasRising p → AllRise (forms cs)
right_rise truth cs h r = subst (λ (ds : List Comparison). AllRise (forms ds)) (some_is _ _ h) tt
right_rise (eq a b) cs h r = subst (λ (ds : List Comparison). AllRise (forms ds)) (some_is _ _ h) (rises-minus a b r.0 r.1, tt)
right_rise (lt a b) cs h r = subst (λ (ds : List Comparison). AllRise (forms ds)) (some_is _ _ h) (rises-minus a b r.0 r.1, tt)
right_rise (le a b) cs h r = subst (λ (ds : List Comparison). AllRise (forms ds)) (some_is _ _ h) (rises-minus a b r.0 r.1, tt)
right_rise (both p q) cs h r =
    let j = joined_is (comparisons p) (comparisons q) cs h in
    subst (λ (ds : List Comparison). AllRise (forms ds)) j.4 (rise-forms j.0 j.1 (right_rise p j.0 j.2 r.0) (right_rise q j.1 j.3 r.1))
right_rise (divides d a) cs h m = absurd cc
right_rise (bag_eq a b) cs h m = absurd cc
right_rise (subset a b) cs h m = absurd cc
right_rise (member a b) cs h m = absurd cc
right_rise (all_of u b p) cs h m = absurd cc
right_rise (negation p) cs h m = absurd cc
right_rise (either p q) cs h m = absurd cc
right_rise (exists u p) cs h m = absurd cc
right_rise (forall u p) cs h m = absurd cc
