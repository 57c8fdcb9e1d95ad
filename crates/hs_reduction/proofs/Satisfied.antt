-- Where the assertion is satisfiable, the reduction is.
use Rattle.std.proofs.Common.{◌≡◌, ℕ, ◌+◌, ◌-◌, ◌*◌, ◌/◌, ◌%◌, ◌<◌, inl, inr, ℤ, pos, ◌≤ℤ◌, true, false, List, length, get_or, nat_lt, refl, sym, ap, ◌∙◌, arith, if◌then◌else◌}
use Rattle.std.proofs.lemmas.Int.{ints}
use Rattle.std.proofs.lemmas.Nat.{div-mul-add, mod-mul-add}
use Rattle.hs_pure.specs.declared.var.Var.{Var}
use Rattle.hs_pure.specs.Stack.{Stack, number_value}
use Rattle.hs_pure.specs.Assertion.{BagTerm, empty, name}
use Rattle.hs_pure.specs.Truth.{value, count, IsTrueAt}
use Rattle.hs_reduction.specs.Layout.{number_variable, variable, Layout, layout, width, element, count_number, has_name, name_place, after}
use Rattle.hs_reduction.specs.Reduction.{equal_counts, is_count, are_counts}
use Rattle.hs_reduction.specs.Rebuilt.{count_at, rebuilt}
use Rattle.hs_reduction.specs.Laws.{ReducedIsSatisfiable, ReductionIsExact}
use Rattle.hs_reduction.proofs.Bags.{int_cases}
use Rattle.hs_reduction.proofs.Below.{from_top}
use Rattle.hs_reduction.proofs.Values.{SameBelow, value_agrees, value-variable}
use Rattle.hs_reduction.proofs.Places.{less_test, not_less_test, name_place-is}
use Rattle.hs_reduction.proofs.Counts.{each-all_below}
use Rattle.hs_reduction.proofs.Back.{AllBelow, element_below}
use Rattle.hs_reduction.proofs.Forth.{parts, witnesses, length-witnesses, forth}
use Rattle.hs_reduction.proofs.Laid.{layout-fits, layout-below}
use Rattle.hs_reduction.proofs.Rebuilt.{rebuilt_makes_true}

-- the bag of each block: first the bag variables, then the compound bags
abbrev bag_of_block : List Var → List BagTerm → ℕ → BagTerm
bag_of_block vs bs block = if nat_lt block (length vs) then name (get_or vs block (number_variable 0)) else get_or bs (block - length vs) empty

module _ (l : Layout) (s : Stack) (shown : List ℤ) (bs : List BagTerm) where
  -- s with the values of the element variables
  with_elements : Stack
  with_elements v = if nat_lt v.number l.start then s v else number_value (get_or shown (v.number - l.start) (pos 0))

  count_in_block : ℕ → ℕ → ℤ
  count_in_block block i = pos (count s (bag_of_block l.bags bs block) (value with_elements (element l i)))

  -- and with the counts
  with_counts : Stack
  with_counts v =
      if nat_lt v.number (l.start + l.new) then with_elements v
      else number_value (count_in_block ((v.number - (l.start + l.new)) / width l) ((v.number - (l.start + l.new)) % width l))

  old_number : SameBelow l.start s with_counts
  unfolding with_counts with_elements
  old_number v h =
      let low : nat_lt v.number (l.start + l.new) ≡ true = less_test v.number (l.start + l.new) (omega arith) in
      let lower : nat_lt v.number l.start ≡ true = less_test v.number l.start h in
      rw (low, lower) refl

  same_elements : SameBelow (l.start + l.new) with_elements with_counts
  unfolding with_counts
  same_elements v h = let low : nat_lt v.number (l.start + l.new) ≡ true = less_test v.number (l.start + l.new) h in rw low refl

  element_number : (j : ℕ) → j < l.new → (with_counts (number_variable (l.start + j))).number ≡ get_or shown j (pos 0)
  unfolding with_counts with_elements
  element_number j h =
      let low : nat_lt (l.start + j) (l.start + l.new) ≡ true = less_test (l.start + j) (l.start + l.new) (omega arith) in
      let high : nat_lt (l.start + j) l.start ≡ false = not_less_test (l.start + j) l.start (λ h. absurd (omega arith)) in
      let back : l.start + j - l.start ≡ j = omega arith in
      rw (low, high, back) refl

  high_number : (n : ℕ) → nat_lt n (l.start + l.new) ≡ false →
      (with_counts (number_variable n)).number ≡ count_in_block ((n - (l.start + l.new)) / width l) ((n - (l.start + l.new)) % width l)
  unfolding with_counts
  high_number n high = rw high refl

  count_there : (block i : ℕ) → i < width l → count_at l with_counts block i ≡ count_in_block block i
  count_there block i h =
      let high : nat_lt (count_number l block i) (l.start + l.new) ≡ false = not_less_test (count_number l block i) (l.start + l.new) (λ h. absurd (omega arith)) in
      let back : count_number l block i - (l.start + l.new) ≡ block * width l + i = omega arith in
      let row = ap (λ (n : ℕ). n / width l) back ∙ div-mul-add block (width l) i h in
      let column = ap (λ (n : ℕ). n % width l) back ∙ mod-mul-add block (width l) i h in
      high_number (count_number l block i) high ∙ (λ k. count_in_block (row k) (column k))

  module _ (listed : AllBelow l.start l.listed) where
    element_value : (i : ℕ) → i < width l → value with_elements (element l i) ≡ value with_counts (element l i)
    element_value i h = value_agrees (l.start + l.new) with_elements with_counts (element l i) (element_below l listed i h) same_elements

    told : (block i : ℕ) → i < width l → count_at l with_counts block i ≡ pos (count s (bag_of_block l.bags bs block) (value with_counts (element l i)))
    unfolding count_in_block
    told block i h = count_there block i h ∙ ap (λ x. pos (count s (bag_of_block l.bags bs block) x)) (element_value i h)

    not_negative : (z : ℤ) (n : ℕ) → z ≡ pos n → pos 0 ≤ℤ z
    not_negative z n e = omega (arith, ints, e)

    count_holds : (block i : ℕ) → i < width l → value with_counts (variable (count_number l block i)) ≡ pos (count s (bag_of_block l.bags bs block) (value with_counts (element l i)))
    count_holds block i h = value-variable with_counts (count_number l block i) ∙ told block i h

    counts_hold : (block : ℕ) → IsTrueAt with_counts (are_counts l block)
    counts_hold block = each-all_below (width l) (is_count l block) with_counts (λ i h. (
      not_negative _ _ (count_holds block i h),
      each-all_below i (equal_counts l block i) with_counts (λ j less. elim (int_cases (value with_counts (element l i)) (value with_counts (element l j))) [
        | inl is ↦ inr (count_holds block i h ∙ ap (λ x. pos (count s (bag_of_block l.bags bs block) x)) is ∙ sym (count_holds block j (omega arith)))
        | inr isnt ↦ inl isnt
      ]),
    ))

block_of_name : (vs : List Var) (bs : List BagTerm) (v : Var) → has_name v vs ≡ true → bag_of_block vs bs (name_place v vs) ≡ name v
block_of_name vs bs v e =
    let place = name_place-is (number_variable 0) v vs e in
    let low : nat_lt (name_place v vs) (length vs) ≡ true = less_test (name_place v vs) (length vs) place.0 in
    rw low (ap name place.1)

block_of_part : (vs : List Var) (bs : List BagTerm) (j : ℕ) → bag_of_block vs bs (length vs + j) ≡ get_or bs j empty
block_of_part vs bs j =
    let high : nat_lt (length vs + j) (length vs) ≡ false = not_less_test (length vs + j) (length vs) (λ h. absurd (omega arith)) in
    let back : length vs + j - length vs ≡ j = omega arith in
    rw (high, back) refl

-- the reduction is true with the same numbers, where the assertion is true
pub reduced_is_satisfiable : ReducedIsSatisfiable
reduced_is_satisfiable way start p top plain order s h =
    let l = layout start p in
    let low = from_top start p top in
    let shown = witnesses s true p plain order in
    let bs = parts p in
    let t = with_counts l s shown bs in
    let listed = layout-below start p low in
    let size : length shown ≡ l.new = length-witnesses s true p plain order in (
      t,
      (
        λ v less. sym (old_number l s shown bs v less),
        (
          each-all_below (length l.bags) (are_counts l) t (λ block less. counts_hold l s shown bs listed block),
          forth l s t (old_number l s shown bs)
              (λ v e i less. told l s shown bs listed (name_place v l.bags) i less ∙ ap (λ b. pos (count s b (value t (element l i)))) (block_of_name l.bags bs v e))
              (bag_of_block l.bags bs)
              (λ block more i less. told l s shown bs listed block i less)
              listed way (after l p) (omega arith) true p 0 (length l.bags) plain order (layout-fits start p) low (omega arith) (omega arith)
              (λ j less. block_of_part l.bags bs j)
              (λ j less. ap (λ n. (t (number_variable (l.start + n))).number) (let e : 0 + j ≡ j = omega arith in e) ∙ element_number l s shown bs j (omega arith))
              h,
        ),
      ),
    )

-- the assertion is satisfiable exactly where the reduction is
pub reduction_is_exact : ReductionIsExact
reduction_is_exact way start p top plain order = (
  λ (s, h). let (t, (same, is)) = reduced_is_satisfiable way start p top plain order s h in (t, is),
  λ (t, h). (rebuilt (layout start p) t, rebuilt_makes_true way start p top plain t h),
)
