-- The bags that are rebuilt of the counts.
use Rattle.std.proofs.Common.{◌≡◌, ℕ, zero, suc, ◌<◌, ◌≤◌, ◌⊎◌, inl, inr, ℤ, pos, ◌≤ℤ◌, true, false, length, refl, sym, ap, ◌∙◌, subst, arith}
use Rattle.std.specs.Ordering.{int_eq}
use Rattle.hs_pure.specs.declared.var.Var.{Var}
use Rattle.hs_pure.specs.Multiset
use Rattle.hs_pure.specs.Stack.{Stack}
use Rattle.hs_pure.specs.Truth.{value, IsTrueAt}
use Rattle.hs_pure.specs.Eval.{natural}
use Rattle.hs_truth.proofs.Elements.{is_among}
use Rattle.hs_reduction.specs.Layout.{Layout, layout, width, element, count_number, has_name, name_place, after}
use Rattle.hs_reduction.specs.Reduction.{equal_counts, is_count, are_counts}
use Rattle.hs_reduction.specs.Rebuilt.{count_at, element_values, count_of_value, rebuilt_bag, rebuilt}
use Rattle.hs_reduction.specs.Laws.{RebuiltBagsMakeTrue, CountsAreCounts}
use Rattle.hs_reduction.proofs.Bags.{int_cases, int_equal, int_other, not_negative_is, count-tabulate}
use Rattle.hs_reduction.proofs.Below.{from_top}
use Rattle.hs_reduction.proofs.Values.{value-variable}
use Rattle.hs_reduction.proofs.Places.{name_place-is}
use Rattle.hs_reduction.proofs.Counts.{by_last, all_below-each}
use Rattle.hs_reduction.proofs.Back.{back}
use Rattle.hs_reduction.proofs.Laid.{layout-fits, layout-below}

module _ (l : Layout) (t : Stack) where
  element_among : (n i : ℕ) → i < n → is_among (value t (element l i)) (element_values l t n) ≡ true
  element_among zero i h = absurd (omega arith)
  element_among (suc n) i h = elim (int_cases (value t (element l i)) (value t (element l n))) [
    | inl same ↦ let is = int_equal (value t (element l i)) (value t (element l n)) same in rw is refl
    | inr apart ↦ let isnt = int_other (value t (element l i)) (value t (element l n)) apart in
        rw isnt (element_among n i (elim (by_last i n h) [
          | inr before ↦ before
          | inl last ↦ absurd (apart (ap (λ j. value t (element l j)) last))
        ]))
  ]

  beyond_among : (n : ℕ) (x : ℤ) → ((i : ℕ) → i < n → ¬ (value t (element l i) ≡ x)) → is_among x (element_values l t n) ≡ false
  beyond_among zero x none = refl
  beyond_among (suc n) x none =
      let isnt : int_eq x (value t (element l n)) ≡ false = int_other x (value t (element l n)) (λ e. none n (omega arith) (sym e)) in
      rw isnt (beyond_among n x (λ i h. none i (omega arith)))

  module _ (block : ℕ) (counts : IsTrueAt t (are_counts l block)) where
    not_negative : (i : ℕ) → i < width l → pos 0 ≤ℤ count_at l t block i
    not_negative i h = subst (λ z. pos 0 ≤ℤ z) (value-variable t (count_number l block i)) (all_below-each (width l) (is_count l block) t counts i h).0

    is_natural : (i : ℕ) → i < width l → count_at l t block i ≡ pos (natural (count_at l t block i))
    is_natural i h = not_negative_is (count_at l t block i) (not_negative i h)

    same_before : (i j : ℕ) → i < width l → j < i → value t (element l i) ≡ value t (element l j) → count_at l t block i ≡ count_at l t block j
    same_before i j h less same = elim (all_below-each i (equal_counts l block i) t (all_below-each (width l) (is_count l block) t counts i h).1 j less) [
      | inl apart ↦ absurd (apart same)
      | inr e ↦ sym (value-variable t (count_number l block i)) ∙ e ∙ value-variable t (count_number l block j)
    ]

    by_order : (i j : ℕ) → (i < j) ⊎ ((i ≡ j) ⊎ (j < i))
    by_order i j = grind arith

    same_count : (i j : ℕ) → i < width l → j < width l → value t (element l i) ≡ value t (element l j) → count_at l t block i ≡ count_at l t block j
    same_count i j h k same = elim (by_order i j) [
      | inl less ↦ sym (same_before j i k less (sym same))
      | inr rest ↦ elim rest [
        | inl e ↦ ap (λ n. count_at l t block n) e
        | inr less ↦ same_before i j h less same
      ]
    ]

    count_found : (n i : ℕ) → n ≤ width l → i < n → pos (count_of_value l t block n (value t (element l i))) ≡ count_at l t block i
    count_found zero i more h = absurd (omega arith)
    count_found (suc n) i more h = elim (int_cases (value t (element l n)) (value t (element l i))) [
      | inl same ↦ let is = int_equal (value t (element l n)) (value t (element l i)) same in
          rw is (sym (is_natural n (omega arith)) ∙ same_count n i (omega arith) (omega arith) same)
      | inr apart ↦ let isnt = int_other (value t (element l n)) (value t (element l i)) apart in
          rw isnt (count_found n i (omega arith) (elim (by_last i n h) [
            | inr before ↦ before
            | inl last ↦ absurd (apart (ap (λ j. value t (element l j)) (sym last)))
          ]))
    ]

    rebuilt_count : (i : ℕ) → i < width l → count_at l t block i ≡ pos (Multiset.count (rebuilt_bag l t block) (value t (element l i)))
    rebuilt_count i h =
        let x = value t (element l i) in
        let there = element_among (width l) i h in
        let c : Multiset.count (rebuilt_bag l t block) x ≡ count_of_value l t block (width l) x =
        count-tabulate (count_of_value l t block (width l)) (element_values l t (width l)) x ∙ (rw there refl) in
        sym (count_found (width l) i (omega arith) h) ∙ ap pos (sym c)

  rebuilt_beyond : (block : ℕ) (x : ℤ) → ((i : ℕ) → i < width l → ¬ (value t (element l i) ≡ x)) → Multiset.count (rebuilt_bag l t block) x ≡ 0
  rebuilt_beyond block x none =
      let isnt = beyond_among (width l) x none in
      count-tabulate (count_of_value l t block (width l)) (element_values l t (width l)) x ∙ (rw isnt refl)

  rebuilt_is : (v : Var) → has_name v l.bags ≡ true → (rebuilt l t v).bag ≡ rebuilt_bag l t (name_place v l.bags)
  rebuilt_is v e = rw e refl

-- the rebuilt bags make the assertion true
pub rebuilt_makes_true : RebuiltBagsMakeTrue
rebuilt_makes_true way start p top plain t h =
    let l = layout start p in
    let low = from_top start p top in
    let counts : (v : Var) → has_name v l.bags ≡ true → IsTrueAt t (are_counts l (name_place v l.bags)) =
    λ v e. all_below-each (length l.bags) (are_counts l) t h.0 (name_place v l.bags) (name_place-is v v l.bags e).0 in
    back l (rebuilt l t) t (λ v less. refl)
    (λ v e i less. rebuilt_count l t (name_place v l.bags) (counts v e) i less ∙ ap (λ b. pos (Multiset.count b (value t (element l i)))) (sym (rebuilt_is l t v e)))
    (λ v e x none. ap (λ b. Multiset.count b x) (rebuilt_is l t v e) ∙ rebuilt_beyond l t (name_place v l.bags) x none)
    (layout-below start p low) way (after l p) (omega arith) true p 0 (length l.bags) (layout-fits start p) low plain (omega arith) h.1

-- the counts of bag variables are counts
pub counts_are_counts : CountsAreCounts
counts_are_counts way start p t h =
    let l = layout start p in
    λ block i in_bags within.
    let counts = all_below-each (length l.bags) (are_counts l) t h.0 block in_bags in
    (not_negative l t block counts i within, λ j less same. same_count l t block counts i j within less same)
