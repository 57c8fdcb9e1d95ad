-- What the answer to a unit question says of it.
use Rattle.std.proofs.Common.{◌≡◌, Bool, true, false, cond, inl, inr, List, [], Option, None, Some, MatchOption, refl, sym, ◌∙◌, subst, ◌||◌}
use Rattle.hs_pure.specs.declared.lin.Lin.{Lin}
use Rattle.hs_pure.specs.declared.valuation.Valuation.{Valuation}
use Rattle.hs_pure.specs.Assertion.{Assertion}
use Rattle.hs_pure.specs.Eval.{stack_of}
use Rattle.hs_pure.specs.Stack.{Stack}
use Rattle.hs_pure.specs.Truth.{IsTrueAt}
use Rattle.hs_elimination.specs.Ordered.{AssertionIsOrdered}
use Rattle.hs_elimination.proofs.Meaning.{Assignment}
use Rattle.hs_elimination.proofs.Order.{rising-ordered}
use Rattle.hs_elimination.proofs.Stacks.{numbers, value-is}
use Rattle.hs_unit.specs.declared.reduction.Reduction.{Reduction}
use Rattle.hs_unit.specs.declared.settled.Settled.{Settled}
use Rattle.hs_unit.specs.declared.settled.Settled.TheVariants.{Yes, No}
use Rattle.hs_unit.specs.Sides.{Comparison, forms, left_forms, comparisons}
use Rattle.hs_unit.specs.Reduction.{all_small}
use Rattle.hs_unit.specs.Question.{reduced_sides, reduction, IsUnitQuestion}
use Rattle.hs_unit.specs.Settling.{IfNo, clash, are_settled, denied, counterexample, settlement, settlement_of, verdict}
use Rattle.hs_unit.proofs.Zeros.{Zeros, AllMeet}
use Rattle.hs_unit.proofs.Steps.{some_is}
use Rattle.hs_unit.proofs.Sounds.{IsReduced, is_reduced}
use Rattle.hs_unit.proofs.Pivots.{IsPlaceOf}
use Rattle.hs_unit.proofs.Truths.{left_zeros, left_true, right_true, right_meet, left_rise, right_rise}
use Rattle.hs_unit.proofs.Lookups.{at, base, value-found, agree-base, zeros-values}
use Rattle.hs_unit.proofs.Denials.{no_clash, or_cases, all_meet, not_all, denied-apart, meet-free}

-- ---- the answer to a reduction

yes_not_no : (v : Valuation) → ◌≡◌ {A = Settled} (No v) Yes → ⊥
yes_not_no v h = cc

module _ (left : List Lin) (right : List Comparison) (r : Reduction) (h : IsReduced left right r) (end : r.later ≡ []) where
  later_zero : (s : Assignment) → Zeros s r.later
  later_zero s = subst (Zeros s) (sym end) tt

  -- where it says yes, the forms of the right side are as their kinds say wherever those of the left are 0
  yes_meets : (clash r.taken || are_settled r.right) ≡ true → (s : Assignment) → Zeros s left → AllMeet s right
  yes_meets y s z =
      let k = h.forth s z in
      elim (or_cases (clash r.taken) (are_settled r.right) y) [
        | inl c ↦ absurd (no_clash s r.taken k.0 c)
        | inr c ↦ h.meet_back s k.0 k.1 (all_meet s r.right c)
      ]

  by_answer : (b : Bool) → (clash r.taken || are_settled r.right) ≡ b → ◌≡◌ {A = Settled} (cond b Yes (No (counterexample r))) Yes → (clash r.taken || are_settled r.right) ≡ true
  by_answer true e k = e
  by_answer false e k = absurd (yes_not_no (counterexample r) k)

  pub settled-yes : settlement r ≡ Yes → (s : Assignment) → Zeros s left → AllMeet s right
  settled-yes e = yes_meets (by_answer (clash r.taken || are_settled r.right) refl e)

  neither : (a b : Bool) → (a || b) ≡ false → (a ≡ false) × (b ≡ false)
  neither true b k = absurd cc
  neither false b k = (refl, k)

  abbrev its : Assignment
  its = at (counterexample r).numbers

  pub no_meets : (clash r.taken || are_settled r.right) ≡ false → Zeros its left × (¬ (AllMeet its right))
  no_meets e =
      let k = neither (clash r.taken) (are_settled r.right) e in
      let z = zeros-values (denied r.right) r.pivots r.taken h.distinct (denied-apart r.pivots r.right h.rise_right h.free_right) h.rise_taken k.0 h.taken in (
        h.back its z (later_zero its),
        λ m. not_all r.right k.1 h.rise_right (meet-free (IsPlaceOf r.pivots) its (base (denied r.right)) (agree-base (denied r.right) r.pivots r.taken) r.right h.free_right (h.meet its z (later_zero its) m)),
      )

-- ---- the answer to a question

module _ (a b : Assertion) (oa : AssertionIsOrdered a) (ob : AssertionIsOrdered b) where
  -- the forms of a question with a reduction
  reduction_of : (r : Reduction) → reduction a b ≡ Some r → (left : List Lin) × (right : List Comparison) × (left_forms a ≡ Some left) × (comparisons b ≡ Some right) × IsReduced left right r × (r.later ≡ [])
  reduction_of r e = by_forms (left_forms a) (comparisons b) refl refl e
    where
      by_forms : (o : Option (List Lin)) (p : Option (List Comparison)) → left_forms a ≡ o → comparisons b ≡ p → reduced_sides o p ≡ Some r → (left : List Lin) × (right : List Comparison) × (left_forms a ≡ Some left) × (comparisons b ≡ Some right) × IsReduced left right r × (r.later ≡ [])
      by_forms None p eo ep k = absurd cc
      by_forms (Some left) None eo ep k = absurd cc
      by_forms (Some left) (Some right) eo ep k =
          let w = is_reduced left right r k (left_rise a left eo (rising-ordered a oa)) (right_rise b right ep (rising-ordered b ob)) in
          (left, right, eo, ep, w.0, w.1)

  pub verdict-yes : verdict a b ≡ Some Yes → (s : Stack) → IsTrueAt s a → IsTrueAt s b
  verdict-yes h s t = by_reduction (reduction a b) refl h
    where
      by_reduction : (o : Option Reduction) → reduction a b ≡ o → settlement_of o ≡ Some Yes → IsTrueAt s b
      by_reduction None e k = absurd cc
      by_reduction (Some r) e k =
          let w = reduction_of r e in
          right_true s (numbers s) (value-is s) b w.1 w.3
          (settled-yes w.0 w.1 r w.4 w.5 (some_is (settlement r) Yes k) (numbers s) (left_zeros s (numbers s) (value-is s) a w.0 w.2 t))

  pub verdict-no : IfNo (verdict a b) (λ v. IsTrueAt (stack_of v) a × (¬ (IsTrueAt (stack_of v) b)))
  verdict-no = by_reduction (reduction a b) refl
    where
      by_answer : (r : Reduction) → reduction a b ≡ Some r → (c : Bool) → (clash r.taken || are_settled r.right) ≡ c → IfNo (Some (cond c Yes (No (counterexample r)))) (λ v. IsTrueAt (stack_of v) a × (¬ (IsTrueAt (stack_of v) b)))
      by_answer r e true k = tt
      by_answer r e false k =
          let w = reduction_of r e in
          let m = no_meets w.0 w.1 r w.4 w.5 k in
          let v = counterexample r in
          (left_true (stack_of v) (at v.numbers) (value-found v) a w.0 w.2 m.0, λ t. m.1 (right_meet (stack_of v) (at v.numbers) (value-found v) b w.1 w.3 t))

      by_reduction : (o : Option Reduction) → reduction a b ≡ o → IfNo (settlement_of o) (λ v. IsTrueAt (stack_of v) a × (¬ (IsTrueAt (stack_of v) b)))
      by_reduction None e = tt
      by_reduction (Some r) e = by_answer r e (clash r.taken || are_settled r.right) refl

  -- what was taken and what is on the right is small
  pub reduced-small : (r : Reduction) → reduction a b ≡ Some r → (all_small r.taken ≡ true) × (all_small (forms r.right) ≡ true)
  reduced-small r e = let w = reduction_of r e in (w.4.small_taken, w.4.small_right)

-- it is told exactly where there is a reduction
pub verdict-told : (a b : Assertion) → MatchOption (verdict a b) (¬ (IsUnitQuestion a b)) (λ _. IsUnitQuestion a b)
verdict-told a b = by_reduction (reduction a b) refl
  where
    by_reduction : (o : Option Reduction) → reduction a b ≡ o → MatchOption (settlement_of o) (¬ (IsUnitQuestion a b)) (λ _. IsUnitQuestion a b)
    by_reduction None e = λ u. none_some u.0 (sym e ∙ u.1)
      where
        none_some : (r : Reduction) → ◌≡◌ {A = Option Reduction} None (Some r) → ⊥
        none_some r k = cc
    by_reduction (Some r) e = (r, e)

-- its values are of numbers
pub verdict-bags : (a b : Assertion) → IfNo (verdict a b) (λ v. v.bags ≡ [])
verdict-bags a b = by_reduction (reduction a b)
  where
    by_answer : (r : Reduction) (c : Bool) → IfNo (Some (cond c Yes (No (counterexample r)))) (λ v. v.bags ≡ [])
    by_answer r true = tt
    by_answer r false = refl

    by_reduction : (o : Option Reduction) → IfNo (settlement_of o) (λ v. v.bags ≡ [])
    by_reduction None = tt
    by_reduction (Some r) = by_answer r (clash r.taken || are_settled r.right)
