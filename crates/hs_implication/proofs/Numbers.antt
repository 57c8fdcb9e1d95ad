-- The test of truth without quantifiers reads numbers alone.
use Rattle.std.proofs.Common.{◌≡◌, ℤ, not, ◌&&◌, ◌||◌, ◌+ℤ◌, ◌*ℤ◌, List, [], ◌∷◌, refl}
use Rattle.std.specs.Prelude.{int_lt}
use Rattle.std.specs.Ordering.{int_eq}
use Rattle.hs_pure.specs.declared.var.Var.{Var}
use Rattle.hs_pure.specs.declared.lin.Lin.{Lin}
use Rattle.hs_pure.specs.Assertion.{Assertion, truth, eq, lt, le, divides, bag_eq, subset, member, all_of, negation, both, either, exists, forall}
use Rattle.hs_pure.specs.Stack.{Stack}
use Rattle.hs_pure.specs.Truth.{sum_at, value}
use Rattle.hs_elimination.specs.Decided.{is_divisor, evaluates_to}

module _ (s t : Stack) (alike : (v : Var) → (s v).number ≡ (t v).number) where
  sum-alike : (ts : List (Var × ℤ)) → sum_at s ts ≡ sum_at t ts
  sum-alike [] = refl
  sum-alike (m ∷ ms) = λ i. m.1 *ℤ alike m.0 i +ℤ sum-alike ms i

  value-alike : (a : Lin) → value s a ≡ value t a
  value-alike a = λ i. sum-alike a.terms i +ℤ a.constant

  pub test-alike : (p : Assertion) → evaluates_to s p ≡ evaluates_to t p
  test-alike truth = refl
  test-alike (eq a b) = λ i. int_eq (value-alike a i) (value-alike b i)
  test-alike (lt a b) = λ i. int_lt (value-alike a i) (value-alike b i)
  test-alike (le a b) = λ i. not (int_lt (value-alike b i) (value-alike a i))
  test-alike (divides d a) = λ i. is_divisor d (value-alike a i)
  test-alike (bag_eq a b) = refl
  test-alike (subset a b) = refl
  test-alike (member a b) = refl
  test-alike (all_of u b p) = refl
  test-alike (negation p) = λ i. not (test-alike p i)
  test-alike (both p q) = λ i. test-alike p i && test-alike q i
  test-alike (either p q) = λ i. test-alike p i || test-alike q i
  test-alike (exists u p) = refl
  test-alike (forall u p) = refl
