-- One step of the search for values: a variable is eliminated, the others get values, and then it does.
use Rattle.std.proofs.Common.{◌≡◌, ℕ, ◌<◌, ℤ, Bool, true, false, not, ◌&&◌, ◌||◌, cond, IsTrue, ◌+ℤ◌, ◌*ℤ◌, List, [], ◌∷◌, length, inl, inr, refl, sym, ap, ◌∙◌, subst, ◌↔◌, arith}
use Rattle.std.specs.Prelude.{int_lt}
use Rattle.std.specs.Ordering.{int_eq}
use Rattle.std.specs.List.{Contains}
use Rattle.hs_pure.specs.declared.var.Var.{Var}
use Rattle.hs_pure.specs.declared.lin.Lin.{Lin}
use Rattle.hs_pure.specs.declared.pure.Pure.{Pure}
use Rattle.hs_pure.specs.declared.valuation.Valuation.{Valuation}
use Rattle.hs_pure.specs.Assertion.{Assertion, truth, eq, lt, le, divides, bag_eq, subset, member, all_of, negation, both, either, exists, forall, assertion_of}
use Rattle.hs_pure.specs.Eval.{stack_of}
use Rattle.hs_pure.specs.Mirror.{is_free_in}
use Rattle.hs_pure.specs.Stack.{Stack, same, with_value, number_value}
use Rattle.hs_pure.specs.Truth.{sum_at, value, IsTrueAt, TrueAt}
use Rattle.hs_pure.proofs.Agree.{agree}
use Rattle.hs_pure.proofs.Vars.{same-eq}
use Rattle.hs_elimination.specs.Normal.{is_simple}
use Rattle.hs_elimination.specs.Elimination.{without_variable, eliminated, PassesAtoms, PassesBits}
use Rattle.hs_elimination.specs.Decided.{is_divisor, evaluates_to}
use Rattle.hs_elimination.specs.Witness.{PassesValues, plain_value}
use Rattle.hs_elimination.proofs.Order.{lacks-without_variable, adds_none, simple-assertion}
use Rattle.hs_elimination.proofs.Decided.{tested}
use Rattle.hs_elimination.proofs.Stage3.{contains_cases, contains_none}
use Rattle.hs_quantifiers.specs.Size.{stage_size}
use Rattle.hs_plain.specs.Size.{chain_size}
use Rattle.hs_quantifiers.specs.Span.{HasWideStages}
use Rattle.hs_plain.specs.Span.{value_or_zero, plain_stack, HasWideChain}
use Rattle.hs_quantifiers.proofs.Stages.{size-passes, wide-passes, max_left, max_right}

-- each free variable is in the list
abbrev pub Named : List Var → Assertion → Type 0
Named xs p = (v : Var) → IsTrue (is_free_in v p) → Contains xs v

-- ---- no variables

pub nothing_named : (xs : List Var) (p : Assertion) (s t : Stack) → xs ≡ [] → Named xs p → IsTrueAt s p → IsTrueAt t p
nothing_named xs p s t is named h = agree p s t (λ v free. contains_none v (subst (λ ys. Contains ys v) is (named v free))) h

-- ---- a variable and the later ones

module _ (xs later : List Var) (x : Var) (p r : Pure) (is : xs ≡ x ∷ later) (exact : assertion_of r ≡ without_variable x (assertion_of p)) where
  pub named_later : IsTrue (is_simple (assertion_of p)) → Named xs (assertion_of p) → Named later (assertion_of r)
  named_later simple named v free =
      let there : IsTrue (is_free_in v (without_variable x (assertion_of p))) = subst (λ a. IsTrue (is_free_in v a)) exact free in
      let listed : Contains (x ∷ later) v = subst (λ ys. Contains ys v) is (named v (adds_none x (assertion_of p) v simple there)) in
      elim (contains_cases x v later listed) [
        | inl e ↦ (let gone : is_free_in v (without_variable x (assertion_of p)) ≡ false = subst (λ w. is_free_in w (without_variable x (assertion_of p)) ≡ false) e (lacks-without_variable x (assertion_of p)) in absurd cc)
        | inr k ↦ k
      ]

  pub simple_later : IsTrue (is_simple (assertion_of r))
  simple_later = subst (λ a. IsTrue (is_simple a)) (sym exact) (simple-assertion (eliminated x (assertion_of p)))

  pub size_later : (n : ℕ) → n < chain_size later (assertion_of r) → n < chain_size xs (assertion_of p)
  size_later n h =
      subst (λ ys. n < chain_size ys (assertion_of p)) (sym is)
      (max_right n (stage_size x (assertion_of p)) (chain_size later (without_variable x (assertion_of p))) (subst (λ a. n < chain_size later a) exact h))

  pub wide_later : HasWideChain later (assertion_of r) → HasWideChain xs (assertion_of p)
  wide_later h = subst (λ ys. HasWideChain ys (assertion_of p)) (sym is) (inr (inl (subst (HasWideChain later) exact h)))

-- ---- the later variables have values

module _ (later : List Var) (x : Var) (p : Assertion) (v : Valuation) (e : stack_of v ≡ plain_stack later (without_variable x p)) where
  pub wide_value : IsTrueAt (stack_of v) (without_variable x p) → PassesValues (stack_of v) x p → HasWideChain (x ∷ later) p
  wide_value true_there wide = inr (inr (subst (λ s. IsTrueAt s (without_variable x p)) e true_there, subst (λ s. PassesValues s x p) e wide))

  pub plain_pushed : (w : Valuation) → stack_of w ≡ with_value x (number_value (value_or_zero (plain_value (stack_of v) x p))) (stack_of v) → stack_of w ≡ plain_stack (x ∷ later) p
  plain_pushed w pushed = pushed ∙ ap (λ s. with_value x (number_value (value_or_zero (plain_value s x p))) s) e

module _ (xs later : List Var) (x : Var) (p : Assertion) (is : xs ≡ x ∷ later) (n : ℕ) where
  pub size_stage : n < stage_size x p → n < chain_size xs p
  size_stage h = subst (λ ys. n < chain_size ys p) (sym is) (max_left n (stage_size x p) (chain_size later (without_variable x p)) h)

  pub wide_stage : HasWideStages x p → HasWideChain xs p
  wide_stage h = subst (λ ys. HasWideChain ys p) (sym is) (inl h)

  pub size_first : PassesAtoms n x p → n < chain_size xs p
  size_first h = size_stage (size-passes n x p h)

  pub wide_first : PassesBits n x p → HasWideChain xs p
  wide_first h = wide_stage (wide-passes n x p h)

-- ---- truth depends on numbers alone

module _ (s t : Stack) (alike : (v : Var) → (s v).number ≡ (t v).number) where
  sum-alike : (ts : List (Var × ℤ)) → sum_at s ts ≡ sum_at t ts
  sum-alike [] = refl
  sum-alike (m ∷ ms) = λ i. m.1 *ℤ alike m.0 i +ℤ sum-alike ms i

  value-alike : (a : Lin) → value s a ≡ value t a
  value-alike a = λ i. sum-alike a.terms i +ℤ a.constant

  test-alike : (p : Assertion) → evaluates_to s p ≡ evaluates_to t p
  test-alike truth = refl
  test-alike (eq a b) = λ i. int_eq (value-alike a i) (value-alike b i)
  test-alike (lt a b) = λ i. int_lt (value-alike a i) (value-alike b i)
  test-alike (le a b) = λ i. not (int_lt (value-alike b i) (value-alike a i))
  test-alike (divides d a) = λ i. is_divisor d (value-alike a i)
  test-alike (bag_eq a b) = refl
  test-alike (subset a b) = refl
  test-alike (member a b) = refl
  test-alike (all_of u b p) = refl
  test-alike (negation p) = λ i. not (test-alike p i)
  test-alike (both p q) = λ i. test-alike p i && test-alike q i
  test-alike (either p q) = λ i. test-alike p i || test-alike q i
  test-alike (exists u p) = refl
  test-alike (forall u p) = refl

  true-alike : (p : Assertion) → IsTrue (is_simple p) → IsTrueAt s p → IsTrueAt t p
  true-alike p simple h = (tested t p simple).1 (sym (test-alike p) ∙ (tested s p simple).0 h)

own_number : (s : Stack) (x v : Var) → (s v).number ≡ (with_value x (number_value (s x).number) s v).number
own_number s x v = by_test (same x v) refl
  where
    by_test : (b : Bool) → same x v ≡ b → (s v).number ≡ (cond b (number_value (s x).number) (s v)).number
    by_test true e = ap (λ w. (s w).number) (sym (same-eq x v e))
    by_test false e = refl

-- where the rest is false at all stacks, so is the whole
pub none_later : (x : Var) (p r : Pure) → IsTrue (is_simple (assertion_of p)) → ((s : Stack) → ((y : ℤ) × TrueAt (with_value x (number_value y) s) p) ↔ TrueAt s r) → ((s : Stack) → ¬ (TrueAt s r)) → (s : Stack) → ¬ (TrueAt s p)
none_later x p r simple truth_is none s h =
    none s ((truth_is s).0 ((s x).number, true-alike s (with_value x (number_value (s x).number) s) (own_number s x) (assertion_of p) simple h))

pub empty_is : (xs : List Var) → length xs ≡ 0 → xs ≡ []
empty_is [] h = refl
empty_is (x ∷ xs) h = absurd (omega arith)
