-- Questions: their conditions, and what a solution says of their sides.
use Rattle.std.proofs.Common.{◌≡◌, ℕ, zero, suc, max, ◌^◌, ◌<◌, IsTrue, [], inl, inr, refl, sym, ap, ◌∙◌, subst, arith}
use Rattle.std.proofs.lemmas.List.Elements.{All-nil}
use Rattle.hs_pure.specs.declared.var.Var.{Var}
use Rattle.hs_pure.specs.declared.pure.Pure.{Pure}
use Rattle.hs_pure.specs.declared.pure.Pure.TheVariants as pure_of
use Rattle.hs_pure.specs.declared.valuation.Valuation.{Valuation}
use Rattle.hs_pure.specs.Assertion.{Assertion, truth, negation, pure_level, assertion_of}
use Rattle.hs_pure.specs.Eval.{stack_of}
use Rattle.hs_pure.specs.Mirror.{assertion_top}
use Rattle.hs_pure.specs.Occurs.{occurs, is_bags_plain, top_of}
use Rattle.hs_pure.specs.Stack.{Stack}
use Rattle.hs_pure.specs.Sums.{LinIsOrdered, IsOrdered}
use Rattle.hs_pure.specs.Truth.{IsTrueAt, TrueAt}
use Rattle.hs_pure.proofs.Mirrored.{top_of-is}
use Rattle.hs_pure.proofs.Tops.{top-reached}
use Rattle.hs_pure.proofs.Views.{fold-Or}
use Rattle.hs_elimination.specs.Ordered.{assertion_sums, AssertionIsOrdered}
use Rattle.hs_elimination.proofs.Order.{All-both, order_is}
use Rattle.hs_truth.specs.Laws.{PlainTruthIsDecided}
use Rattle.hs_reduction.specs.Layout.{bags_plain}
use Rattle.hs_reduction.specs.Laws.{BagsPlainIsOfAssertion}
use Rattle.hs_decide.specs.declared.answer.Answer.{Answer}
use Rattle.hs_decide.specs.declared.answer.Answer.TheVariants.{Yes, No, Atoms, Wide}
use Rattle.hs_decide.specs.Question.{question}
use Rattle.hs_decide.specs.Size.{size_of}
use Rattle.hs_decide.specs.Span.{SpanIsWide, IsSpent}
use Rattle.hs_decide.specs.Answering.{IfNo, IsDecided, IsRight, IsAnswer, IsVerdict}
use Rattle.hs_decide.proofs.Reducing.{both_true}

-- ---- numbers

pub low_top : (p : Pure) → ((v : Var) → IsTrue (occurs v p) → v.number < 2 ^ 31) → top_of p < 2 ^ 31
low_top p low = by_top (top_of p) refl
  where
    by_top : (t : ℕ) → top_of p ≡ t → t < 2 ^ 31
    by_top zero e = omega arith
    by_top (suc k) e = let r = top-reached p (let d : top_of p ≡ suc k = e in omega arith) in let below = low r.0 r.1.0 in let same = r.1.1 in omega arith

less_max : (a b n : ℕ) → a < n → b < n → max a b < n
less_max a b n h k = omega arith

-- ---- answers

module _ (n : ℕ) (q : Assertion) (P : Type 0) (Q : Valuation → Type 0) where
  pub right_yes : (r : Answer) → IsRight n q P Q r → r ≡ Yes → P
  right_yes Yes h e = h
  right_yes (No v) h e = absurd cc
  right_yes Atoms h e = absurd cc
  right_yes Wide h e = absurd cc

  pub right_no : (r : Answer) → IsRight n q P Q r → IfNo r Q
  right_no Yes h = tt
  right_no (No v) h = h
  right_no Atoms h = tt
  right_no Wide h = tt

  pub right_atoms : (r : Answer) → IsRight n q P Q r → r ≡ Atoms → n < size_of q
  right_atoms Yes h e = absurd cc
  right_atoms (No v) h e = absurd cc
  right_atoms Atoms h e = h
  right_atoms Wide h e = absurd cc

  pub right_wide : (r : Answer) → IsRight n q P Q r → r ≡ Wide → SpanIsWide q
  right_wide Yes h e = absurd cc
  right_wide (No v) h e = absurd cc
  right_wide Atoms h e = absurd cc
  right_wide Wide h e = h

  pub right_decided : (r : Answer) → IsRight n q P Q r → (¬ (IsSpent n q)) → IsDecided r
  right_decided Yes h small = tt
  right_decided (No v) h small = tt
  right_decided Atoms h small = small (inl h)
  right_decided Wide h small = small (inr h)

  pub right_same : (p : Assertion) (R : Type 0) (S : Valuation → Type 0) → q ≡ p → (P → R) → ((v : Valuation) → Q v → S v) → (r : Answer) → IsRight n q P Q r → IsRight n p R S r
  right_same p R S is f g Yes h = f h
  right_same p R S is f g (No v) h = g v h
  right_same p R S is f g Atoms h = subst (λ a. n < size_of a) is h
  right_same p R S is f g Wide h = subst SpanIsWide is h

-- ---- a and not b

module _ (a b q : Pure) (is : assertion_of q ≡ question (assertion_of a) (assertion_of b)) where
  pub plain-question : BagsPlainIsOfAssertion → IsTrue (is_bags_plain a) → IsTrue (is_bags_plain b) → IsTrue (is_bags_plain q)
  plain-question plain h k =
      subst IsTrue (sym (plain q ∙ ap bags_plain is)) (both_true (bags_plain (assertion_of a)) (bags_plain (assertion_of b)) (subst IsTrue (plain a) h) (subst IsTrue (plain b) k))

  pub ordered-question : IsOrdered a → IsOrdered b → IsOrdered q
  ordered-question h k =
      (order_is q).1 (subst AssertionIsOrdered (sym is) (All-both LinIsOrdered (assertion_sums (assertion_of a)) (assertion_sums (assertion_of b)) ((order_is a).0 h) ((order_is b).0 k)))

  pub low-question : ((v : Var) → IsTrue (occurs v a) → v.number < 2 ^ 31) → ((v : Var) → IsTrue (occurs v b) → v.number < 2 ^ 31) → top_of q < 2 ^ 31
  low-question h k =
      subst (λ n. n < 2 ^ 31) (sym (top_of-is q ∙ ap assertion_top is))
      (less_max (assertion_top (assertion_of a)) (assertion_top (assertion_of b)) (2 ^ 31) (subst (λ n. n < 2 ^ 31) (top_of-is a) (low_top a h)) (subst (λ n. n < 2 ^ 31) (top_of-is b) (low_top b k)))

  pub implied : PlainTruthIsDecided → IsTrue (is_bags_plain b) → IsOrdered b → ((s : Stack) → ¬ (TrueAt s q)) → (s : Stack) → TrueAt s a → TrueAt s b
  implied decided h k none s left = elim (decided s b h k) [ inl right ↦ right | inr wrong ↦ absurd (none s (subst (IsTrueAt s) (sym is) (left, wrong))) ]

  pub sides : (s : Stack) → TrueAt s q → TrueAt s a × (¬ (TrueAt s b))
  sides s h = subst (IsTrueAt s) is h

  -- an answer to the question tells whether a implies b
  pub verdict : (n : ℕ) → PlainTruthIsDecided → IsTrue (is_bags_plain b) → IsOrdered b → (r : Answer) → IsAnswer n q r → IsVerdict n a b r
  verdict n decided h k = right_same n (assertion_of q) _ _ (question (assertion_of a) (assertion_of b)) _ _ is (implied decided h k) (λ v. sides (stack_of v))

-- ---- what is false

pub falsehood_is : assertion_of (pure_of.Or []) ≡ negation truth
falsehood_is = fold-Or pure_level []

pub never : (s : Stack) → ¬ (TrueAt s (pure_of.Or []))
never s h = let no : IsTrueAt s (negation truth) = subst (IsTrueAt s) falsehood_is h in no tt

pub ordered-falsehood : IsOrdered (pure_of.Or [])
ordered-falsehood = (order_is (pure_of.Or [])).1 (subst AssertionIsOrdered (sym falsehood_is) (All-nil LinIsOrdered))

-- ---- verdicts

module _ (n : ℕ) (a b : Pure) where
  abbrev Implies : Type 0
  Implies = (s : Stack) → TrueAt s a → TrueAt s b

  abbrev Refutes : Valuation → Type 0
  Refutes v = TrueAt (stack_of v) a × (¬ (TrueAt (stack_of v) b))

  pub verdict_yes : (r : Answer) → IsVerdict n a b r → r ≡ Yes → (s : Stack) → TrueAt s a → TrueAt s b
  verdict_yes = right_yes n (question (assertion_of a) (assertion_of b)) Implies Refutes

  pub verdict_no : (r : Answer) → IsVerdict n a b r → IfNo r (λ v. TrueAt (stack_of v) a × (¬ (TrueAt (stack_of v) b)))
  verdict_no = right_no n (question (assertion_of a) (assertion_of b)) Implies Refutes

  pub verdict_atoms : (r : Answer) → IsVerdict n a b r → r ≡ Atoms → n < size_of (question (assertion_of a) (assertion_of b))
  verdict_atoms = right_atoms n (question (assertion_of a) (assertion_of b)) Implies Refutes

  pub verdict_wide : (r : Answer) → IsVerdict n a b r → r ≡ Wide → SpanIsWide (question (assertion_of a) (assertion_of b))
  verdict_wide = right_wide n (question (assertion_of a) (assertion_of b)) Implies Refutes

  pub verdict_decided : (r : Answer) → IsVerdict n a b r → (¬ (IsSpent n (question (assertion_of a) (assertion_of b)))) → IsDecided r
  verdict_decided = right_decided n (question (assertion_of a) (assertion_of b)) Implies Refutes

-- ---- whether a is false at all stacks

module _ (n : ℕ) (a b : Pure) (is : b ≡ pure_of.Or []) where
  abbrev IsUnsatisfiable : Type 0
  IsUnsatisfiable = (s : Stack) → ¬ (TrueAt s a)

  abbrev Solves : Valuation → Type 0
  Solves v = TrueAt (stack_of v) a

  denied_is : question (assertion_of a) (assertion_of b) ≡ question (assertion_of a) (negation truth)
  denied_is = ap (λ p. question (assertion_of a) p) (ap assertion_of is ∙ falsehood_is)

  unsat_right : (r : Answer) → IsVerdict n a b r → IsRight n (question (assertion_of a) (negation truth)) IsUnsatisfiable Solves r
  unsat_right = right_same n (question (assertion_of a) (assertion_of b)) (Implies n a b) (Refutes n a b) (question (assertion_of a) (negation truth)) IsUnsatisfiable Solves denied_is (λ f s h. never s (subst (TrueAt s) is (f s h))) (λ v h. h.0)

  pub unsat_yes : (r : Answer) → IsVerdict n a b r → r ≡ Yes → (s : Stack) → ¬ (TrueAt s a)
  unsat_yes r h = right_yes n (question (assertion_of a) (negation truth)) IsUnsatisfiable Solves r (unsat_right r h)

  pub unsat_no : (r : Answer) → IsVerdict n a b r → IfNo r (λ v. TrueAt (stack_of v) a)
  unsat_no r h = right_no n (question (assertion_of a) (negation truth)) IsUnsatisfiable Solves r (unsat_right r h)

  pub unsat_atoms : (r : Answer) → IsVerdict n a b r → r ≡ Atoms → n < size_of (question (assertion_of a) (negation truth))
  unsat_atoms r h = right_atoms n (question (assertion_of a) (negation truth)) IsUnsatisfiable Solves r (unsat_right r h)

  pub unsat_wide : (r : Answer) → IsVerdict n a b r → r ≡ Wide → SpanIsWide (question (assertion_of a) (negation truth))
  unsat_wide r h = right_wide n (question (assertion_of a) (negation truth)) IsUnsatisfiable Solves r (unsat_right r h)

  pub unsat_decided : (r : Answer) → IsVerdict n a b r → (¬ (IsSpent n (question (assertion_of a) (negation truth)))) → IsDecided r
  unsat_decided r h = right_decided n (question (assertion_of a) (negation truth)) IsUnsatisfiable Solves r (unsat_right r h)
