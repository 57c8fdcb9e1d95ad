-- Truth without bag literals is decided.
use Rattle.std.proofs.Common.{◌≡◌, ℕ, zero, suc, ◌<◌, Bool, true, false, not, ◌&&◌, ◌||◌, IsTrue, ◌⊎◌, inl, inr, ◌↔◌, refl, sym, ◌∙◌, subst, arith, ℤ, pos, negsuc, ◌*ℤ◌, ◌<ℤ◌, ◌≤ℤ◌}
use Rattle.std.specs.Prelude.{int_lt}
use Rattle.std.specs.Ordering.{int_eq}
use Rattle.std.proofs.lemmas.Int.{ints, by_lt_z}
use Rattle.std.proofs.lemmas.Bool.Decides.{Decides-int_eq}
use Rattle.hs_pure.specs.declared.var.Var.{Var}
use Rattle.hs_pure.specs.declared.lin.Lin.{Lin}
use Rattle.hs_pure.specs.declared.pure.Pure.{Pure}
use Rattle.hs_pure.specs.Assertion.{Assertion, truth, eq, lt, le, divides, bag_eq, subset, member, all_of, negation, both, either, exists, forall, assertion_of}
use Rattle.hs_pure.specs.Stack.{Stack, with_value, number_value}
use Rattle.hs_pure.specs.Truth.{value, IsTrueAt, TrueAt}
use Rattle.hs_pure.specs.Occurs.{has_bags}
use Rattle.hs_pure.specs.Sums.{LinIsOrdered, IsOrdered}
use Rattle.hs_elimination.specs.Linear.{number}
use Rattle.hs_elimination.specs.Form.{Form, const, positive, multiple, no_multiple, conjunction, disjunction, assertion}
use Rattle.hs_elimination.specs.Normal.{is_simple}
use Rattle.hs_elimination.specs.Ordered.{assertion_sums, AssertionIsOrdered, has_bag_literal}
use Rattle.hs_elimination.specs.Elimination.{eliminated, without_variable}
use Rattle.hs_elimination.specs.Decided.{without_quantifiers, is_divisor, evaluates_to, is_true_at}
use Rattle.hs_elimination.proofs.Univariate.{Divides}
use Rattle.hs_elimination.proofs.Meaning as Meaning
use Rattle.hs_elimination.proofs.Meaning.{Holds, HasPositiveDivisors}
use Rattle.hs_elimination.proofs.Stacks.{numbers, value-is}
use Rattle.hs_elimination.proofs.Stage1.{divides-test, iff-trans}
use Rattle.hs_elimination.proofs.Plain.{elimination_is, positive-eliminated}
use Rattle.hs_elimination.proofs.Order.{rising-ordered, ordered-without_variable, simple-assertion, order_is, bags_are, All-before, All-after, All-both}

iff-sym : {P Q : Type 0} → P ↔ Q → Q ↔ P
iff-sym a = (a.1, a.0)

-- ---- the result as an assertion

zero_value : (s : Stack) → value s (number (pos 0)) ≡ pos 0
zero_value s = omega (arith, ints)

divides_is : (s : Stack) (d : ℕ) (t : Lin) → 0 < d → IsTrueAt s (divides (pos d) t) ↔ Divides d (Meaning.value (numbers s) t)
divides_is s d t h = (
  λ p. (p.1.0, sym (value-is s t) ∙ p.1.1),
  λ p. (omega (arith, ints), (p.0, value-is s t ∙ p.1)),
)

not-iff : {P Q : Type 0} → P ↔ Q → (¬ P) ↔ (¬ Q)
not-iff e = (λ n q. n (e.1 q), λ n p. n (e.0 p))

pub true-assertion : (s : Stack) (f : Form) → HasPositiveDivisors f → IsTrueAt s (assertion f) ↔ Holds (numbers s) f
true-assertion s (const true) h = (λ p. refl, λ p. tt)
true-assertion s (const false) h = (λ p. absurd (p tt), λ p q. cc)
true-assertion s (positive t) h =
    let z = zero_value s in
    let e = value-is s t in
    (λ p. subst (λ a. pos 0 <ℤ a) e (subst (λ a. a <ℤ value s t) z p), λ p. subst (λ a. a <ℤ value s t) (sym z) (subst (λ a. pos 0 <ℤ a) (sym e) p))
true-assertion s (multiple d t) h = divides_is s d t h
true-assertion s (no_multiple d t) h = not-iff (divides_is s d t h)
true-assertion s (conjunction f g) h =
    let l = true-assertion s f h.0 in
    let r = true-assertion s g h.1 in
    (λ p. (l.0 p.0, r.0 p.1), λ p. (l.1 p.0, r.1 p.1))
true-assertion s (disjunction f g) h =
    let l = true-assertion s f h.0 in
    let r = true-assertion s g h.1 in
    (λ p. elim p [ inl a ↦ inl (l.0 a) | inr b ↦ inr (r.0 b) ], λ p. elim p [ inl a ↦ inl (l.1 a) | inr b ↦ inr (r.1 b) ])

pub truth-without_variable : (x : Var) (p : Assertion) → IsTrue (is_simple p) → AssertionIsOrdered p → (s : Stack) → ((y : ℤ) × IsTrueAt (with_value x (number_value y) s) p) ↔ IsTrueAt s (without_variable x p)
truth-without_variable x p q h s =
    let r = rising-ordered p h in
    iff-trans (elimination_is x p s q r) (iff-sym (true-assertion s (eliminated x p) (positive-eliminated x p r)))

-- ---- without quantifiers, truth is tested

lt-test : (a b : ℤ) → (a <ℤ b) ↔ (int_lt a b ≡ true)
lt-test a b = (λ p. grind (arith, ints), λ p. grind (arith, ints))

le-test : (a b : ℤ) → (a ≤ℤ b) ↔ (not (int_lt b a) ≡ true)
le-test a b = by_test (int_lt b a) refl
  where
    by_test : (c : Bool) → int_lt b a ≡ c → (a ≤ℤ b) ↔ (not c ≡ true)
    by_test true e = let l : b <ℤ a = (lt-test b a).1 e in (λ p. absurd (omega (arith, ints)), λ p. absurd cc)
    by_test false e = (λ p. refl, λ p. by_lt_z b a (λ (l : b <ℤ a). let t : int_lt b a ≡ true = (lt-test b a).0 l in absurd cc) (λ l. l))

eq-test : (a b : ℤ) → (a ≡ b) ↔ (int_eq a b ≡ true)
eq-test a b = ((Decides-int_eq a b).1, (Decides-int_eq a b).0)

below_one : {X : Type 0} (d : ℤ) → d ≤ℤ pos 0 → pos 1 ≤ℤ d → X
below_one d h k = absurd (omega (arith, ints))

divisor-test : (d z : ℤ) → ((pos 1 ≤ℤ d) × ((k : ℤ) × (z ≡ k *ℤ d))) ↔ (is_divisor d z ≡ true)
divisor-test (pos zero) z = (λ p. below_one (pos zero) (omega (arith, ints)) p.0, λ p. absurd cc)
divisor-test (pos (suc n)) z = let i = divides-test (suc n) z (omega arith) in (λ p. i.0 p.1, λ p. (omega (arith, ints), i.1 p))
divisor-test (negsuc n) z = (λ p. below_one (negsuc n) (omega (arith, ints)) p.0, λ p. absurd cc)

not-test : {P : Type 0} (b : Bool) → P ↔ (b ≡ true) → (¬ P) ↔ (not b ≡ true)
not-test true e = (λ p. absurd (p (e.1 refl)), λ p. absurd cc)
not-test false e = (λ p. refl, λ p q. let k : false ≡ true = e.0 q in cc)

and-test : {P Q : Type 0} (a b : Bool) → P ↔ (a ≡ true) → Q ↔ (b ≡ true) → (P × Q) ↔ ((a && b) ≡ true)
and-test true true e f = (λ p. refl, λ p. (e.1 refl, f.1 refl))
and-test true false e f = (λ p. f.0 p.1, λ p. absurd cc)
and-test false b e f = (λ p. e.0 p.0, λ p. absurd cc)

or-test : {P Q : Type 0} (a b : Bool) → P ↔ (a ≡ true) → Q ↔ (b ≡ true) → (P ⊎ Q) ↔ ((a || b) ≡ true)
or-test true b e f = (λ p. refl, λ p. inl (e.1 refl))
or-test false b e f = (λ p. elim p [ inl x ↦ (let k : false ≡ true = e.0 x in absurd cc) | inr y ↦ f.0 y ], λ p. inr (f.1 p))

and_first : (a b : Bool) → (a && b) ≡ true → a ≡ true
and_first true b h = refl
and_first false b h = absurd cc

and_second : (a b : Bool) → (a && b) ≡ true → b ≡ true
and_second true b h = h
and_second false b h = absurd cc

pub tested : (s : Stack) (p : Assertion) → is_simple p ≡ true → IsTrueAt s p ↔ (evaluates_to s p ≡ true)
tested s truth q = (λ h. refl, λ h. tt)
tested s (eq a b) q = eq-test (value s a) (value s b)
tested s (lt a b) q = lt-test (value s a) (value s b)
tested s (le a b) q = le-test (value s a) (value s b)
tested s (divides d a) q = divisor-test d (value s a)
tested s (bag_eq a b) q = absurd cc
tested s (subset a b) q = absurd cc
tested s (member a b) q = absurd cc
tested s (all_of u b p) q = absurd cc
tested s (negation p) q = not-test (evaluates_to s p) (tested s p q)
tested s (both p r) q = and-test (evaluates_to s p) (evaluates_to s r) (tested s p (and_first _ _ q)) (tested s r (and_second _ _ q))
tested s (either p r) q = or-test (evaluates_to s p) (evaluates_to s r) (tested s p (and_first _ _ q)) (tested s r (and_second _ _ q))
tested s (exists u p) q = absurd cc
tested s (forall u p) q = absurd cc

decided_by : {P : Type 0} (b : Bool) → P ↔ (b ≡ true) → P ⊎ (¬ P)
decided_by true e = inl (e.1 refl)
decided_by false e = inr (λ p. let k : false ≡ true = e.0 p in cc)

-- ---- without quantifiers, the same is said

neither_left : (a b : Bool) → (a || b) ≡ false → a ≡ false
neither_left true b h = absurd cc
neither_left false b h = refl

neither_right : (a b : Bool) → (a || b) ≡ false → b ≡ false
neither_right true b h = absurd cc
neither_right false b h = h

simple_and : (a b : Bool) → a ≡ true → b ≡ true → (a && b) ≡ true
simple_and a b e f = rw (e, f) refl

pub simple-without : (p : Assertion) → has_bag_literal p ≡ false → is_simple (without_quantifiers p) ≡ true
simple-without truth h = refl
simple-without (eq a b) h = refl
simple-without (lt a b) h = refl
simple-without (le a b) h = refl
simple-without (divides d a) h = refl
simple-without (bag_eq a b) h = absurd cc
simple-without (subset a b) h = absurd cc
simple-without (member a b) h = absurd cc
simple-without (all_of u b p) h = absurd cc
simple-without (negation p) h = simple-without p h
simple-without (both p q) h = simple_and _ _ (simple-without p (neither_left _ _ h)) (simple-without q (neither_right _ _ h))
simple-without (either p q) h = simple_and _ _ (simple-without p (neither_left _ _ h)) (simple-without q (neither_right _ _ h))
simple-without (exists u p) h = simple-assertion (eliminated u (without_quantifiers p))
simple-without (forall u p) h = simple-assertion (eliminated u (negation (without_quantifiers p)))

pub ordered-without : (p : Assertion) → AssertionIsOrdered p → AssertionIsOrdered (without_quantifiers p)
ordered-without truth h = h
ordered-without (eq a b) h = h
ordered-without (lt a b) h = h
ordered-without (le a b) h = h
ordered-without (divides d a) h = h
ordered-without (bag_eq a b) h = h
ordered-without (subset a b) h = h
ordered-without (member a b) h = h
ordered-without (all_of u b p) h = h
ordered-without (negation p) h = ordered-without p h
ordered-without (both p q) h = All-both LinIsOrdered _ _ (ordered-without p (All-before LinIsOrdered (assertion_sums p) (assertion_sums q) h)) (ordered-without q (All-after LinIsOrdered (assertion_sums p) (assertion_sums q) h))
ordered-without (either p q) h = All-both LinIsOrdered _ _ (ordered-without p (All-before LinIsOrdered (assertion_sums p) (assertion_sums q) h)) (ordered-without q (All-after LinIsOrdered (assertion_sums p) (assertion_sums q) h))
ordered-without (exists u p) h = ordered-without_variable u (without_quantifiers p) (ordered-without p h)
ordered-without (forall u p) h = ordered-without_variable u (negation (without_quantifiers p)) (ordered-without p h)

abbrev Same : Assertion → Assertion → Type 0
Same p q = (s : Stack) → IsTrueAt s p ↔ IsTrueAt s q

same-both : (p q p' q' : Assertion) → Same p p' → Same q q' → Same (both p q) (both p' q')
same-both p q p' q' e f s = (λ h. ((e s).0 h.0, (f s).0 h.1), λ h. ((e s).1 h.0, (f s).1 h.1))

same-either : (p q p' q' : Assertion) → Same p p' → Same q q' → Same (either p q) (either p' q')
same-either p q p' q' e f s = (λ h. elim h [ inl a ↦ inl ((e s).0 a) | inr b ↦ inr ((f s).0 b) ], λ h. elim h [ inl a ↦ inl ((e s).1 a) | inr b ↦ inr ((f s).1 b) ])

same-exists : (u : Var) (p q : Assertion) → is_simple q ≡ true → AssertionIsOrdered q → Same q p → Same (without_variable u q) (exists u p)
same-exists u p q k h e s =
    let t = truth-without_variable u q k h s in (
      λ r. let w = t.1 r in (w.0, (e (with_value u (number_value w.0) s)).0 w.1),
      λ r. t.0 (r.0, (e (with_value u (number_value r.0) s)).1 r.1),
    )

same-forall : (u : Var) (p q : Assertion) → is_simple q ≡ true → AssertionIsOrdered q → Same q p → Same (negation (without_variable u (negation q))) (forall u p)
same-forall u p q k h e s =
    let t = truth-without_variable u (negation q) k h s in (
      λ r y. let at = with_value u (number_value y) s in
          (e at).0 (elim (decided_by (evaluates_to at q) (tested at q k)) [ inl a ↦ a | inr n ↦ absurd (r (t.0 (y, n))) ]),
      λ r w. let v = t.1 w in v.1 ((e (with_value u (number_value v.0) s)).1 (r v.0)),
    )

pub same-without : (p : Assertion) → has_bag_literal p ≡ false → AssertionIsOrdered p → Same (without_quantifiers p) p
same-without truth k h s = (λ p. p, λ p. p)
same-without (eq a b) k h s = (λ p. p, λ p. p)
same-without (lt a b) k h s = (λ p. p, λ p. p)
same-without (le a b) k h s = (λ p. p, λ p. p)
same-without (divides d a) k h s = (λ p. p, λ p. p)
same-without (bag_eq a b) k h s = absurd cc
same-without (subset a b) k h s = absurd cc
same-without (member a b) k h s = absurd cc
same-without (all_of u b p) k h s = absurd cc
same-without (negation p) k h s = not-iff (same-without p k h s)
same-without (both p q) k h s =
    same-both _ _ p q (same-without p (neither_left _ _ k) (All-before LinIsOrdered (assertion_sums p) (assertion_sums q) h)) (same-without q (neither_right _ _ k) (All-after LinIsOrdered (assertion_sums p) (assertion_sums q) h)) s
same-without (either p q) k h s =
    same-either _ _ p q (same-without p (neither_left _ _ k) (All-before LinIsOrdered (assertion_sums p) (assertion_sums q) h)) (same-without q (neither_right _ _ k) (All-after LinIsOrdered (assertion_sums p) (assertion_sums q) h)) s
same-without (exists u p) k h s = same-exists u p (without_quantifiers p) (simple-without p k) (ordered-without p h) (same-without p k h) s
same-without (forall u p) k h s = same-forall u p (without_quantifiers p) (simple-without p k) (ordered-without p h) (same-without p k h) s

pub truth_is_tested : (s : Stack) (p : Pure) → has_bags p ≡ false → IsOrdered p → TrueAt s p ↔ IsTrue (is_true_at s (assertion_of p))
truth_is_tested s p k h =
    let q = assertion_of p in
    let none : has_bag_literal q ≡ false = sym (bags_are p) ∙ k in
    let order = (order_is p).0 h in
    iff-trans (iff-sym (same-without q none order s)) (tested s (without_quantifiers q) (simple-without q none))

pub truth_is_decided : (s : Stack) (p : Pure) → has_bags p ≡ false → IsOrdered p → TrueAt s p ⊎ (¬ (TrueAt s p))
truth_is_decided s p k h = decided_by (is_true_at s (assertion_of p)) (truth_is_tested s p k h)
