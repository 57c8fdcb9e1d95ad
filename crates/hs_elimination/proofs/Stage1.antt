-- Stage 1 keeps truth, and so does the evaluation of literals without variables.
use Rattle.std.proofs.Common.{◌≡◌, ℕ, zero, suc, ◌*◌, ◌/◌, ◌<◌, ◌⊎◌, inl, inr, ◌↔◌, Bool, true, false, not, IsTrue, eqb-true, eq-eqb, List, [], ◌∷◌, refl, sym, ap, ◌∙◌, subst, arith, ℤ, pos, negsuc, ◌+ℤ◌, ◌*ℤ◌, neg_ℤ, ◌<ℤ◌, ◌≤ℤ◌, ◌&&◌}
use Prim.Native.Nat.{◌%◌}
use Rattle.std.specs.Prelude.{int_lt, unsigned_abs}
use Rattle.hs_pure.specs.Stack.{Stack}
use Rattle.hs_pure.specs.Truth as Truth
use Rattle.hs_pure.specs.Truth.{IsTrueAt}
use Rattle.hs_elimination.proofs.Stacks.{numbers, value-is}
use Rattle.hs_elimination.specs.Normal.{is_simple}
use Rattle.std.proofs.lemmas.Int.{ints, by_lt_z, unsigned_abs-mul}
use Rattle.std.proofs.Math.Nat.{mul-mod_left}
use Rattle.hs_elimination.proofs.Integers.{mul-neg_left}
use Rattle.hs_elimination.proofs.Meaning.{Assignment, HasPositiveDivisors, Holds, value}
use Rattle.hs_elimination.proofs.Stage3.{value-shifted}
use Rattle.hs_elimination.proofs.Univariate.{Divides}
use Rattle.hs_elimination.proofs.Values.{value-plus, value-times}
use Rattle.hs_elimination.specs.Form.{Form, conjunction, const, disjunction, multiple, no_multiple, positive}
use Rattle.hs_elimination.specs.Linear.{minus, times}
use Rattle.hs_elimination.specs.Normal.{at_most, both_of, divides_form, divides_test, either_of, evaluate, evaluate_literal, less, normal}
use Rattle.hs_pure.specs.Assertion.{Assertion, truth, eq, lt, le, divides, bag_eq, subset, member, all_of, negation, both, either, exists, forall}
use Rattle.hs_pure.specs.declared.lin.Lin.{Lin}
use Rattle.hs_pure.specs.declared.var.Var.{Var}

pub iff-trans : {P Q R : Type 0} → P ↔ Q → Q ↔ R → P ↔ R
iff-trans a b = (λ p. b.0 (a.0 p), λ r. a.1 (b.1 r))

-- ---- divisibility is decided by a remainder
divides_from_test : (d : ℕ) (z : ℤ) → 0 < d → unsigned_abs z % d ≡ 0 → Divides d z
divides_from_test d (pos n) h e = (pos (n / d), ap pos (omega arith))
divides_from_test d (negsuc n) h e = (neg_ℤ (pos (suc n / d)), rw mul-neg_left (ap (λ (m : ℕ). neg_ℤ (pos m)) (product (suc n) d h e)))
  where
    product : (m d : ℕ) → 0 < d → m % d ≡ 0 → m ≡ m / d * d
    product m d h e = omega arith

test_from_divides : (d : ℕ) (z : ℤ) → Divides d z → unsigned_abs z % d ≡ 0
test_from_divides d z h = ap (λ (y : ℤ). unsigned_abs y % d) h.1 ∙ ap (λ (n : ℕ). n % d) (unsigned_abs-mul h.0 (pos d)) ∙ mul-mod_left (unsigned_abs h.0) d

pub divides-test : (d : ℕ) (z : ℤ) → 0 < d → Divides d z ↔ IsTrue (divides_test d z)
divides-test d z h = (λ p. eq-eqb (unsigned_abs z % d) 0 (test_from_divides d z p), λ p. divides_from_test d z h (eqb-true (unsigned_abs z % d) 0 p))

false_not : (b : Bool) → (IsTrue b → ⊥) → IsTrue (not b)
false_not true h = absurd (h refl)
false_not false h = refl

not_false : (b : Bool) → IsTrue (not b) → IsTrue b → ⊥
not_false true h k = cc
not_false false h k = cc

divides_cases : (d : ℕ) (z : ℤ) → 0 < d → Divides d z ⊎ (¬ (Divides d z))
divides_cases d z h = by_test (divides_test d z) refl
  where
    by_test : (b : Bool) → divides_test d z ≡ b → Divides d z ⊎ (¬ (Divides d z))
    by_test true e = inl ((divides-test d z h).1 e)
    by_test false e = inr (λ p. let q : divides_test d z ≡ true = (divides-test d z h).0 p in cc)

-- ---- literals

value-minus : (s : Assignment) (t u : Lin) → value s (minus t u) ≡ value s t +ℤ neg_ℤ (value s u)
value-minus s t u = value-plus s (times (negsuc 0) u) t ∙ ap (λ z. z +ℤ value s t) (value-times s (negsuc 0) u) ∙ turned (value s u) (value s t)
  where
    turned : (a b : ℤ) → negsuc 0 *ℤ a +ℤ b ≡ b +ℤ neg_ℤ a
    turned a b = omega (arith, ints)

at_least : (s : Assignment) (t u : Lin) → Holds s (less t u) ↔ (value s t <ℤ value s u)
at_least s t u = rw value-minus (λ p. omega (arith, ints), λ p. omega (arith, ints))

below_next : (s : Assignment) (t u : Lin) → Holds s (at_most t u) ↔ (value s t ≤ℤ value s u)
below_next s t u = rw (value-shifted s (minus u t) (pos 1), value-minus s u t) (λ p. omega (arith, ints), λ p. omega (arith, ints))

-- a relation of values, at the stack and at its numbers
relation : (R : ℤ → ℤ → Type 0) (s : Stack) (t u : Lin) → R (value (numbers s) t) (value (numbers s) u) ↔ R (Truth.value s t) (Truth.value s u)
relation R s t u =
    let a = value-is s t in
    let b = value-is s u in (
      λ p. subst (λ z. R z (Truth.value s u)) (sym a) (subst (R (value (numbers s) t)) (sym b) p),
      λ p. subst (λ z. R z (value (numbers s) u)) a (subst (R (Truth.value s t)) b p),
    )

holds-less : (s : Stack) (t u : Lin) → Holds (numbers s) (less t u) ↔ (Truth.value s t <ℤ Truth.value s u)
holds-less s t u = iff-trans (at_least (numbers s) t u) (relation (λ a b. a <ℤ b) s t u)

holds-at_most : (s : Stack) (t u : Lin) → Holds (numbers s) (at_most t u) ↔ (Truth.value s t ≤ℤ Truth.value s u)
holds-at_most s t u = iff-trans (below_next (numbers s) t u) (relation (λ a b. a ≤ℤ b) s t u)

-- ---- stage 1: what a form says is true, and one of the two forms says so

abbrev Says : Stack → Bool → Assertion → Type 0
Says s true p = IsTrueAt s p
Says s false p = ¬ (IsTrueAt s p)

int_cases : (a b : ℤ) → (a <ℤ b) ⊎ (b ≤ℤ a)
int_cases a b = by_lt_z a b inl inr

same_from_order : (a b : ℤ) → a ≤ℤ b → b ≤ℤ a → a ≡ b
same_from_order a b h k = omega (arith, ints)

order_from_same : (a b : ℤ) → a ≡ b → a ≤ℤ b
order_from_same a b h = omega (arith, ints)

clash : (a b : ℤ) → a <ℤ b → b ≤ℤ a → ⊥
clash a b h k = omega (arith, ints)

below_one : {X : Type 0} (d : ℤ) → d ≤ℤ pos 0 → pos 1 ≤ℤ d → X
below_one d h k = absurd (omega (arith, ints))

divides_at : (s : Stack) (n : ℕ) (t : Lin) → Divides (suc n) (value (numbers s) t) ↔ IsTrueAt s (divides (pos (suc n)) t)
divides_at s n t = (
  λ p. (omega (arith, ints), (p.0, value-is s t ∙ p.1)),
  λ p. (p.1.0, sym (value-is s t) ∙ p.1.1),
)

sound_divides : (s : Stack) (b : Bool) (d : ℤ) (t : Lin) → Holds (numbers s) (divides_form b d t) → Says s b (divides d t)
sound_divides s true (pos zero) t h = absurd cc
sound_divides s true (pos (suc n)) t h = (divides_at s n t).0 h
sound_divides s true (negsuc n) t h = absurd cc
sound_divides s false (pos zero) t h = λ p. below_one (pos zero) (omega (arith, ints)) p.0
sound_divides s false (pos (suc n)) t h = λ p. h ((divides_at s n t).1 p)
sound_divides s false (negsuc n) t h = λ p. below_one (negsuc n) (omega (arith, ints)) p.0

total_divides : (s : Assignment) (d : ℤ) (t : Lin) → Holds s (divides_form true d t) ⊎ Holds s (divides_form false d t)
total_divides s (pos zero) t = inr refl
total_divides s (pos (suc n)) t = divides_cases (suc n) (value s t) (omega arith)
total_divides s (negsuc n) t = inr refl

and_first : (a b : Bool) → (a && b) ≡ true → a ≡ true
and_first true b h = refl
and_first false b h = absurd cc

and_second : (a b : Bool) → (a && b) ≡ true → b ≡ true
and_second true b h = h
and_second false b h = absurd cc

pub sound : (s : Stack) (b : Bool) (p : Assertion) → is_simple p ≡ true → Holds (numbers s) (normal b p) → Says s b p
sound s true truth q h = tt
sound s false truth q h = absurd cc
sound s true (eq t u) q h = same_from_order _ _ ((holds-at_most s t u).0 h.0) ((holds-at_most s u t).0 h.1)
sound s false (eq t u) q (inl h) = λ e. clash _ _ ((holds-less s t u).0 h) (order_from_same _ _ (sym e))
sound s false (eq t u) q (inr h) = λ e. clash _ _ ((holds-less s u t).0 h) (order_from_same _ _ e)
sound s true (lt t u) q h = (holds-less s t u).0 h
sound s false (lt t u) q h = λ p. clash _ _ p ((holds-at_most s u t).0 h)
sound s true (le t u) q h = (holds-at_most s t u).0 h
sound s false (le t u) q h = λ p. clash _ _ ((holds-less s u t).0 h) p
sound s true (divides d t) q h = sound_divides s true d t h
sound s false (divides d t) q h = sound_divides s false d t h
sound s b (bag_eq a c) q h = absurd cc
sound s b (subset a c) q h = absurd cc
sound s b (member a c) q h = absurd cc
sound s b (all_of u a p) q h = absurd cc
sound s true (negation p) q h = sound s false p q h
sound s false (negation p) q h = λ n. n (sound s true p q h)
sound s true (both p r) q h = (sound s true p (and_first _ _ q) h.0, sound s true r (and_second _ _ q) h.1)
sound s false (both p r) q (inl h) = let n = sound s false p (and_first _ _ q) h in λ w. n w.0
sound s false (both p r) q (inr h) = let n = sound s false r (and_second _ _ q) h in λ w. n w.1
sound s true (either p r) q (inl h) = inl (sound s true p (and_first _ _ q) h)
sound s true (either p r) q (inr h) = inr (sound s true r (and_second _ _ q) h)
sound s false (either p r) q h =
    let m = sound s false p (and_first _ _ q) h.0 in
    let n = sound s false r (and_second _ _ q) h.1 in
    λ w. elim w [ inl a ↦ m a | inr b ↦ n b ]
sound s b (exists u p) q h = absurd cc
sound s b (forall u p) q h = absurd cc

pub total : (s : Stack) (p : Assertion) → is_simple p ≡ true → Holds (numbers s) (normal true p) ⊎ Holds (numbers s) (normal false p)
total s truth q = inl refl
total s (eq t u) q = elim (int_cases (Truth.value s t) (Truth.value s u)) [
  | inl h ↦ inr (inl ((holds-less s t u).1 h))
  | inr h ↦ elim (int_cases (Truth.value s u) (Truth.value s t)) [
    | inl k ↦ inr (inr ((holds-less s u t).1 k))
    | inr k ↦ inl ((holds-at_most s t u).1 k, (holds-at_most s u t).1 h)
  ]
]
total s (lt t u) q = elim (int_cases (Truth.value s t) (Truth.value s u)) [ inl h ↦ inl ((holds-less s t u).1 h) | inr h ↦ inr ((holds-at_most s u t).1 h) ]
total s (le t u) q = elim (int_cases (Truth.value s u) (Truth.value s t)) [ inl h ↦ inr ((holds-less s u t).1 h) | inr h ↦ inl ((holds-at_most s t u).1 h) ]
total s (divides d t) q = total_divides (numbers s) d t
total s (bag_eq a c) q = absurd cc
total s (subset a c) q = absurd cc
total s (member a c) q = absurd cc
total s (all_of u a p) q = absurd cc
total s (negation p) q = elim (total s p q) [ inl h ↦ inr h | inr h ↦ inl h ]
total s (both p r) q = elim (total s p (and_first _ _ q)) [
  | inl h ↦ elim (total s r (and_second _ _ q)) [ inl k ↦ inl (h, k) | inr k ↦ inr (inr k) ]
  | inr h ↦ inr (inl h)
]
total s (either p r) q = elim (total s p (and_first _ _ q)) [
  | inl h ↦ inl (inl h)
  | inr h ↦ elim (total s r (and_second _ _ q)) [ inl k ↦ inl (inr k) | inr k ↦ inr (h, k) ]
]
total s (exists u p) q = absurd cc
total s (forall u p) q = absurd cc

pub stage1 : (s : Stack) (p : Assertion) → is_simple p ≡ true → Holds (numbers s) (normal true p) ↔ IsTrueAt s p
stage1 s p q = (λ h. sound s true p q h, λ h. elim (total s p q) [ inl k ↦ k | inr k ↦ absurd (sound s false p q k h) ])

-- ---- evaluation
nothing_true : {X : Type 0} → IsTrue false → X
nothing_true h = absurd cc

holds-both_of : (s : Assignment) (f g : Form) → Holds s (both_of f g) ↔ (Holds s f × Holds s g)
holds-both_of s (const true) g = (λ p. (refl, p), λ p. p.1)
holds-both_of s (const false) g = (λ p. nothing_true p, λ p. p.0)
holds-both_of s f (const true) = (λ p. (p, refl), λ p. p.0)
holds-both_of s f (const false) = (λ p. nothing_true p, λ p. p.1)
holds-both_of s f g = (λ p. p, λ p. p)

holds-either_of : (s : Assignment) (f g : Form) → Holds s (either_of f g) ↔ (Holds s f ⊎ Holds s g)
holds-either_of s (const false) g = (λ p. inr p, λ p. elim p [ inl a ↦ nothing_true a | inr b ↦ b ])
holds-either_of s (const true) g = (λ p. inl p, λ p. refl)
holds-either_of s f (const false) = (λ p. inl p, λ p. elim p [ inl a ↦ a | inr b ↦ nothing_true b ])
holds-either_of s f (const true) = (λ p. inr p, λ p. refl)
holds-either_of s f g = (λ p. p, λ p. p)

ground_positive : (s : Assignment) (es : List (Var × ℤ)) (c : ℤ) → Holds s (evaluate_literal es (int_lt (pos 0) c) (positive record { terms = es; constant = c })) ↔ Holds s (positive record { terms = es; constant = c })
ground_positive s [] c = (λ p. grind (arith, ints), λ p. grind (arith, ints))
ground_positive s (e ∷ es) c = (λ p. p, λ p. p)

ground_sum : (c : ℤ) → pos 0 +ℤ c ≡ c
ground_sum c = omega (arith, ints)

ground_multiple : (s : Assignment) (d : ℕ) (es : List (Var × ℤ)) (c : ℤ) → 0 < d → Holds s (evaluate_literal es (divides_test d c) (multiple d record { terms = es; constant = c })) ↔ Holds s (multiple d record { terms = es; constant = c })
ground_multiple s d [] c h = let i = divides-test d c h in (λ p. subst (Divides d) (sym (ground_sum c)) (i.1 p), λ p. i.0 (subst (Divides d) (ground_sum c) p))
ground_multiple s d (e ∷ es) c h = (λ p. p, λ p. p)

ground_no_multiple : (s : Assignment) (d : ℕ) (es : List (Var × ℤ)) (c : ℤ) → 0 < d → Holds s (evaluate_literal es (not (divides_test d c)) (no_multiple d record { terms = es; constant = c })) ↔ Holds s (no_multiple d record { terms = es; constant = c })
ground_no_multiple s d [] c h = let i = divides-test d c h in (λ p q. not_false _ p (i.0 (subst (Divides d) (ground_sum c) q)), λ p. false_not _ (λ q. p (subst (Divides d) (sym (ground_sum c)) (i.1 q))))
ground_no_multiple s d (e ∷ es) c h = (λ p. p, λ p. p)

pub holds-evaluate : (s : Assignment) (f : Form) → HasPositiveDivisors f → Holds s (evaluate f) ↔ Holds s f
holds-evaluate s (const b) h = (λ p. p, λ p. p)
holds-evaluate s (positive t) h = ground_positive s t.terms t.constant
holds-evaluate s (multiple d t) h = ground_multiple s d t.terms t.constant h
holds-evaluate s (no_multiple d t) h = ground_no_multiple s d t.terms t.constant h
holds-evaluate s (conjunction f g) h =
    let i = holds-evaluate s f h.0 in
    let j = holds-evaluate s g h.1 in
    iff-trans (holds-both_of s (evaluate f) (evaluate g)) (λ p. (i.0 p.0, j.0 p.1), λ p. (i.1 p.0, j.1 p.1))
holds-evaluate s (disjunction f g) h =
    let i = holds-evaluate s f h.0 in
    let j = holds-evaluate s g h.1 in
    iff-trans (holds-either_of s (evaluate f) (evaluate g)) (λ p. elim p [ inl a ↦ inl (i.0 a) | inr b ↦ inr (j.0 b) ], λ p. elim p [ inl a ↦ inl (i.1 a) | inr b ↦ inr (j.1 b) ])
