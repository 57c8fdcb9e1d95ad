-- The stages together.
use Rattle.std.proofs.Common.{◌≡◌, ℕ, ◌+◌, ◌<◌, ◌≤◌, min, ◌⊎◌, inl, inr, ◌↔◌, Bool, true, false, IsTrue, List, [], ◌∷◌, refl, sym, ap, ◌∙◌, subst, arith, ℤ}
use Rattle.hs_pure.specs.declared.var.Var.{Var}
use Rattle.hs_pure.specs.declared.pure.Pure.{Pure}
use Rattle.hs_pure.specs.Assertion.{Assertion, assertion_of}
use Rattle.hs_pure.specs.Stack.{Stack, with_value, number_value}
use Rattle.hs_pure.specs.Truth.{IsTrueAt, TrueAt}
use Rattle.hs_pure.specs.Occurs.{is_free}
use Rattle.hs_pure.specs.Mirror.{is_free_in}
use Rattle.hs_pure.specs.Sums.{IsOrdered}
use Rattle.hs_pure.proofs.Mirrored.{is_free-is}
use Rattle.hs_elimination.specs.Linear.{place}
use Rattle.hs_elimination.specs.Form.{Form, const, positive, multiple, no_multiple, conjunction, disjunction, assertion, atoms, IsWide}
use Rattle.hs_elimination.specs.Normal.{is_simple, normal, evaluate_literal, both_of, either_of, evaluate}
use Rattle.hs_elimination.specs.Scaling.{scale, stage2, multiplier}
use Rattle.hs_elimination.specs.Elimination.{scaled_form, without_variable}
use Rattle.hs_elimination.specs.Cases.{stage3}
use Rattle.hs_elimination.specs.Ordered.{AssertionIsOrdered}
use Rattle.hs_elimination.proofs.Meaning.{HasPositiveDivisors, AreRising}
use Rattle.hs_elimination.proofs.Elimination.{AreUnits, units-stage2, positive-stage2}
use Rattle.hs_elimination.proofs.Plain.{units-evaluate, rising-evaluate, rising-normal, positive-evaluate, positive-normal}
use Rattle.hs_elimination.proofs.Order.{rising-ordered, order_is, ordered-without_variable, lacks-without_variable}
use Rattle.hs_elimination.proofs.Decided.{truth-without_variable}
use Rattle.hs_cooper_forms.specs.Changing.{HasUneven}
use Rattle.hs_cooper.specs.Surveying.{HasPositive}

-- ---- sizes

pub atoms-scale : (l : ℕ) (x : Var) (f : Form) → atoms (scale l x f) ≡ atoms f
atoms-scale l x (const b) = refl
atoms-scale l x (positive t) = refl
atoms-scale l x (multiple d t) = refl
atoms-scale l x (no_multiple d t) = refl
atoms-scale l x (conjunction f g) = λ i. atoms-scale l x f i + atoms-scale l x g i
atoms-scale l x (disjunction f g) = λ i. atoms-scale l x f i + atoms-scale l x g i

pub atoms-stage2 : (x : Var) (f : Form) → atoms (stage2 x f) ≡ atoms f + 1
atoms-stage2 x f = ap (λ n. n + 1) (atoms-scale (multiplier (place x) f 1) x f)

fewer-literal : (es : List (Var × ℤ)) (b : Bool) (f : Form) → atoms (evaluate_literal es b f) ≤ atoms f
fewer-literal [] b f = omega arith
fewer-literal (e ∷ es) b f = omega arith

fewer-both_of : (f g : Form) → atoms (both_of f g) ≤ atoms f + atoms g
fewer-both_of (const true) g = omega arith
fewer-both_of (const false) g = omega arith
fewer-both_of f (const true) = omega arith
fewer-both_of f (const false) = omega arith
fewer-both_of f g = omega arith

fewer-either_of : (f g : Form) → atoms (either_of f g) ≤ atoms f + atoms g
fewer-either_of (const false) g = omega arith
fewer-either_of (const true) g = omega arith
fewer-either_of f (const false) = omega arith
fewer-either_of f (const true) = omega arith
fewer-either_of f g = omega arith

pub fewer-evaluate : (f : Form) → atoms (evaluate f) ≤ atoms f
fewer-evaluate (const b) = omega arith
fewer-evaluate (positive t) = fewer-literal t.terms _ (positive t)
fewer-evaluate (multiple d t) = fewer-literal t.terms _ (multiple d t)
fewer-evaluate (no_multiple d t) = fewer-literal t.terms _ (no_multiple d t)
fewer-evaluate (conjunction f g) = omega (arith, fewer-both_of (evaluate f) (evaluate g), fewer-evaluate f, fewer-evaluate g)
fewer-evaluate (disjunction f g) = omega (arith, fewer-either_of (evaluate f) (evaluate g), fewer-evaluate f, fewer-evaluate g)

-- ---- width

wide-literal : (es : List (Var × ℤ)) (b : Bool) (f : Form) → IsWide (evaluate_literal es b f) → IsWide f
wide-literal [] b f h = absurd h
wide-literal (e ∷ es) b f h = h

wide-both_of : (f g : Form) → IsWide (both_of f g) → IsWide f ⊎ IsWide g
wide-both_of (const true) g h = inr h
wide-both_of (const false) g h = absurd h
wide-both_of f (const true) h = inl h
wide-both_of f (const false) h = absurd h
wide-both_of f g h = h

wide-either_of : (f g : Form) → IsWide (either_of f g) → IsWide f ⊎ IsWide g
wide-either_of (const false) g h = inr h
wide-either_of (const true) g h = absurd h
wide-either_of f (const false) h = inl h
wide-either_of f (const true) h = absurd h
wide-either_of f g h = h

pub wide-evaluate : (f : Form) → IsWide (evaluate f) → IsWide f
wide-evaluate (const b) h = h
wide-evaluate (positive t) h = wide-literal t.terms _ (positive t) h
wide-evaluate (multiple d t) h = wide-literal t.terms _ (multiple d t) h
wide-evaluate (no_multiple d t) h = wide-literal t.terms _ (no_multiple d t) h
wide-evaluate (conjunction f g) h = elim (wide-both_of (evaluate f) (evaluate g) h) [ inl a ↦ inl (wide-evaluate f a) | inr b ↦ inr (wide-evaluate g b) ]
wide-evaluate (disjunction f g) h = elim (wide-either_of (evaluate f) (evaluate g) h) [ inl a ↦ inl (wide-evaluate f a) | inr b ↦ inr (wide-evaluate g b) ]

-- ---- what the third stage is given

positive-back : (f : Form) → HasPositiveDivisors f → HasPositive f
positive-back (const b) h = tt
positive-back (positive t) h = tt
positive-back (multiple d t) h = h
positive-back (no_multiple d t) h = h
positive-back (conjunction f g) h = (positive-back f h.0, positive-back g h.1)
positive-back (disjunction f g) h = (positive-back f h.0, positive-back g h.1)

even-units : (x : ℕ) (f : Form) → AreUnits x f → ¬ (HasUneven x f)
even-units x (const b) u h = h
even-units x (positive t) u h = h u.1
even-units x (multiple d t) u h = h u.1
even-units x (no_multiple d t) u h = h u.1
even-units x (conjunction f g) u (inl h) = even-units x f u.0 h
even-units x (conjunction f g) u (inr h) = even-units x g u.1 h
even-units x (disjunction f g) u (inl h) = even-units x f u.0 h
even-units x (disjunction f g) u (inr h) = even-units x g u.1 h

rising-first : (p : Pure) → IsOrdered p → AreRising (evaluate (normal true (assertion_of p)))
rising-first p h = rising-evaluate (normal true (assertion_of p)) (rising-normal true (assertion_of p) (rising-ordered (assertion_of p) ((order_is p).0 h)))

pub even-second : (x : Var) (p : Pure) → IsOrdered p → ¬ (HasUneven (place x) (evaluate (scaled_form x (assertion_of p))))
even-second x p h = even-units (place x) (evaluate (scaled_form x (assertion_of p))) (units-evaluate (place x) (scaled_form x (assertion_of p)) (units-stage2 x (evaluate (normal true (assertion_of p))) (rising-first p h)))

pub positive-second : (x : Var) (p : Pure) → IsOrdered p → HasPositive (evaluate (scaled_form x (assertion_of p)))
positive-second x p h =
    let f = normal true (assertion_of p) in
    positive-back (evaluate (scaled_form x (assertion_of p))) (positive-evaluate (scaled_form x (assertion_of p)) (positive-stage2 x (evaluate f) (rising-first p h) (positive-evaluate f (positive-normal true (assertion_of p)))))

-- ---- the result

pub truth-result : (x : Var) (p r : Pure) → IsTrue (is_simple (assertion_of p)) → IsOrdered p → assertion_of r ≡ without_variable x (assertion_of p) → (s : Stack) → ((y : ℤ) × TrueAt (with_value x (number_value y) s) p) ↔ TrueAt s r
truth-result x p r q h e s =
    let t = truth-without_variable x (assertion_of p) q ((order_is p).0 h) s in
    (λ w. subst (IsTrueAt s) (sym e) (t.0 w), λ w. t.1 (subst (IsTrueAt s) e w))

pub lacks-result : (x : Var) (p r : Pure) → assertion_of r ≡ without_variable x (assertion_of p) → is_free x r ≡ false
lacks-result x p r e = is_free-is x r ∙ ap (is_free_in x) e ∙ lacks-without_variable x (assertion_of p)

pub ordered-result : (x : Var) (p r : Pure) → IsOrdered p → assertion_of r ≡ without_variable x (assertion_of p) → IsOrdered r
ordered-result x p r h e = (order_is r).1 (subst AssertionIsOrdered (sym e) (ordered-without_variable x (assertion_of p) ((order_is p).0 h)))

-- ---- what the code knows of the stages

pub first_within : (p : Assertion) (b r : ℕ) → r ≡ min (atoms (normal true p)) (b + 1) → r ≤ b → atoms (normal true p) ≤ b
first_within p b r e h = omega arith

pub scaled_within : (x : Var) (p : Assertion) (f : Form) (b r : ℕ) → f ≡ evaluate (normal true p) → r ≡ min (atoms f) (b + 1) → r < b → atoms (scaled_form x p) ≤ b
scaled_within x p f b r is e h = let s = atoms-stage2 x (evaluate (normal true p)) in let n = ap atoms is in omega arith

pub scaled_over : (x : Var) (p : Assertion) (f : Form) (b r : ℕ) → f ≡ evaluate (normal true p) → r ≡ min (atoms f) (b + 1) → b ≤ r → b < atoms (scaled_form x p)
scaled_over x p f b r is e h = let s = atoms-stage2 x (evaluate (normal true p)) in let n = ap atoms is in omega arith

pub scaled_is : (x : Var) (p : Assertion) (f g : Form) → f ≡ evaluate (normal true p) → g ≡ evaluate (stage2 x f) → g ≡ evaluate (scaled_form x p)
scaled_is x p f g is e = e ∙ ap (λ h. evaluate (stage2 x h)) is

pub small_scaled : (x : Var) (p : Assertion) (g : Form) (b : ℕ) → g ≡ evaluate (scaled_form x p) → atoms (scaled_form x p) ≤ b → atoms g ≤ b
small_scaled x p g b e h = let n = ap atoms e in let l = fewer-evaluate (scaled_form x p) in omega arith

pub result_is : (x : Var) (p : Assertion) (g h : Form) (a : Assertion) → g ≡ evaluate (scaled_form x p) → h ≡ evaluate (stage3 x g) → a ≡ assertion h → a ≡ without_variable x p
result_is x p g h a e k l = l ∙ ap assertion (k ∙ ap (λ f. evaluate (stage3 x f)) e)
