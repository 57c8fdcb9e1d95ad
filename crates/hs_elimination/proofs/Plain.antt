-- Plain elimination is right: its result is true exactly where some integer x makes the formula true.
use Rattle.std.proofs.Common.{◌≡◌, ℕ, zero, suc, ◌+◌, ◌*◌, ◌↔◌, Bool, true, false, List, [], ◌∷◌, ◌++◌, refl, ◌∙◌, arith, length, map, ℤ, pos, negsuc}
use Rattle.hs_pure.specs.Stack.{Stack, with_value, number_value}
use Rattle.hs_pure.specs.Truth.{IsTrueAt}
use Rattle.hs_elimination.specs.Normal.{is_simple}
use Rattle.hs_elimination.proofs.Nesting.{each-some_of, atoms-some_of}
use Rattle.hs_elimination.proofs.Stacks.{numbers, holds-agree, agree-back, with_value-agree}
use Rattle.hs_elimination.proofs.Stage1.{iff-trans}
use Rattle.hs_elimination.proofs.Elimination.{AreUnits, minus_not_zero, positive-stage2, stage2-is, stage3-is, units-stage2}
use Rattle.hs_elimination.proofs.Meaning.{AreRising, HasPositiveDivisors, HasRising, Holds, RisesFrom, any_of, assign}
use Rattle.hs_elimination.proofs.Rising.{rises-merge, rises-scale}
use Rattle.hs_elimination.proofs.Stage1.{holds-evaluate, stage1}
use Rattle.hs_elimination.specs.Cases.{cases_at, cases_to, cooper, join_distinct, lower_bounds, minus_infinity, period, positive_below, stage3, substitute}
use Rattle.hs_elimination.specs.Elimination.{eliminated}
use Rattle.hs_elimination.specs.Form.{Form, atoms, conjunction, const, disjunction, multiple, no_multiple, positive}
use Rattle.hs_elimination.specs.Linear.{coefficient, minus, number, place, plus, times}
use Rattle.hs_elimination.specs.Normal.{at_most, both_of, divides_form, either_of, evaluate, evaluate_literal, less, normal}
use Rattle.hs_elimination.specs.Scaling.{stage2}
use Rattle.hs_pure.specs.Assertion.{Assertion, truth, eq, lt, le, divides, bag_eq, subset, member, all_of, negation, both, either, exists, forall}
use Rattle.hs_pure.specs.declared.lin.Lin.{Lin}
use Rattle.hs_pure.specs.declared.var.Var.{Var}

-- ---- divisors stay positive
positive_divides : (b : Bool) (d : ℤ) (t : Lin) → HasPositiveDivisors (divides_form b d t)
positive_divides b (pos zero) t = tt
positive_divides true (pos (suc n)) t = omega arith
positive_divides false (pos (suc n)) t = omega arith
positive_divides b (negsuc n) t = tt

pub positive-normal : (b : Bool) (p : Assertion) → HasPositiveDivisors (normal b p)
positive-normal b truth = tt
positive-normal true (eq t u) = (tt, tt)
positive-normal false (eq t u) = (tt, tt)
positive-normal true (lt t u) = tt
positive-normal false (lt t u) = tt
positive-normal true (le t u) = tt
positive-normal false (le t u) = tt
positive-normal true (divides d t) = positive_divides true d t
positive-normal false (divides d t) = positive_divides false d t
positive-normal true (bag_eq a c) = tt
positive-normal false (bag_eq a c) = tt
positive-normal true (subset a c) = tt
positive-normal false (subset a c) = tt
positive-normal true (member a c) = tt
positive-normal false (member a c) = tt
positive-normal true (all_of u a p) = tt
positive-normal false (all_of u a p) = tt
positive-normal true (exists u p) = tt
positive-normal false (exists u p) = tt
positive-normal true (forall u p) = tt
positive-normal false (forall u p) = tt
positive-normal true (negation p) = positive-normal false p
positive-normal false (negation p) = positive-normal true p
positive-normal true (both p q) = (positive-normal true p, positive-normal true q)
positive-normal false (both p q) = (positive-normal false p, positive-normal false q)
positive-normal true (either p q) = (positive-normal true p, positive-normal true q)
positive-normal false (either p q) = (positive-normal false p, positive-normal false q)

positive_literal : (es : List (Var × ℤ)) (b : Bool) (f : Form) → HasPositiveDivisors f → HasPositiveDivisors (evaluate_literal es b f)
positive_literal [] b f h = tt
positive_literal (e ∷ es) b f h = h

positive-both_of : (f g : Form) → HasPositiveDivisors f → HasPositiveDivisors g → HasPositiveDivisors (both_of f g)
positive-both_of (const true) g h k = k
positive-both_of (const false) g h k = tt
positive-both_of f (const true) h k = h
positive-both_of f (const false) h k = tt
positive-both_of f g h k = (h, k)

positive-either_of : (f g : Form) → HasPositiveDivisors f → HasPositiveDivisors g → HasPositiveDivisors (either_of f g)
positive-either_of (const false) g h k = k
positive-either_of (const true) g h k = tt
positive-either_of f (const false) h k = h
positive-either_of f (const true) h k = tt
positive-either_of f g h k = (h, k)

pub positive-evaluate : (f : Form) → HasPositiveDivisors f → HasPositiveDivisors (evaluate f)
positive-evaluate (const b) h = tt
positive-evaluate (positive t) h = positive_literal t.terms _ (positive t) h
positive-evaluate (multiple d t) h = positive_literal t.terms _ (multiple d t) h
positive-evaluate (no_multiple d t) h = positive_literal t.terms _ (no_multiple d t) h
positive-evaluate (conjunction f g) h = positive-both_of _ _ (positive-evaluate f h.0) (positive-evaluate g h.1)
positive-evaluate (disjunction f g) h = positive-either_of _ _ (positive-evaluate f h.0) (positive-evaluate g h.1)

pub positive-minus_infinity : (x : ℕ) (f : Form) → HasPositiveDivisors f → HasPositiveDivisors (minus_infinity x f)
positive-minus_infinity x (const b) h = tt
positive-minus_infinity x (positive t) h = by_sign (coefficient x t.terms)
  where
    by_sign : (c : ℤ) → HasPositiveDivisors (positive_below c t)
    by_sign (pos zero) = tt
    by_sign (pos (suc n)) = tt
    by_sign (negsuc n) = tt
positive-minus_infinity x (multiple d t) h = h
positive-minus_infinity x (no_multiple d t) h = h
positive-minus_infinity x (conjunction f g) h = (positive-minus_infinity x f h.0, positive-minus_infinity x g h.1)
positive-minus_infinity x (disjunction f g) h = (positive-minus_infinity x f h.0, positive-minus_infinity x g h.1)

pub positive-substitute : (x : ℕ) (u : Lin) (f : Form) → HasPositiveDivisors f → HasPositiveDivisors (substitute x u f)
positive-substitute x u (const b) h = tt
positive-substitute x u (positive t) h = tt
positive-substitute x u (multiple d t) h = h
positive-substitute x u (no_multiple d t) h = h
positive-substitute x u (conjunction f g) h = (positive-substitute x u f h.0, positive-substitute x u g h.1)
positive-substitute x u (disjunction f g) h = (positive-substitute x u f h.0, positive-substitute x u g h.1)

positive-append : (fs gs : List Form) → HasPositiveDivisors (any_of fs) → HasPositiveDivisors (any_of gs) → HasPositiveDivisors (any_of (fs ++ gs))
positive-append [] gs h k = k
positive-append (f ∷ fs) gs h k = (h.0, positive-append fs gs h.1 k)

positive-map : (x : ℕ) (f : Form) (j : ℕ) (bs : List Lin) → HasPositiveDivisors f → HasPositiveDivisors (any_of (map (λ b. substitute x (plus b (number (pos j))) f) bs))
positive-map x f j [] h = tt
positive-map x f j (b ∷ bs) h = (positive-substitute x (plus b (number (pos j))) f h, positive-map x f j bs h)

positive-cases : (m : ℕ) (bs : List Lin) (x : ℕ) (f : Form) → HasPositiveDivisors f → HasPositiveDivisors (any_of (cases_to x f bs m))
positive-cases zero bs x f h = tt
positive-cases (suc m) bs x f h =
    positive-append (cases_to x f bs m) (cases_at x f bs (suc m)) (positive-cases m bs x f h)
    (positive-substitute x (number (pos (suc m))) (minus_infinity x f) (positive-minus_infinity x f h), positive-map x f (suc m) bs h)

pub positive-cooper : (m : ℕ) (bs : List Lin) (x : ℕ) (f : Form) → HasPositiveDivisors f → HasPositiveDivisors (cooper m bs x f)
positive-cooper m bs x f h = each-some_of HasPositiveDivisors (λ f g p q. (p, q)) (λ f g p. p) (cases_to x f bs m) (positive-cases m bs x f h)

-- ---- the theorem
some_value : {P Q : ℤ → Type 0} → ((y : ℤ) → P y ↔ Q y) → ((y : ℤ) × P y) ↔ ((y : ℤ) × Q y)
some_value e = (λ w. (w.0, (e w.0).0 w.1), λ w. (w.0, (e w.0).1 w.1))

iff-sym : {P Q : Type 0} → P ↔ Q → Q ↔ P
iff-sym a = (a.1, a.0)

units_literal : (x : ℕ) (es : List (Var × ℤ)) (b : Bool) (f : Form) → AreUnits x f → AreUnits x (evaluate_literal es b f)
units_literal x [] b f h = tt
units_literal x (e ∷ es) b f h = h

units-both_of : (x : ℕ) (f g : Form) → AreUnits x f → AreUnits x g → AreUnits x (both_of f g)
units-both_of x (const true) g h k = k
units-both_of x (const false) g h k = tt
units-both_of x f (const true) h k = h
units-both_of x f (const false) h k = tt
units-both_of x f g h k = (h, k)

units-either_of : (x : ℕ) (f g : Form) → AreUnits x f → AreUnits x g → AreUnits x (either_of f g)
units-either_of x (const false) g h k = k
units-either_of x (const true) g h k = tt
units-either_of x f (const false) h k = h
units-either_of x f (const true) h k = tt
units-either_of x f g h k = (h, k)

pub units-evaluate : (x : ℕ) (f : Form) → AreUnits x f → AreUnits x (evaluate f)
units-evaluate x (const b) h = tt
units-evaluate x (positive t) h = units_literal x t.terms _ (positive t) h
units-evaluate x (multiple d t) h = units_literal x t.terms _ (multiple d t) h
units-evaluate x (no_multiple d t) h = units_literal x t.terms _ (no_multiple d t) h
units-evaluate x (conjunction f g) h = units-both_of x _ _ (units-evaluate x f h.0) (units-evaluate x g h.1)
units-evaluate x (disjunction f g) h = units-either_of x _ _ (units-evaluate x f h.0) (units-evaluate x g h.1)

rises-less : (t u : Lin) → RisesFrom 0 t.terms → RisesFrom 0 u.terms → AreRising (less t u)
rises-less t u r q = rises-merge 0 (times (negsuc 0) t).terms u.terms (rises-scale 0 (negsuc 0) t.terms minus_not_zero r) q

rises-at_most : (t u : Lin) → RisesFrom 0 t.terms → RisesFrom 0 u.terms → AreRising (at_most t u)
rises-at_most t u r q = rises-merge 0 (minus u t).terms [] (rises-less t u r q) tt

rises-divides : (b : Bool) (d : ℤ) (t : Lin) → RisesFrom 0 t.terms → AreRising (divides_form b d t)
rises-divides b (pos zero) t r = tt
rises-divides true (pos (suc n)) t r = r
rises-divides false (pos (suc n)) t r = r
rises-divides b (negsuc n) t r = tt

pub rising-normal : (b : Bool) (p : Assertion) → HasRising p → AreRising (normal b p)
rising-normal b truth r = tt
rising-normal true (eq t u) r = (rises-at_most t u r.0 r.1, rises-at_most u t r.1 r.0)
rising-normal false (eq t u) r = (rises-less t u r.0 r.1, rises-less u t r.1 r.0)
rising-normal true (lt t u) r = rises-less t u r.0 r.1
rising-normal false (lt t u) r = rises-at_most u t r.1 r.0
rising-normal true (le t u) r = rises-at_most t u r.0 r.1
rising-normal false (le t u) r = rises-less u t r.1 r.0
rising-normal true (divides d t) r = rises-divides true d t r
rising-normal false (divides d t) r = rises-divides false d t r
rising-normal true (bag_eq a c) r = tt
rising-normal false (bag_eq a c) r = tt
rising-normal true (subset a c) r = tt
rising-normal false (subset a c) r = tt
rising-normal true (member a c) r = tt
rising-normal false (member a c) r = tt
rising-normal true (all_of u a p) r = tt
rising-normal false (all_of u a p) r = tt
rising-normal true (exists u p) r = tt
rising-normal false (exists u p) r = tt
rising-normal true (forall u p) r = tt
rising-normal false (forall u p) r = tt
rising-normal true (negation p) r = rising-normal false p r
rising-normal false (negation p) r = rising-normal true p r
rising-normal true (both p q) r = (rising-normal true p r.0, rising-normal true q r.1)
rising-normal false (both p q) r = (rising-normal false p r.0, rising-normal false q r.1)
rising-normal true (either p q) r = (rising-normal true p r.0, rising-normal true q r.1)
rising-normal false (either p q) r = (rising-normal false p r.0, rising-normal false q r.1)

rising_literal : (es : List (Var × ℤ)) (b : Bool) (f : Form) → AreRising f → AreRising (evaluate_literal es b f)
rising_literal [] b f h = tt
rising_literal (e ∷ es) b f h = h

rising-both_of : (f g : Form) → AreRising f → AreRising g → AreRising (both_of f g)
rising-both_of (const true) g h k = k
rising-both_of (const false) g h k = tt
rising-both_of f (const true) h k = h
rising-both_of f (const false) h k = tt
rising-both_of f g h k = (h, k)

rising-either_of : (f g : Form) → AreRising f → AreRising g → AreRising (either_of f g)
rising-either_of (const false) g h k = k
rising-either_of (const true) g h k = tt
rising-either_of f (const false) h k = h
rising-either_of f (const true) h k = tt
rising-either_of f g h k = (h, k)

pub rising-evaluate : (f : Form) → AreRising f → AreRising (evaluate f)
rising-evaluate (const b) h = tt
rising-evaluate (positive t) h = rising_literal t.terms _ (positive t) h
rising-evaluate (multiple d t) h = rising_literal t.terms _ (multiple d t) h
rising-evaluate (no_multiple d t) h = rising_literal t.terms _ (no_multiple d t) h
rising-evaluate (conjunction f g) h = rising-both_of _ _ (rising-evaluate f h.0) (rising-evaluate g h.1)
rising-evaluate (disjunction f g) h = rising-either_of _ _ (rising-evaluate f h.0) (rising-evaluate g h.1)

-- the values of x at which a formula holds
at_values : (s : Stack) (x : Var) (f : Form) → ((y : ℤ) × Holds (numbers (with_value x (number_value y) s)) f) ↔ ((y : ℤ) × Holds (assign (numbers s) (place x) y) f)
at_values s x f = some_value (λ y.
    let u = numbers (with_value x (number_value y) s) in
    let v = assign (numbers s) (place x) y in
    let a = with_value-agree s x y in
    (holds-agree u v a f, holds-agree v u (agree-back u v a) f))

pub elimination_is : (x : Var) (p : Assertion) (s : Stack) → is_simple p ≡ true → HasRising p → ((y : ℤ) × IsTrueAt (with_value x (number_value y) s) p) ↔ Holds (numbers s) (eliminated x p)
elimination_is x p s q r =
    let n = numbers s in
    let f0 = normal true p in
    let f1 = evaluate f0 in
    let r1 : AreRising f1 = rising-evaluate f0 (rising-normal true p r) in
    let k0 : HasPositiveDivisors f0 = positive-normal true p in
    let k1 : HasPositiveDivisors f1 = positive-evaluate f0 k0 in
    let f2 = stage2 x f1 in
    let k2 : HasPositiveDivisors f2 = positive-stage2 x f1 r1 k1 in
    let f3 = evaluate f2 in
    let k3 : HasPositiveDivisors f3 = positive-evaluate f2 k2 in
    let zero_is = some_value {P = λ y. IsTrueAt (with_value x (number_value y) s) p} {Q = λ y. Holds (numbers (with_value x (number_value y) s)) f0} (λ y. iff-sym (stage1 (with_value x (number_value y) s) p q)) in
    let one = some_value {P = λ y. Holds (assign n (place x) y) f0} {Q = λ y. Holds (assign n (place x) y) f1} (λ y. iff-sym (holds-evaluate (assign n (place x) y) f0 k0)) in
    let two = stage2-is x f1 n r1 in
    let three = some_value {P = λ y. Holds (assign n (place x) y) f2} {Q = λ y. Holds (assign n (place x) y) f3} (λ y. iff-sym (holds-evaluate (assign n (place x) y) f2 k2)) in
    let four = stage3-is x f3 n (units-evaluate (place x) f2 (units-stage2 x f1 r1)) k3 in
    let five = iff-sym (holds-evaluate n (stage3 x f3) (positive-cooper (period (place x) f3 1) (join_distinct [] (lower_bounds (place x) f3)) (place x) f3 k3)) in
    iff-trans zero_is (iff-trans (at_values s x f0) (iff-trans one (iff-trans two (iff-trans three (iff-trans four five)))))

pub positive-eliminated : (x : Var) (p : Assertion) → HasRising p → HasPositiveDivisors (eliminated x p)
positive-eliminated x p r =
    let f0 = normal true p in
    let f1 = evaluate f0 in
    let f2 = stage2 x f1 in
    let f3 = evaluate f2 in
    let k2 : HasPositiveDivisors f2 = positive-stage2 x f1 (rising-evaluate f0 (rising-normal true p r)) (positive-evaluate f0 (positive-normal true p)) in
    positive-evaluate (stage3 x f3) (positive-cooper (period (place x) f3 1) (join_distinct [] (lower_bounds (place x) f3)) (place x) f3 (positive-evaluate f2 k2))

-- ---- the size of stage 3
atoms-append : (fs gs : List Form) → atoms (any_of (fs ++ gs)) ≡ atoms (any_of fs) + atoms (any_of gs)
atoms-append [] gs = omega arith
atoms-append (f ∷ fs) gs = omega (arith, atoms-append fs gs)

atoms-substitute : (x : ℕ) (u : Lin) (f : Form) → atoms (substitute x u f) ≡ atoms f
atoms-substitute x u (const b) = refl
atoms-substitute x u (positive t) = refl
atoms-substitute x u (multiple d t) = refl
atoms-substitute x u (no_multiple d t) = refl
atoms-substitute x u (conjunction f g) = omega (arith, atoms-substitute x u f, atoms-substitute x u g)
atoms-substitute x u (disjunction f g) = omega (arith, atoms-substitute x u f, atoms-substitute x u g)

atoms-map : (x : ℕ) (f : Form) (j : ℕ) (bs : List Lin) → atoms (any_of (map (λ b. substitute x (plus b (number (pos j))) f) bs)) ≡ length bs * atoms f
atoms-map x f j [] = omega arith
atoms-map x f j (b ∷ bs) = omega (arith, atoms-substitute x (plus b (number (pos j))) f, atoms-map x f j bs)

atoms-cases : (m : ℕ) (bs : List Lin) (x : ℕ) (f : Form) → atoms (any_of (cases_to x f bs m)) ≡ m * (atoms (minus_infinity x f) + length bs * atoms f)
atoms-cases zero bs x f = omega arith
atoms-cases (suc m) bs x f =
    omega (arith, atoms-append (cases_to x f bs m) (cases_at x f bs (suc m)), atoms-cases m bs x f, atoms-substitute x (number (pos (suc m))) (minus_infinity x f), atoms-map x f (suc m) bs)

-- so the size of the third stage is known before it is built
pub atoms-cooper : (m : ℕ) (bs : List Lin) (x : ℕ) (f : Form) → atoms (cooper m bs x f) ≡ m * (atoms (minus_infinity x f) + length bs * atoms f)
atoms-cooper m bs x f = atoms-some_of (cases_to x f bs m) ∙ atoms-cases m bs x f
