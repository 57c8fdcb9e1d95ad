-- The terms of the result of an elimination rise.
use Rattle.std.proofs.Common.{◌≡◌, ℕ, zero, suc, Bool, true, false, cond, List, [], ◌∷◌, ◌++◌, map, ℤ, pos, negsuc}
use Rattle.hs_elimination.proofs.Nesting.{each-some_of}
use Rattle.hs_elimination.proofs.Elimination.{AreUnits, minus_not_zero, units-stage2}
use Rattle.hs_elimination.proofs.Meaning.{AreRising, HasRising, RisesFrom, any_of}
use Rattle.hs_elimination.proofs.Plain.{rising-evaluate, rising-normal}
use Rattle.hs_elimination.proofs.Rising.{rises-merge, rises-scale, rises-without}
use Rattle.hs_elimination.proofs.Stage3.{rising-minus_infinity}
use Rattle.hs_elimination.specs.Cases.{cases_at, cases_to, cooper, has_lin, join_distinct, lower_bound, lower_bounds, minus_infinity, period, stage3, substitute, substitute_by}
use Rattle.hs_elimination.specs.Elimination.{eliminated, scaled_form}
use Rattle.hs_elimination.specs.Form.{Form, conjunction, const, disjunction, multiple, no_multiple, positive}
use Rattle.hs_elimination.specs.Linear.{coefficient, number, place, plus, rest, times}
use Rattle.hs_elimination.specs.Normal.{evaluate, normal}
use Rattle.hs_pure.specs.Assertion.{Assertion}
use Rattle.hs_pure.specs.declared.lin.Lin.{Lin}
use Rattle.hs_pure.specs.declared.var.Var.{Var}

abbrev AllRise : List Lin → Type 0
AllRise [] = Unit {0}
AllRise (t ∷ ts) = RisesFrom 0 t.terms × AllRise ts

suc_not_zero : (n : ℕ) → ¬ (pos (suc n) ≡ pos 0)
suc_not_zero n e = absurd cc

negsuc_not_zero : (n : ℕ) → ¬ (negsuc n ≡ pos 0)
negsuc_not_zero n e = absurd cc

rises-substitute_by : (c : ℤ) (u r : Lin) → RisesFrom 0 u.terms → RisesFrom 0 r.terms → RisesFrom 0 (substitute_by c u r).terms
rises-substitute_by (pos zero) u r h k = k
rises-substitute_by (pos (suc n)) u r h k = rises-merge 0 (times (pos (suc n)) u).terms r.terms (rises-scale 0 (pos (suc n)) u.terms (suc_not_zero n) h) k
rises-substitute_by (negsuc n) u r h k = rises-merge 0 (times (negsuc n) u).terms r.terms (rises-scale 0 (negsuc n) u.terms (negsuc_not_zero n) h) k

rising-substitute : (x : ℕ) (u : Lin) (f : Form) → RisesFrom 0 u.terms → AreRising f → AreRising (substitute x u f)
rising-substitute x u (const b) h r = tt
rising-substitute x u (positive t) h r = rises-substitute_by (coefficient x t.terms) u (rest x t) h (rises-without 0 x t.terms r)
rising-substitute x u (multiple d t) h r = rises-substitute_by (coefficient x t.terms) u (rest x t) h (rises-without 0 x t.terms r)
rising-substitute x u (no_multiple d t) h r = rises-substitute_by (coefficient x t.terms) u (rest x t) h (rises-without 0 x t.terms r)
rising-substitute x u (conjunction f g) h r = (rising-substitute x u f h r.0, rising-substitute x u g h r.1)
rising-substitute x u (disjunction f g) h r = (rising-substitute x u f h r.0, rising-substitute x u g h r.1)

all-append : (ts us : List Lin) → AllRise ts → AllRise us → AllRise (ts ++ us)
all-append [] us h k = k
all-append (t ∷ ts) us h k = (h.0, all-append ts us h.1 k)

all-lower_bound : (c : ℤ) (t : Lin) → RisesFrom 0 t.terms → AllRise (lower_bound c t)
all-lower_bound (pos zero) t h = tt
all-lower_bound (pos (suc n)) t h = (rises-scale 0 (negsuc 0) t.terms minus_not_zero h, tt)
all-lower_bound (negsuc n) t h = tt

all-lower_bounds : (x : ℕ) (f : Form) → AreRising f → AllRise (lower_bounds x f)
all-lower_bounds x (const b) r = tt
all-lower_bounds x (positive t) r = all-lower_bound (coefficient x t.terms) (rest x t) (rises-without 0 x t.terms r)
all-lower_bounds x (multiple d t) r = tt
all-lower_bounds x (no_multiple d t) r = tt
all-lower_bounds x (conjunction f g) r = all-append (lower_bounds x f) (lower_bounds x g) (all-lower_bounds x f r.0) (all-lower_bounds x g r.1)
all-lower_bounds x (disjunction f g) r = all-append (lower_bounds x f) (lower_bounds x g) (all-lower_bounds x f r.0) (all-lower_bounds x g r.1)

all-distinct : (done ts : List Lin) → AllRise done → AllRise ts → AllRise (join_distinct done ts)
all-distinct done [] h k = h
all-distinct done (t ∷ ts) h k = by_test (has_lin t done) (all-distinct done ts h k.1) (all-distinct (done ++ t ∷ []) ts (all-append done (t ∷ []) h (k.0, tt)) k.1)
  where
    by_test : (b : Bool) → AllRise (join_distinct done ts) → AllRise (join_distinct (done ++ t ∷ []) ts) → AllRise (join_distinct (cond b done (done ++ t ∷ [])) ts)
    by_test true p q = p
    by_test false p q = q

rising-append : (fs gs : List Form) → AreRising (any_of fs) → AreRising (any_of gs) → AreRising (any_of (fs ++ gs))
rising-append [] gs h k = k
rising-append (f ∷ fs) gs h k = (h.0, rising-append fs gs h.1 k)

rising-map : (x : ℕ) (f : Form) (j : ℕ) (bs : List Lin) → AllRise bs → AreRising f → AreRising (any_of (map (λ b. substitute x (plus b (number (pos j))) f) bs))
rising-map x f j [] h r = tt
rising-map x f j (b ∷ bs) h r = (rising-substitute x (plus b (number (pos j))) f (rises-merge 0 b.terms [] h.0 tt) r, rising-map x f j bs h.1 r)

rising-cases : (m : ℕ) (bs : List Lin) (x : ℕ) (f : Form) → AllRise bs → AreRising f → AreRising (any_of (cases_to x f bs m))
rising-cases zero bs x f h r = tt
rising-cases (suc m) bs x f h r =
    rising-append (cases_to x f bs m) (cases_at x f bs (suc m)) (rising-cases m bs x f h r)
    (rising-substitute x (number (pos (suc m))) (minus_infinity x f) tt (rising-minus_infinity x f r), rising-map x f (suc m) bs h r)

rising-cooper : (m : ℕ) (bs : List Lin) (x : ℕ) (f : Form) → AllRise bs → AreRising f → AreRising (cooper m bs x f)
rising-cooper m bs x f h r = each-some_of AreRising (λ f g p q. (p, q)) (λ f g p. p) (cases_to x f bs m) (rising-cases m bs x f h r)

rising-units : (x : ℕ) (f : Form) → AreUnits x f → AreRising f
rising-units x (const b) u = tt
rising-units x (positive t) u = u.0
rising-units x (multiple d t) u = u.0
rising-units x (no_multiple d t) u = u.0
rising-units x (conjunction f g) u = (rising-units x f u.0, rising-units x g u.1)
rising-units x (disjunction f g) u = (rising-units x f u.0, rising-units x g u.1)

pub rising-eliminated : (x : Var) (p : Assertion) → HasRising p → AreRising (eliminated x p)
rising-eliminated x p r =
    let f1 : AreRising (evaluate (normal true p)) = rising-evaluate (normal true p) (rising-normal true p r) in
    let f = evaluate (scaled_form x p) in
    let g : AreRising f = rising-evaluate (scaled_form x p) (rising-units (place x) (scaled_form x p) (units-stage2 x (evaluate (normal true p)) f1)) in
    rising-evaluate (stage3 x f) (rising-cooper (period (place x) f 1) (join_distinct [] (lower_bounds (place x) f)) (place x) f (all-distinct [] (lower_bounds (place x) f) tt (all-lower_bounds (place x) f g)) g)
