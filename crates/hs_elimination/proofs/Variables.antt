-- The variables of the stages: what holds of those of a formula and of x holds of those of each stage, and the result lacks x.
use Rattle.std.proofs.Common.{◌≡◌, ℕ, zero, suc, ◌/◌, ◌⊎◌, inl, inr, Bool, true, false, cond, eqb, eq-eqb, nat_lt, List, [], ◌∷◌, ◌++◌, refl, map, ℤ, pos, negsuc, ◌+ℤ◌}
use Rattle.std.specs.Ordering.{int_eq}
use Rattle.hs_pure.specs.declared.var.Var.{Var}
use Rattle.hs_pure.specs.declared.lin.Lin.{Lin}
use Rattle.hs_pure.specs.Assertion.{Assertion, truth, eq, lt, le, divides, bag_eq, subset, member, all_of, negation, both, either, exists, forall}
use Rattle.hs_elimination.specs.Linear.{place, plus, times, minus, merge, merge_one, prepend, scale_term, number, single, coefficient, without, rest}
use Rattle.hs_elimination.specs.Form.{Form, const, positive, multiple, no_multiple, conjunction, disjunction}
use Rattle.hs_elimination.specs.Normal.{less, at_most, divides_form, normal, evaluate_literal, both_of, either_of, evaluate}
use Rattle.hs_elimination.specs.Scaling.{scale_by, scale, stage2, multiplier}
use Rattle.hs_elimination.specs.Cases.{substitute_by, substitute, positive_below, minus_infinity, lower_bound, lower_bounds, has_lin, join_distinct, distinct_bounds, cases_at, cases_to, period, stage3}
use Rattle.hs_elimination.specs.Elimination.{eliminated, scaled_form}
use Rattle.hs_elimination.proofs.Meaning.{AllLins, any_of}
use Rattle.hs_elimination.proofs.Nesting.{each-some_of}

module _ (P : Var → Type 0) where
  -- each variable of the terms has it
  abbrev pub Each : List (Var × ℤ) → Type 0
  Each [] = Unit {0}
  Each (t ∷ ts) = P t.0 × Each ts

  abbrev pub EachIn : Lin → Type 0
  EachIn a = Each a.terms

  abbrev pub EachOf : Form → Type 0
  EachOf f = AllLins EachIn f

  each-prepend : (v : Var) (c : ℤ) (es : List (Var × ℤ)) → P v → Each es → Each (prepend v c es)
  each-prepend v c es h k = by_zero (int_eq c (pos 0))
    where
      by_zero : (z : Bool) → Each (cond z es ((v, c) ∷ es))
      by_zero true = k
      by_zero false = (h, k)

  each-merge_one : (v : Var) (c : ℤ) (more : List (Var × ℤ) → List (Var × ℤ)) → P v → ((gs : List (Var × ℤ)) → Each gs → Each (more gs)) → (fs : List (Var × ℤ)) → Each fs → Each (merge_one v c more fs)
  each-merge_one v c more h m [] k = (h, m [] tt)
  each-merge_one v c more h m (e ∷ es) k = by_tests (each-merge_one v c more h m es k.1) (nat_lt (place v) (place e.0)) (nat_lt (place e.0) (place v))
    where
      by_tests : Each (merge_one v c more es) → (p q : Bool) → Each (cond p ((v, c) ∷ more (e ∷ es)) (cond q (e ∷ merge_one v c more es) (prepend v (c +ℤ e.1) (more es))))
      by_tests ih true q = (h, m (e ∷ es) k)
      by_tests ih false true = (k.0, ih)
      by_tests ih false false = each-prepend v (c +ℤ e.1) (more es) h (m es k.1)

  pub each-merge : (es fs : List (Var × ℤ)) → Each es → Each fs → Each (merge es fs)
  each-merge [] fs h k = k
  each-merge (e ∷ es) fs h k = each-merge_one e.0 e.1 (merge es) h.0 (λ gs g. each-merge es gs h.1 g) fs k

  pub each-scale : (k : ℤ) (es : List (Var × ℤ)) → Each es → Each (map (scale_term k) es)
  each-scale k [] h = tt
  each-scale k (e ∷ es) h = (h.0, each-scale k es h.1)

  each-without : (x : ℕ) (es : List (Var × ℤ)) → Each es → Each (without x es)
  each-without x [] h = tt
  each-without x (e ∷ es) h = by_test (each-without x es h.1) (eqb (place e.0) x)
    where
      by_test : Each (without x es) → (b : Bool) → Each (cond b (without x es) (e ∷ without x es))
      by_test ih true = ih
      by_test ih false = (h.0, ih)

  -- ---- the first stage

  abbrev pub EachOfAssertion : Assertion → Type 0
  EachOfAssertion truth = Unit {0}
  EachOfAssertion (eq a b) = EachIn a × EachIn b
  EachOfAssertion (lt a b) = EachIn a × EachIn b
  EachOfAssertion (le a b) = EachIn a × EachIn b
  EachOfAssertion (divides d a) = EachIn a
  EachOfAssertion (bag_eq a b) = Unit {0}
  EachOfAssertion (subset a b) = Unit {0}
  EachOfAssertion (member a b) = Unit {0}
  EachOfAssertion (all_of u b p) = Unit {0}
  EachOfAssertion (negation p) = EachOfAssertion p
  EachOfAssertion (both p q) = EachOfAssertion p × EachOfAssertion q
  EachOfAssertion (either p q) = EachOfAssertion p × EachOfAssertion q
  EachOfAssertion (exists u p) = EachOfAssertion p
  EachOfAssertion (forall u p) = EachOfAssertion p

  each-less : (a b : Lin) → EachIn a → EachIn b → EachOf (less a b)
  each-less a b h k = each-merge (times (negsuc 0) a).terms b.terms (each-scale (negsuc 0) a.terms h) k

  each-at_most : (a b : Lin) → EachIn a → EachIn b → EachOf (at_most a b)
  each-at_most a b h k = each-merge (minus b a).terms [] (each-less a b h k) tt

  each-divides : (b : Bool) (d : ℤ) (t : Lin) → EachIn t → EachOf (divides_form b d t)
  each-divides b (pos zero) t r = tt
  each-divides true (pos (suc n)) t r = r
  each-divides false (pos (suc n)) t r = r
  each-divides b (negsuc n) t r = tt

  pub each-normal : (b : Bool) (p : Assertion) → EachOfAssertion p → EachOf (normal b p)
  each-normal b truth r = tt
  each-normal true (eq t u) r = (each-at_most t u r.0 r.1, each-at_most u t r.1 r.0)
  each-normal false (eq t u) r = (each-less t u r.0 r.1, each-less u t r.1 r.0)
  each-normal true (lt t u) r = each-less t u r.0 r.1
  each-normal false (lt t u) r = each-at_most u t r.1 r.0
  each-normal true (le t u) r = each-at_most t u r.0 r.1
  each-normal false (le t u) r = each-less u t r.1 r.0
  each-normal true (divides d t) r = each-divides true d t r
  each-normal false (divides d t) r = each-divides false d t r
  each-normal true (bag_eq a c) r = tt
  each-normal false (bag_eq a c) r = tt
  each-normal true (subset a c) r = tt
  each-normal false (subset a c) r = tt
  each-normal true (member a c) r = tt
  each-normal false (member a c) r = tt
  each-normal true (all_of u a p) r = tt
  each-normal false (all_of u a p) r = tt
  each-normal true (negation p) r = each-normal false p r
  each-normal false (negation p) r = each-normal true p r
  each-normal true (both p q) r = (each-normal true p r.0, each-normal true q r.1)
  each-normal false (both p q) r = (each-normal false p r.0, each-normal false q r.1)
  each-normal true (either p q) r = (each-normal true p r.0, each-normal true q r.1)
  each-normal false (either p q) r = (each-normal false p r.0, each-normal false q r.1)
  each-normal true (exists u p) r = tt
  each-normal false (exists u p) r = tt
  each-normal true (forall u p) r = tt
  each-normal false (forall u p) r = tt

-- ---- literals without variables, for any property of sums

module _ (P : Lin → Type 0) where
  literal-all : (es : List (Var × ℤ)) (b : Bool) (f : Form) → AllLins P f → AllLins P (evaluate_literal es b f)
  literal-all [] b f h = tt
  literal-all (e ∷ es) b f h = h

  both_of-all : (f g : Form) → AllLins P f → AllLins P g → AllLins P (both_of f g)
  both_of-all (const true) g h k = k
  both_of-all (const false) g h k = tt
  both_of-all f (const true) h k = h
  both_of-all f (const false) h k = tt
  both_of-all f g h k = (h, k)

  either_of-all : (f g : Form) → AllLins P f → AllLins P g → AllLins P (either_of f g)
  either_of-all (const false) g h k = k
  either_of-all (const true) g h k = tt
  either_of-all f (const false) h k = h
  either_of-all f (const true) h k = tt
  either_of-all f g h k = (h, k)

  pub evaluate-all : (f : Form) → AllLins P f → AllLins P (evaluate f)
  evaluate-all (const b) h = tt
  evaluate-all (positive t) h = literal-all t.terms _ (positive t) h
  evaluate-all (multiple d t) h = literal-all t.terms _ (multiple d t) h
  evaluate-all (no_multiple d t) h = literal-all t.terms _ (no_multiple d t) h
  evaluate-all (conjunction f g) h = both_of-all _ _ (evaluate-all f h.0) (evaluate-all g h.1)
  evaluate-all (disjunction f g) h = either_of-all _ _ (evaluate-all f h.0) (evaluate-all g h.1)

  minus_infinity-all : (x : ℕ) (f : Form) → AllLins P f → AllLins P (minus_infinity x f)
  minus_infinity-all x (const b) h = tt
  minus_infinity-all x (positive t) h = by_sign (coefficient x t.terms)
    where
      by_sign : (c : ℤ) → AllLins P (positive_below c t)
      by_sign (pos zero) = h
      by_sign (pos (suc n)) = tt
      by_sign (negsuc n) = tt
  minus_infinity-all x (multiple d t) h = h
  minus_infinity-all x (no_multiple d t) h = h
  minus_infinity-all x (conjunction f g) h = (minus_infinity-all x f h.0, minus_infinity-all x g h.1)
  minus_infinity-all x (disjunction f g) h = (minus_infinity-all x f h.0, minus_infinity-all x g h.1)

  pub all-weaker : (Q : Lin → Type 0) → ((t : Lin) → P t → Q t) → (f : Form) → AllLins P f → AllLins Q f
  all-weaker Q h (const b) k = tt
  all-weaker Q h (positive t) k = h t k
  all-weaker Q h (multiple d t) k = h t k
  all-weaker Q h (no_multiple d t) k = h t k
  all-weaker Q h (conjunction f g) k = (all-weaker Q h f k.0, all-weaker Q h g k.1)
  all-weaker Q h (disjunction f g) k = (all-weaker Q h f k.0, all-weaker Q h g k.1)

  pub all-everywhere : ((t : Lin) → P t) → (f : Form) → AllLins P f
  all-everywhere h (const b) = tt
  all-everywhere h (positive t) = h t
  all-everywhere h (multiple d t) = h t
  all-everywhere h (no_multiple d t) = h t
  all-everywhere h (conjunction f g) = (all-everywhere h f, all-everywhere h g)
  all-everywhere h (disjunction f g) = (all-everywhere h f, all-everywhere h g)

module _ (P : Var → Type 0) where
  -- ---- the second stage

  each-scale_by : (l : ℕ) (x : Var) (c : ℤ) (t : Lin) → P x → EachIn P t → EachIn P (scale_by l x c (rest (place x) t) t)
  each-scale_by l x (pos zero) t h k = k
  each-scale_by l x (pos (suc n)) t h k = each-merge P (single x (pos 1)).terms _ (h, tt) (each-scale P (pos (l / suc n)) (without (place x) t.terms) (each-without P (place x) t.terms k))
  each-scale_by l x (negsuc n) t h k = each-merge P (single x (negsuc 0)).terms _ (h, tt) (each-scale P (pos (l / suc n)) (without (place x) t.terms) (each-without P (place x) t.terms k))

  each-scaled : (l : ℕ) (x : Var) (f : Form) → P x → EachOf P f → EachOf P (scale l x f)
  each-scaled l x (const b) h k = tt
  each-scaled l x (positive t) h k = each-scale_by l x (coefficient (place x) t.terms) t h k
  each-scaled l x (multiple d t) h k = each-scale_by l x (coefficient (place x) t.terms) t h k
  each-scaled l x (no_multiple d t) h k = each-scale_by l x (coefficient (place x) t.terms) t h k
  each-scaled l x (conjunction f g) h k = (each-scaled l x f h k.0, each-scaled l x g h k.1)
  each-scaled l x (disjunction f g) h k = (each-scaled l x f h k.0, each-scaled l x g h k.1)

  pub each-stage2 : (x : Var) (f : Form) → P x → EachOf P f → EachOf P (stage2 x f)
  each-stage2 x f h k = (each-scaled (multiplier (place x) f 1) x f h k, (h, tt))

  -- ---- the third stage: each variable but x has it

  abbrev pub EachRest : ℕ → Form → Type 0
  EachRest x f = AllLins (λ t. Each P (without x t.terms)) f

  each-substitute_by : (c : ℤ) (u r : Lin) → EachIn P u → EachIn P r → EachIn P (substitute_by c u r)
  each-substitute_by (pos zero) u r h k = k
  each-substitute_by (pos (suc n)) u r h k = each-merge P _ _ (each-scale P (pos (suc n)) u.terms h) k
  each-substitute_by (negsuc n) u r h k = each-merge P _ _ (each-scale P (negsuc n) u.terms h) k

  each-substitute : (x : ℕ) (u : Lin) (f : Form) → EachIn P u → EachRest x f → EachOf P (substitute x u f)
  each-substitute x u (const b) h k = tt
  each-substitute x u (positive t) h k = each-substitute_by (coefficient x t.terms) u (rest x t) h k
  each-substitute x u (multiple d t) h k = each-substitute_by (coefficient x t.terms) u (rest x t) h k
  each-substitute x u (no_multiple d t) h k = each-substitute_by (coefficient x t.terms) u (rest x t) h k
  each-substitute x u (conjunction f g) h k = (each-substitute x u f h k.0, each-substitute x u g h k.1)
  each-substitute x u (disjunction f g) h k = (each-substitute x u f h k.0, each-substitute x u g h k.1)

  abbrev EachBound : List Lin → Type 0
  EachBound [] = Unit {0}
  EachBound (t ∷ ts) = EachIn P t × EachBound ts

  all-append : (ts us : List Lin) → EachBound ts → EachBound us → EachBound (ts ++ us)
  all-append [] us h k = k
  all-append (t ∷ ts) us h k = (h.0, all-append ts us h.1 k)

  all-lower_bound : (c : ℤ) (t : Lin) → EachIn P t → EachBound (lower_bound c t)
  all-lower_bound (pos zero) t h = tt
  all-lower_bound (pos (suc n)) t h = (each-scale P (negsuc 0) t.terms h, tt)
  all-lower_bound (negsuc n) t h = tt

  all-lower_bounds : (x : ℕ) (f : Form) → EachRest x f → EachBound (lower_bounds x f)
  all-lower_bounds x (const b) h = tt
  all-lower_bounds x (positive t) h = all-lower_bound (coefficient x t.terms) (rest x t) h
  all-lower_bounds x (multiple d t) h = tt
  all-lower_bounds x (no_multiple d t) h = tt
  all-lower_bounds x (conjunction f g) h = all-append (lower_bounds x f) (lower_bounds x g) (all-lower_bounds x f h.0) (all-lower_bounds x g h.1)
  all-lower_bounds x (disjunction f g) h = all-append (lower_bounds x f) (lower_bounds x g) (all-lower_bounds x f h.0) (all-lower_bounds x g h.1)

  all-distinct : (done ts : List Lin) → EachBound done → EachBound ts → EachBound (join_distinct done ts)
  all-distinct done [] h k = h
  all-distinct done (t ∷ ts) h k = by_test (has_lin t done) (all-distinct done ts h k.1) (all-distinct (done ++ t ∷ []) ts (all-append done (t ∷ []) h (k.0, tt)) k.1)
    where
      by_test : (b : Bool) → EachBound (join_distinct done ts) → EachBound (join_distinct (done ++ t ∷ []) ts) → EachBound (join_distinct (cond b done (done ++ t ∷ [])) ts)
      by_test true p q = p
      by_test false p q = q

  each-append : (fs gs : List Form) → EachOf P (any_of fs) → EachOf P (any_of gs) → EachOf P (any_of (fs ++ gs))
  each-append [] gs h k = k
  each-append (f ∷ fs) gs h k = (h.0, each-append fs gs h.1 k)

  each-map : (x : ℕ) (f : Form) (j : ℕ) (bs : List Lin) → EachBound bs → EachRest x f → EachOf P (any_of (map (λ b. substitute x (plus b (number (pos j))) f) bs))
  each-map x f j [] h k = tt
  each-map x f j (b ∷ bs) h k = (each-substitute x (plus b (number (pos j))) f (each-merge P b.terms [] h.0 tt) k, each-map x f j bs h.1 k)

  each-cases : (m : ℕ) (bs : List Lin) (x : ℕ) (f : Form) → EachBound bs → EachRest x f → EachOf P (any_of (cases_to x f bs m))
  each-cases zero bs x f h k = tt
  each-cases (suc m) bs x f h k =
      each-append (cases_to x f bs m) (cases_at x f bs (suc m)) (each-cases m bs x f h k)
      (each-substitute x (number (pos (suc m))) (minus_infinity x f) tt (minus_infinity-all (λ t. Each P (without x t.terms)) x f k), each-map x f (suc m) bs h k)

  pub each-stage3 : (x : Var) (f : Form) → EachRest (place x) f → EachOf P (stage3 x f)
  each-stage3 x f h =
      each-some_of (EachOf P) (λ f g p q. (p, q)) (λ f g p. p) (cases_to (place x) f (distinct_bounds (place x) f) (period (place x) f 1))
      (each-cases (period (place x) f 1) (distinct_bounds (place x) f) (place x) f (all-distinct [] (lower_bounds (place x) f) tt (all-lower_bounds (place x) f h)) h)

-- ---- x is gone

abbrev pub IsOther : ℕ → Var → Type 0
IsOther x v = ¬ (place v ≡ x)

pub lacks-without : (x : ℕ) (es : List (Var × ℤ)) → Each (IsOther x) (without x es)
lacks-without x [] = tt
lacks-without x (e ∷ es) = by_test (lacks-without x es) (eqb (place e.0) x) refl
  where
    by_test : Each (IsOther x) (without x es) → (b : Bool) → eqb (place e.0) x ≡ b → Each (IsOther x) (cond b (without x es) (e ∷ without x es))
    by_test ih true is = ih
    by_test ih false is = (λ same. let q : eqb (place e.0) x ≡ true = eq-eqb (place e.0) x same in cc, ih)

pub lacks-eliminated : (x : Var) (p : Assertion) → EachOf (IsOther (place x)) (eliminated x p)
lacks-eliminated x p =
    let f = evaluate (scaled_form x p) in
    evaluate-all (EachIn (IsOther (place x))) (stage3 x f) (each-stage3 (IsOther (place x)) x f
    (all-everywhere (λ t. Each (IsOther (place x)) (without (place x) t.terms)) (λ t. lacks-without (place x) t.terms) f))

-- ---- what holds of each variable of the formula holds of each variable of the result

module _ (P : Var → Type 0) where
  abbrev Or : ℕ → Var → Type 0
  Or x v = P v ⊎ (place v ≡ x)

  each-or : (x : ℕ) (es : List (Var × ℤ)) → Each (Or x) es → Each P (without x es)
  each-or x [] h = tt
  each-or x (e ∷ es) h = by_test (each-or x es h.1) (eqb (place e.0) x) refl h.0
    where
      by_test : Each P (without x es) → (b : Bool) → eqb (place e.0) x ≡ b → Or x e.0 → Each P (cond b (without x es) (e ∷ without x es))
      by_test ih true is k = ih
      by_test ih false is (inl k) = (k, ih)
      by_test ih false is (inr k) = let q : eqb (place e.0) x ≡ true = eq-eqb (place e.0) x k in absurd cc

  each-left : (x : ℕ) (es : List (Var × ℤ)) → Each P es → Each (Or x) es
  each-left x [] h = tt
  each-left x (e ∷ es) h = (inl h.0, each-left x es h.1)

  pub each-eliminated : (x : Var) (p : Assertion) → EachOfAssertion P p → EachOf P (eliminated x p)
  each-eliminated x p h =
      let n = place x in
      let one : EachOf P (evaluate (normal true p)) = evaluate-all (EachIn P) (normal true p) (each-normal P true p h) in
      let two : EachOf (Or n) (stage2 x (evaluate (normal true p))) = each-stage2 (Or n) x (evaluate (normal true p)) (inr refl) (all-weaker (EachIn P) (EachIn (Or n)) (λ t. each-left n t.terms) (evaluate (normal true p)) one) in
      let f = evaluate (scaled_form x p) in
      let rest_is : EachRest P n f = all-weaker (EachIn (Or n)) (λ t. Each P (without n t.terms)) (λ t. each-or n t.terms) f (evaluate-all (EachIn (Or n)) (scaled_form x p) two) in
      evaluate-all (EachIn P) (stage3 x f) (each-stage3 P x f rest_is)
