-- Stage 3 keeps truth.
use Rattle.std.proofs.Common.{◌≡◌, ℕ, zero, suc, ◌<◌, ◌≤◌, ◌⊎◌, inl, inr, ◌↔◌, false, IsTrue, List, [], ◌∷◌, ◌++◌, length, slice_index_or, refl, sym, ap, ◌∙◌, subst, arith, map, ℤ, pos, negsuc, ◌+ℤ◌, ◌*ℤ◌, neg_ℤ, ◌<ℤ◌}
use Rattle.std.proofs.lemmas.Int.{ints}
use Rattle.std.specs.List.{Contains}
use Rattle.std.proofs.lemmas.Bool.{cases_lt}
use Rattle.hs_elimination.proofs.Nesting.{holds-some_of}
use Rattle.hs_elimination.proofs.Univariate as U
use Rattle.hs_elimination.proofs.Cooper as C
use Rattle.hs_elimination.proofs.Integers.{mul-neg_left}
use Rattle.hs_elimination.proofs.Meaning.{AreRising, Assignment, Holds, IsMultipleOf, IsScaled, IsUnit, RisesFrom, any_of, assign, value}
use Rattle.hs_elimination.proofs.Univariate.{Divides}
use Rattle.hs_elimination.proofs.Values.{value-assign, value-plus, value-substitute, value-times}
use Rattle.hs_elimination.specs.Cases.{cases_at, cases_to, cooper, lower_bound, lower_bounds, minus_infinity, positive_below, substitute}
use Rattle.hs_elimination.specs.Form.{Form, conjunction, const, disjunction, multiple, no_multiple, positive}
use Rattle.hs_elimination.specs.Linear.{coefficient, number, plus, rest, times}
use Rattle.hs_pure.specs.declared.lin.Lin.{Lin}

-- ---- substitution
pub holds-substitute : (s : Assignment) (x : ℕ) (u : Lin) (f : Form) → AreRising f → Holds s (substitute x u f) ↔ Holds (assign s x (value s u)) f
holds-substitute s x u (const b) r = (λ p. p, λ p. p)
holds-substitute s x u (positive t) r = let e = value-substitute s x u t r in (λ p. subst (λ z. pos 0 <ℤ z) e p, λ p. subst (λ z. pos 0 <ℤ z) (sym e) p)
holds-substitute s x u (multiple d t) r = let e = value-substitute s x u t r in (λ p. subst (Divides d) e p, λ p. subst (Divides d) (sym e) p)
holds-substitute s x u (no_multiple d t) r = let e = value-substitute s x u t r in (λ p q. p (subst (Divides d) (sym e) q), λ p q. p (subst (Divides d) e q))
holds-substitute s x u (conjunction f g) r =
    let l = holds-substitute s x u f r.0 in
    let k = holds-substitute s x u g r.1 in
    (λ p. (l.0 p.0, k.0 p.1), λ p. (l.1 p.0, k.1 p.1))
holds-substitute s x u (disjunction f g) r =
    let l = holds-substitute s x u f r.0 in
    let k = holds-substitute s x u g r.1 in
    (λ p. elim p [ inl a ↦ inl (l.0 a) | inr b ↦ inr (k.0 b) ], λ p. elim p [ inl a ↦ inl (l.1 a) | inr b ↦ inr (k.1 b) ])

-- ---- the formula in x single
unfoldable pub literal_positive : ℤ → ℤ → U.Form
literal_positive (pos zero) r = U.const (pos 0 <ℤ r)
literal_positive (pos (suc n)) r = U.above (neg_ℤ r)
literal_positive (negsuc n) r = U.below r

unfoldable pub literal_multiple : ℕ → ℤ → ℤ → U.Form
literal_multiple d (pos zero) r = U.const (Divides d r)
literal_multiple d (pos (suc n)) r = U.multiple d r
literal_multiple d (negsuc n) r = U.multiple d (neg_ℤ r)

unfoldable pub literal_no_multiple : ℕ → ℤ → ℤ → U.Form
literal_no_multiple d (pos zero) r = U.const (¬ (Divides d r))
literal_no_multiple d (pos (suc n)) r = U.no_multiple d r
literal_no_multiple d (negsuc n) r = U.no_multiple d (neg_ℤ r)

unfoldable pub univariate : Assignment → ℕ → Form → U.Form
univariate s x (const b) = U.const (IsTrue b)
univariate s x (positive t) = literal_positive (coefficient x t.terms) (value s (rest x t))
univariate s x (multiple d t) = literal_multiple d (coefficient x t.terms) (value s (rest x t))
univariate s x (no_multiple d t) = literal_no_multiple d (coefficient x t.terms) (value s (rest x t))
univariate s x (conjunction f g) = U.both (univariate s x f) (univariate s x g)
univariate s x (disjunction f g) = U.either (univariate s x f) (univariate s x g)

at_zero : (y r : ℤ) → pos 0 *ℤ y +ℤ r ≡ r
at_zero y r = omega (arith, ints)

above_is : (y r : ℤ) → (pos 0 <ℤ (pos 1 *ℤ y +ℤ r)) ↔ (neg_ℤ r <ℤ y)
above_is y r = (λ p. omega (arith, ints), λ p. omega (arith, ints))

below_is : (y r : ℤ) → (pos 0 <ℤ (negsuc 0 *ℤ y +ℤ r)) ↔ (y <ℤ r)
below_is y r = (λ p. omega (arith, ints), λ p. omega (arith, ints))

one_times : (y r : ℤ) → pos 1 *ℤ y +ℤ r ≡ y +ℤ r
one_times y r = omega (arith, ints)

opposite : (y r : ℤ) → negsuc 0 *ℤ y +ℤ r ≡ neg_ℤ (y +ℤ neg_ℤ r)
opposite y r = omega (arith, ints)

divides_neg : (d : ℕ) (z : ℤ) → Divides d z → Divides d (neg_ℤ z)
divides_neg d z h = (neg_ℤ h.0, ap neg_ℤ h.1 ∙ sym (mul-neg_left h.0 (pos d)))

neg_neg : (z : ℤ) → neg_ℤ (neg_ℤ z) ≡ z
neg_neg z = omega (arith, ints)

divides_opposite : (d : ℕ) (y r : ℤ) → Divides d (negsuc 0 *ℤ y +ℤ r) ↔ Divides d (y +ℤ neg_ℤ r)
divides_opposite d y r = (
  λ p. subst (Divides d) (neg_neg (y +ℤ neg_ℤ r)) (divides_neg d _ (subst (Divides d) (opposite y r) p)),
  λ p. subst (Divides d) (sym (opposite y r)) (divides_neg d _ p),
)

same : (Q : ℤ → Type 0) (a b : ℤ) → a ≡ b → Q a ↔ Q b
same Q a b e = (subst Q e, subst Q (sym e))

by_unit : (P : ℤ → Type 0) → P (pos 0) → P (pos 1) → P (negsuc 0) → (c : ℤ) → IsUnit c → P c
by_unit P a b d c (inl e) = subst P (sym e) a
by_unit P a b d c (inr (inl e)) = subst P (sym e) b
by_unit P a b d c (inr (inr e)) = subst P (sym e) d

holds-literal_positive : (c y r : ℤ) → IsUnit c → (pos 0 <ℤ (c *ℤ y +ℤ r)) ↔ U.Holds y (literal_positive c r)
unfolding literal_positive
holds-literal_positive c y r u =
    by_unit (λ c. (pos 0 <ℤ (c *ℤ y +ℤ r)) ↔ U.Holds y (literal_positive c r)) (same (λ z. pos 0 <ℤ z) _ _ (at_zero y r)) (above_is y r) (below_is y r) c u

holds-literal_multiple : (d : ℕ) (c y r : ℤ) → IsUnit c → Divides d (c *ℤ y +ℤ r) ↔ U.Holds y (literal_multiple d c r)
unfolding literal_multiple
holds-literal_multiple d c y r u =
    by_unit (λ c. Divides d (c *ℤ y +ℤ r) ↔ U.Holds y (literal_multiple d c r)) (same (Divides d) _ _ (at_zero y r)) (same (Divides d) _ _ (one_times y r)) (divides_opposite d y r) c u

not-iff : {P Q : Type 0} → P ↔ Q → (¬ P) ↔ (¬ Q)
not-iff e = (λ n q. n (e.1 q), λ n p. n (e.0 p))

holds-literal_no_multiple : (d : ℕ) (c y r : ℤ) → IsUnit c → (¬ (Divides d (c *ℤ y +ℤ r))) ↔ U.Holds y (literal_no_multiple d c r)
unfolding literal_no_multiple
holds-literal_no_multiple d c y r u =
    by_unit (λ c. (¬ (Divides d (c *ℤ y +ℤ r))) ↔ U.Holds y (literal_no_multiple d c r)) (not-iff (same (Divides d) _ _ (at_zero y r))) (not-iff (same (Divides d) _ _ (one_times y r))) (not-iff (divides_opposite d y r)) c u

iff-trans : {P Q R : Type 0} → P ↔ Q → Q ↔ R → P ↔ R
iff-trans a b = (λ p. b.0 (a.0 p), λ r. a.1 (b.1 r))

pub holds-univariate : (m : ℕ) (s : Assignment) (x : ℕ) (y : ℤ) (f : Form) → IsScaled m x f → Holds (assign s x y) f ↔ U.Holds y (univariate s x f)
unfolding univariate
holds-univariate m s x y (const b) u = (λ p. p, λ p. p)
holds-univariate m s x y (positive t) u = iff-trans (same (λ z. pos 0 <ℤ z) _ _ (value-assign s x y t u.0)) (holds-literal_positive (coefficient x t.terms) y (value s (rest x t)) u.1)
holds-univariate m s x y (multiple d t) u = iff-trans (same (Divides d) _ _ (value-assign s x y t u.0)) (holds-literal_multiple d (coefficient x t.terms) y (value s (rest x t)) u.1)
holds-univariate m s x y (no_multiple d t) u = iff-trans (not-iff (same (Divides d) _ _ (value-assign s x y t u.0))) (holds-literal_no_multiple d (coefficient x t.terms) y (value s (rest x t)) u.1)
holds-univariate m s x y (conjunction f g) u =
    let l = holds-univariate m s x y f u.0 in
    let r = holds-univariate m s x y g u.1 in
    (λ p. (l.0 p.0, r.0 p.1), λ p. (l.1 p.0, r.1 p.1))
holds-univariate m s x y (disjunction f g) u =
    let l = holds-univariate m s x y f u.0 in
    let r = holds-univariate m s x y g u.1 in
    (λ p. elim p [ inl a ↦ inl (l.0 a) | inr b ↦ inr (r.0 b) ], λ p. elim p [ inl a ↦ inl (l.1 a) | inr b ↦ inr (r.1 b) ])

-- ---- the divisors of the formula in x single
divide_literal_positive : (m : ℕ) (c r : ℤ) → U.DivisorsDivide m (literal_positive c r)
unfolding literal_positive
divide_literal_positive m (pos zero) r = tt
divide_literal_positive m (pos (suc n)) r = tt
divide_literal_positive m (negsuc n) r = tt

divide_literal_multiple : (m d : ℕ) (c r : ℤ) → IsMultipleOf m d c → U.DivisorsDivide m (literal_multiple d c r)
unfolding literal_multiple
divide_literal_multiple m d (pos zero) r h = tt
divide_literal_multiple m d (pos (suc n)) r h = h
divide_literal_multiple m d (negsuc n) r h = h

divide_literal_no_multiple : (m d : ℕ) (c r : ℤ) → IsMultipleOf m d c → U.DivisorsDivide m (literal_no_multiple d c r)
unfolding literal_no_multiple
divide_literal_no_multiple m d (pos zero) r h = tt
divide_literal_no_multiple m d (pos (suc n)) r h = h
divide_literal_no_multiple m d (negsuc n) r h = h

pub divisors : (m : ℕ) (s : Assignment) (x : ℕ) (f : Form) → IsScaled m x f → U.DivisorsDivide m (univariate s x f)
unfolding univariate
divisors m s x (const b) u = tt
divisors m s x (positive t) u = divide_literal_positive m (coefficient x t.terms) (value s (rest x t))
divisors m s x (multiple d t) u = divide_literal_multiple m d (coefficient x t.terms) (value s (rest x t)) u.2
divisors m s x (no_multiple d t) u = divide_literal_no_multiple m d (coefficient x t.terms) (value s (rest x t)) u.2
divisors m s x (conjunction f g) u = (divisors m s x f u.0, divisors m s x g u.1)
divisors m s x (disjunction f g) u = (divisors m s x f u.0, divisors m s x g u.1)

-- ---- the minus-infinity form
not_false : {X : Type 0} → IsTrue false → X
not_false p = absurd cc

below-literal : (s : Assignment) (x : ℕ) (y : ℤ) (t : Lin) (c : ℤ) → RisesFrom 0 t.terms → coefficient x t.terms ≡ c → Holds (assign s x y) (positive_below c t) ↔ U.Holds y (U.minus_infinity (literal_positive c (value s (rest x t))))
unfolding literal_positive
below-literal s x y t (pos zero) r e = same (λ z. pos 0 <ℤ z) _ _ (value-assign s x y t r ∙ ap (λ c. c *ℤ y +ℤ value s (rest x t)) e ∙ at_zero y (value s (rest x t)))
below-literal s x y t (pos (suc n)) r e = (λ p. not_false p, λ p. absurd p)
below-literal s x y t (negsuc n) r e = (λ p. tt, λ p. refl)

periodic-multiple : (d : ℕ) (y c r : ℤ) → U.Holds y (literal_multiple d c r) ↔ U.Holds y (U.minus_infinity (literal_multiple d c r))
unfolding literal_multiple
periodic-multiple d y (pos zero) r = (λ p. p, λ p. p)
periodic-multiple d y (pos (suc n)) r = (λ p. p, λ p. p)
periodic-multiple d y (negsuc n) r = (λ p. p, λ p. p)

periodic-no_multiple : (d : ℕ) (y c r : ℤ) → U.Holds y (literal_no_multiple d c r) ↔ U.Holds y (U.minus_infinity (literal_no_multiple d c r))
unfolding literal_no_multiple
periodic-no_multiple d y (pos zero) r = (λ p. p, λ p. p)
periodic-no_multiple d y (pos (suc n)) r = (λ p. p, λ p. p)
periodic-no_multiple d y (negsuc n) r = (λ p. p, λ p. p)

pub holds-minus_infinity : (m : ℕ) (s : Assignment) (x : ℕ) (y : ℤ) (f : Form) → IsScaled m x f → Holds (assign s x y) (minus_infinity x f) ↔ U.Holds y (U.minus_infinity (univariate s x f))
unfolding univariate
holds-minus_infinity m s x y (const b) u = (λ p. p, λ p. p)
holds-minus_infinity m s x y (positive t) u = below-literal s x y t (coefficient x t.terms) u.0 refl
holds-minus_infinity m s x y (multiple d t) u = iff-trans (holds-univariate m s x y (multiple d t) u) (periodic-multiple d y (coefficient x t.terms) (value s (rest x t)))
holds-minus_infinity m s x y (no_multiple d t) u = iff-trans (holds-univariate m s x y (no_multiple d t) u) (periodic-no_multiple d y (coefficient x t.terms) (value s (rest x t)))
holds-minus_infinity m s x y (conjunction f g) u =
    let l = holds-minus_infinity m s x y f u.0 in
    let r = holds-minus_infinity m s x y g u.1 in
    (λ p. (l.0 p.0, r.0 p.1), λ p. (l.1 p.0, r.1 p.1))
holds-minus_infinity m s x y (disjunction f g) u =
    let l = holds-minus_infinity m s x y f u.0 in
    let r = holds-minus_infinity m s x y g u.1 in
    (λ p. elim p [ inl a ↦ inl (l.0 a) | inr b ↦ inr (r.0 b) ], λ p. elim p [ inl a ↦ inl (l.1 a) | inr b ↦ inr (r.1 b) ])

-- ---- lists of terms and of formulas
pub contains_head : {X : Type 0} (x : X) (xs : List X) → Contains (x ∷ xs) x
contains_head x xs = (0, omega arith, refl)

pub contains_tail : {X : Type 0} (y x : X) (xs : List X) → Contains xs x → Contains (y ∷ xs) x
contains_tail y x xs h = (suc h.0, omega arith, h.2)

pub contains_cases : {X : Type 0} (y x : X) (xs : List X) → Contains (y ∷ xs) x → (y ≡ x) ⊎ Contains xs x
contains_cases y x xs h = by_index h.0 h.1 h.2
  where
    by_index : (k : ℕ) → k < length (y ∷ xs) → slice_index_or (y ∷ xs) k x ≡ x → (y ≡ x) ⊎ Contains xs x
    by_index zero p q = inl q
    by_index (suc k) p q = inr (k, omega arith, q)

pub contains_none : {X Y : Type 0} (x : X) → Contains [] x → Y
contains_none x h = let p : h.0 < 0 = h.1 in absurd (omega arith)

any_of-append : (s : Assignment) (fs gs : List Form) → Holds s (any_of (fs ++ gs)) ↔ (Holds s (any_of fs) ⊎ Holds s (any_of gs))
any_of-append s [] gs = (λ p. inr p, λ p. elim p [ inl a ↦ not_false a | inr b ↦ b ])
any_of-append s (f ∷ fs) gs = step (any_of-append s fs gs)
  where
    step : Holds s (any_of (fs ++ gs)) ↔ (Holds s (any_of fs) ⊎ Holds s (any_of gs)) → Holds s (any_of ((f ∷ fs) ++ gs)) ↔ (Holds s (any_of (f ∷ fs)) ⊎ Holds s (any_of gs))
    step ih = (
      λ p. elim p [ inl a ↦ inl (inl a) | inr b ↦ elim (ih.0 b) [ inl l ↦ inl (inr l) | inr r ↦ inr r ] ],
      λ p. elim p [ inl a ↦ elim a [ inl l ↦ inl l | inr r ↦ inr (ih.1 (inl r)) ] | inr b ↦ inr (ih.1 (inr b)) ],
    )

pub any_of-map_in : (s : Assignment) (g : Lin → Form) (ts : List Lin) → Holds s (any_of (map g ts)) → (t : Lin) × Contains ts t × Holds s (g t)
any_of-map_in s g [] p = not_false p
any_of-map_in s g (t ∷ ts) (inl p) = (t, contains_head t ts, p)
any_of-map_in s g (t ∷ ts) (inr p) = let w = any_of-map_in s g ts p in (w.0, contains_tail t w.0 ts w.1, w.2)

any_of-map_out : (s : Assignment) (g : Lin → Form) (ts : List Lin) (t : Lin) → Contains ts t → Holds s (g t) → Holds s (any_of (map g ts))
any_of-map_out s g [] t h p = contains_none t h
any_of-map_out s g (u ∷ ts) t h p =
    let rest_of = any_of-map_out s g ts t in
    elim (contains_cases u t ts h) [ inl e ↦ inl (subst (λ (v : Lin). Holds s (g v)) (sym e) p) | inr k ↦ inr (rest_of k p) ]

abbrev pub Some_instance : Assignment → ℕ → Form → List Lin → ℕ → Type 0
Some_instance s x f bs m = (j : ℕ) × (1 ≤ j) × (j ≤ m) × Holds s (any_of (cases_at x f bs j))

pub instances_in : (s : Assignment) (x : ℕ) (f : Form) (bs : List Lin) (m : ℕ) → Holds s (any_of (cases_to x f bs m)) → Some_instance s x f bs m
instances_in s x f bs zero p = not_false p
instances_in s x f bs (suc m) p = step (instances_in s x f bs m)
  where
    step : (Holds s (any_of (cases_to x f bs m)) → Some_instance s x f bs m) → Some_instance s x f bs (suc m)
    step ih = elim ((any_of-append s (cases_to x f bs m) (cases_at x f bs (suc m))).0 p) [
      | inl a ↦ let w = ih a in (w.0, w.1, omega (arith, w.2), w.3)
      | inr b ↦ (suc m, omega arith, omega arith, b)
    ]

cases_le : {X : Type 0} (j m : ℕ) → j ≤ suc m → (j ≤ m → X) → (j ≡ suc m → X) → X
cases_le j m h a b = elim (cases_lt m j) [ inl p ↦ b (omega arith) | inr p ↦ a p ]

instances_out : (s : Assignment) (x : ℕ) (f : Form) (bs : List Lin) (m j : ℕ) → 1 ≤ j → j ≤ m → Holds s (any_of (cases_at x f bs j)) → Holds s (any_of (cases_to x f bs m))
instances_out s x f bs zero j h k p = absurd (omega arith)
instances_out s x f bs (suc m) j h k p = (any_of-append s (cases_to x f bs m) (cases_at x f bs (suc m))).1 (
    cases_le j m k (λ l. inl (instances_out s x f bs m j h l p)) (λ e. inr (subst (λ (i : ℕ). Holds s (any_of (cases_at x f bs i))) e p)))

minus_one : (z : ℤ) → negsuc 0 *ℤ z ≡ neg_ℤ z
minus_one z = omega (arith, ints)

-- ---- the lower bounds
lower_literal : (s : Assignment) (c : ℤ) (r : Lin) (b : ℤ) → U.IsLowerBound (literal_positive c (value s r)) b → (t : Lin) × Contains (lower_bound c r) t × (value s t ≡ b)
unfolding literal_positive
lower_literal s (pos zero) r b h = absurd h
lower_literal s (pos (suc n)) r b h = (times (negsuc 0) r, contains_head (times (negsuc 0) r) [], value-times s (negsuc 0) r ∙ minus_one (value s r) ∙ h)
lower_literal s (negsuc n) r b h = absurd h

no_bound-multiple : {X : Type 0} (d : ℕ) (c r b : ℤ) → U.IsLowerBound (literal_multiple d c r) b → X
unfolding literal_multiple
no_bound-multiple d (pos zero) r b h = absurd h
no_bound-multiple d (pos (suc n)) r b h = absurd h
no_bound-multiple d (negsuc n) r b h = absurd h

no_bound-no_multiple : {X : Type 0} (d : ℕ) (c r b : ℤ) → U.IsLowerBound (literal_no_multiple d c r) b → X
unfolding literal_no_multiple
no_bound-no_multiple d (pos zero) r b h = absurd h
no_bound-no_multiple d (pos (suc n)) r b h = absurd h
no_bound-no_multiple d (negsuc n) r b h = absurd h

pub contains_left : (xs ys : List Lin) (t : Lin) → Contains xs t → Contains (xs ++ ys) t
contains_left [] ys t h = contains_none t h
contains_left (x ∷ xs) ys t h = step (contains_left xs ys t)
  where
    step : (Contains xs t → Contains (xs ++ ys) t) → Contains ((x ∷ xs) ++ ys) t
    step ih = elim (contains_cases x t xs h) [ inl e ↦ (0, omega arith, e) | inr k ↦ contains_tail x t (xs ++ ys) (ih k) ]

pub contains_right : (xs ys : List Lin) (t : Lin) → Contains ys t → Contains (xs ++ ys) t
contains_right [] ys t h = h
contains_right (x ∷ xs) ys t h = contains_tail x t (xs ++ ys) (contains_right xs ys t h)

abbrev IsBound : Assignment → List Lin → ℤ → Type 0
IsBound s ts b = (t : Lin) × Contains ts t × (value s t ≡ b)

bound_found : (s : Assignment) (x : ℕ) (f : Form) (b : ℤ) → U.IsLowerBound (univariate s x f) b → IsBound s (lower_bounds x f) b
unfolding univariate
bound_found s x (const c) b h = absurd h
bound_found s x (positive t) b h = lower_literal s (coefficient x t.terms) (rest x t) b h
bound_found s x (multiple d t) b h = no_bound-multiple d (coefficient x t.terms) (value s (rest x t)) b h
bound_found s x (no_multiple d t) b h = no_bound-no_multiple d (coefficient x t.terms) (value s (rest x t)) b h
bound_found s x (conjunction f g) b (inl h) = let w = bound_found s x f b h in (w.0, contains_left (lower_bounds x f) (lower_bounds x g) w.0 w.1, w.2)
bound_found s x (conjunction f g) b (inr h) = let w = bound_found s x g b h in (w.0, contains_right (lower_bounds x f) (lower_bounds x g) w.0 w.1, w.2)
bound_found s x (disjunction f g) b (inl h) = let w = bound_found s x f b h in (w.0, contains_left (lower_bounds x f) (lower_bounds x g) w.0 w.1, w.2)
bound_found s x (disjunction f g) b (inr h) = let w = bound_found s x g b h in (w.0, contains_right (lower_bounds x f) (lower_bounds x g) w.0 w.1, w.2)

-- ---- the theorem
pub value-number : (s : Assignment) (c : ℤ) → value s (number c) ≡ c
value-number s c = omega (arith, ints)

pub value-shifted : (s : Assignment) (t : Lin) (c : ℤ) → value s (plus t (number c)) ≡ value s t +ℤ c
value-shifted s t c = value-plus s t (number c) ∙ ap (λ z. value s t +ℤ z) (value-number s c)

rising-scaled : (m x : ℕ) (f : Form) → IsScaled m x f → AreRising f
rising-scaled m x (const b) u = tt
rising-scaled m x (positive t) u = u.0
rising-scaled m x (multiple d t) u = u.0
rising-scaled m x (no_multiple d t) u = u.0
rising-scaled m x (conjunction f g) u = (rising-scaled m x f u.0, rising-scaled m x g u.1)
rising-scaled m x (disjunction f g) u = (rising-scaled m x f u.0, rising-scaled m x g u.1)

rising-below : (c : ℤ) (t : Lin) → RisesFrom 0 t.terms → AreRising (positive_below c t)
rising-below (pos zero) t r = r
rising-below (pos (suc n)) t r = tt
rising-below (negsuc n) t r = tt

pub rising-minus_infinity : (x : ℕ) (f : Form) → AreRising f → AreRising (minus_infinity x f)
rising-minus_infinity x (const b) r = tt
rising-minus_infinity x (positive t) r = rising-below (coefficient x t.terms) t r
rising-minus_infinity x (multiple d t) r = r
rising-minus_infinity x (no_multiple d t) r = r
rising-minus_infinity x (conjunction f g) r = (rising-minus_infinity x f r.0, rising-minus_infinity x g r.1)
rising-minus_infinity x (disjunction f g) r = (rising-minus_infinity x f r.0, rising-minus_infinity x g r.1)

pub low_is : (m : ℕ) (s : Assignment) (x : ℕ) (f : Form) (j : ℕ) → IsScaled m x f → Holds s (substitute x (number (pos j)) (minus_infinity x f)) ↔ U.Holds (pos j) (U.minus_infinity (univariate s x f))
low_is m s x f j u = iff-trans (holds-substitute s x (number (pos j)) (minus_infinity x f) (rising-minus_infinity x f (rising-scaled m x f u))) (iff-trans (same (λ z. Holds (assign s x z) (minus_infinity x f)) _ _ (value-number s (pos j))) (holds-minus_infinity m s x (pos j) f u))

pub near_is : (m : ℕ) (s : Assignment) (x : ℕ) (f : Form) (t : Lin) (j : ℕ) → IsScaled m x f → Holds s (substitute x (plus t (number (pos j))) f) ↔ U.Holds (value s t +ℤ pos j) (univariate s x f)
near_is m s x f t j u = iff-trans (holds-substitute s x (plus t (number (pos j))) f (rising-scaled m x f u)) (iff-trans (same (λ z. Holds (assign s x z) f) _ _ (value-shifted s t (pos j))) (holds-univariate m s x (value s t +ℤ pos j) f u))

pub stage3 : (m : ℕ) (bs : List Lin) (x : ℕ) (f : Form) (s : Assignment) → 0 < m → IsScaled m x f → ((t : Lin) → Contains (lower_bounds x f) t → Contains bs t) → ((y : ℤ) × Holds (assign s x y) f) ↔ Holds s (cooper m bs x f)
stage3 m bs x f s h u all =
    let g = univariate s x f in
    let d = divisors m s x f u in (
      λ w. (holds-some_of s (cases_to x f bs m)).1 (
          let i = C.instance_from_solution m (IsBound s bs) g h d (λ b l. let k = bound_found s x f b l in (k.0, all k.0 k.1, k.2)) w.0 ((holds-univariate m s x w.0 f u).0 w.1) in
          instances_out s x f bs m i.0 i.1 i.2 (
          elim i.3 [
            | inl low ↦ inl ((low_is m s x f i.0 u).1 low)
            | inr near ↦ let k = near.1 in inr (any_of-map_out s _ bs k.0 k.1 ((near_is m s x f k.0 i.0 u).1 (subst (λ z. U.Holds (z +ℤ pos i.0) g) (sym k.2) near.2)))
          ])),
      λ p.
          let i = instances_in s x f bs m ((holds-some_of s (cases_to x f bs m)).0 p) in
          let j : U.HasInstance m (IsBound s bs) g = (
            i.0,
            i.1,
            i.2,
            elim i.3 [
              | inl low ↦ inl ((low_is m s x f i.0 u).0 low)
              | inr near ↦ let k = any_of-map_in s (λ b. substitute x (plus b (number (pos i.0))) f) bs near in inr (value s k.0, (k.0, k.1, refl), (near_is m s x f k.0 i.0 u).0 k.2)
            ],
          ) in
          let w = C.solution_from_instance m (IsBound s bs) g h d j in
          (w.0, (holds-univariate m s x w.0 f u).1 w.1),
    )
