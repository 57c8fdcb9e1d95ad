-- The value of sums, multiples and substitutions of linear terms.
use Rattle.std.proofs.Common.{◌≡◌, ℕ, zero, suc, Bool, true, false, List, [], ◌∷◌, refl, sym, ap, ◌∙◌, arith, nat_lt, eqb, eq-eqb, cond, map, ℤ, pos, negsuc, ◌+ℤ◌, ◌*ℤ◌}
use Rattle.std.proofs.lemmas.Bool.Decides.{nat_tests, Decides-int_eq}
use Rattle.std.specs.Ordering.{int_eq}
use Rattle.std.proofs.lemmas.Int.{ints}
use Rattle.hs_elimination.proofs.Integers.{ring}
use Rattle.hs_elimination.proofs.Meaning.{Assignment, RisesFrom, assign, sum_at, value}
use Rattle.hs_elimination.proofs.Rising.{coefficient-total, total}
use Rattle.hs_elimination.specs.Cases.{substitute_by, substitute_lin}
use Rattle.hs_elimination.specs.Linear.{coefficient, merge, merge_one, place, plus, prepend, rest, scale_term, times, without}
use Rattle.hs_pure.specs.declared.lin.Lin.{Lin}
use Rattle.hs_pure.specs.declared.var.Var.{Var}

abbrev Entry : Type 0
Entry = Var × ℤ

zero-is : (c : ℤ) → int_eq c (pos 0) ≡ true → c ≡ pos 0
zero-is c h = (Decides-int_eq c (pos 0)).0 h

nothing : (a b : ℤ) → b ≡ pos 0 *ℤ a +ℤ b
nothing a b = omega (arith, ints)

sum-prepend : (s : Assignment) (v : Var) (c : ℤ) (es : List Entry) → sum_at s (prepend v c es) ≡ c *ℤ s (place v) +ℤ sum_at s es
sum-prepend s v c es = by_zero (int_eq c (pos 0)) refl
  where
    by_zero : (z : Bool) → int_eq c (pos 0) ≡ z → sum_at s (cond z es ((v, c) ∷ es)) ≡ c *ℤ s (place v) +ℤ sum_at s es
    by_zero true e = rw (zero-is c e) (nothing (s (place v)) (sum_at s es))
    by_zero false e = refl

swap_first : (a b c d : ℤ) → a +ℤ (b +ℤ (c +ℤ d)) ≡ b +ℤ (c +ℤ (a +ℤ d))
swap_first a b c d = omega (arith, ints)

same_number : (m n : ℕ) → nat_lt m n ≡ false → nat_lt n m ≡ false → n ≡ m
same_number m n p q = grind (arith, nat_tests)

join_same : (c d x r f : ℤ) → (c +ℤ d) *ℤ x +ℤ (r +ℤ f) ≡ c *ℤ x +ℤ (r +ℤ (d *ℤ x +ℤ f))
join_same c d x r f = simp ring (omega (arith, ints))

sum-merge_one : (s : Assignment) (v : Var) (c r : ℤ) (more : List Entry → List Entry) → ((gs : List Entry) → sum_at s (more gs) ≡ r +ℤ sum_at s gs) → (fs : List Entry) → sum_at s (merge_one v c more fs) ≡ c *ℤ s (place v) +ℤ (r +ℤ sum_at s fs)
sum-merge_one s v c r more h [] = ap (λ z. c *ℤ s (place v) +ℤ z) (h [])
sum-merge_one s v c r more h (e ∷ es) = by_tests (sum-merge_one s v c r more h es) (nat_lt (place v) (place e.0)) (nat_lt (place e.0) (place v)) refl refl
  where
    by_tests : sum_at s (merge_one v c more es) ≡ c *ℤ s (place v) +ℤ (r +ℤ sum_at s es) → (p q : Bool) → nat_lt (place v) (place e.0) ≡ p → nat_lt (place e.0) (place v) ≡ q → sum_at s (cond p ((v, c) ∷ more (e ∷ es)) (cond q (e ∷ merge_one v c more es) (prepend v (c +ℤ e.1) (more es)))) ≡ c *ℤ s (place v) +ℤ (r +ℤ sum_at s (e ∷ es))
    by_tests ih true q p_is q_is = ap (λ z. c *ℤ s (place v) +ℤ z) (h (e ∷ es))
    by_tests ih false true p_is q_is = ap (λ z. e.1 *ℤ s (place e.0) +ℤ z) ih ∙ swap_first (e.1 *ℤ s (place e.0)) (c *ℤ s (place v)) r (sum_at s es)
    by_tests ih false false p_is q_is =
        sum-prepend s v (c +ℤ e.1) (more es) ∙ ap (λ z. (c +ℤ e.1) *ℤ s (place v) +ℤ z) (h es) ∙ join_same c e.1 (s (place v)) r (sum_at s es) ∙ ap (λ (n : ℕ). c *ℤ s (place v) +ℤ (r +ℤ (e.1 *ℤ s n +ℤ sum_at s es))) (sym (same_number (place v) (place e.0) p_is q_is))

sum_assoc : (a b c : ℤ) → a +ℤ (b +ℤ c) ≡ (a +ℤ b) +ℤ c
sum_assoc a b c = omega (arith, ints)

zero_sum : (a : ℤ) → a ≡ pos 0 +ℤ a
zero_sum a = omega (arith, ints)

pub sum-merge : (s : Assignment) (es fs : List Entry) → sum_at s (merge es fs) ≡ sum_at s es +ℤ sum_at s fs
sum-merge s [] fs = zero_sum (sum_at s fs)
sum-merge s (e ∷ es) fs =
    sum-merge_one s e.0 e.1 (sum_at s es) (merge es) (sum-merge s es) fs ∙ sum_assoc (e.1 *ℤ s (place e.0)) (sum_at s es) (sum_at s fs)

sum_shuffle : (a b c d : ℤ) → (a +ℤ b) +ℤ (c +ℤ d) ≡ (a +ℤ c) +ℤ (b +ℤ d)
sum_shuffle a b c d = omega (arith, ints)

pub value-plus : (s : Assignment) (t u : Lin) → value s (plus t u) ≡ value s t +ℤ value s u
value-plus s t u = rw sum-merge (sum_shuffle (sum_at s t.terms) (sum_at s u.terms) t.constant u.constant)

times_zero : (k : ℤ) → pos 0 ≡ k *ℤ pos 0
times_zero k = omega (arith, ints)

times_one_more : (k c x r : ℤ) → (k *ℤ c) *ℤ x +ℤ k *ℤ r ≡ k *ℤ (c *ℤ x +ℤ r)
times_one_more k c x r = simp ring

sum-scale : (s : Assignment) (k : ℤ) (es : List Entry) → sum_at s (map (scale_term k) es) ≡ k *ℤ sum_at s es
sum-scale s k [] = times_zero k
sum-scale s k (e ∷ es) = ap (λ z. (k *ℤ e.1) *ℤ s (place e.0) +ℤ z) (sum-scale s k es) ∙ times_one_more k e.1 (s (place e.0)) (sum_at s es)

times_sum : (k a b : ℤ) → k *ℤ a +ℤ k *ℤ b ≡ k *ℤ (a +ℤ b)
times_sum k a b = simp ring

pub value-times : (s : Assignment) (k : ℤ) (t : Lin) → value s (times k t) ≡ k *ℤ value s t
value-times s k t = rw sum-scale (times_sum k (sum_at s t.terms) t.constant)

-- ---- the part with x, and the rest
with_zero : (y : ℤ) → pos 0 ≡ pos 0 *ℤ y +ℤ pos 0
with_zero y = omega (arith, ints)

add_in : (c d y r : ℤ) → c *ℤ y +ℤ (d *ℤ y +ℤ r) ≡ (c +ℤ d) *ℤ y +ℤ r
add_in c d y r = simp ring (omega (arith, ints))

swap_in : (a b r : ℤ) → a +ℤ (b +ℤ r) ≡ b +ℤ (a +ℤ r)
swap_in a b r = omega (arith, ints)

pub sum-assign : (s : Assignment) (x : ℕ) (y : ℤ) (es : List Entry) → sum_at (assign s x y) es ≡ total x es *ℤ y +ℤ sum_at s (without x es)
sum-assign s x y [] = with_zero y
sum-assign s x y (e ∷ es) = by_test (sum-assign s x y es) (eqb (place e.0) x)
  where
    by_test : sum_at (assign s x y) es ≡ total x es *ℤ y +ℤ sum_at s (without x es) → (b : Bool) → e.1 *ℤ cond b y (s (place e.0)) +ℤ sum_at (assign s x y) es ≡ cond b (e.1 +ℤ total x es) (total x es) *ℤ y +ℤ sum_at s (cond b (without x es) (e ∷ without x es))
    by_test ih true = ap (λ z. e.1 *ℤ y +ℤ z) ih ∙ add_in e.1 (total x es) y (sum_at s (without x es))
    by_test ih false = ap (λ z. e.1 *ℤ s (place e.0) +ℤ z) ih ∙ swap_in (e.1 *ℤ s (place e.0)) (total x es *ℤ y) (sum_at s (without x es))

pub value-assign : (s : Assignment) (x : ℕ) (y : ℤ) (t : Lin) → RisesFrom 0 t.terms → value (assign s x y) t ≡ coefficient x t.terms *ℤ y +ℤ value s (rest x t)
value-assign s x y t r = rw (sum-assign s x y t.terms) (sym (sum_assoc (total x t.terms *ℤ y) (sum_at s (without x t.terms)) t.constant)) ∙ ap (λ c. c *ℤ y +ℤ value s (rest x t)) (sym (coefficient-total x 0 t.terms r))

none_times : (a c : ℤ) → c ≡ pos 0 *ℤ a +ℤ c
none_times a c = omega (arith, ints)

value-substitute_by : (s : Assignment) (c : ℤ) (u r : Lin) → value s (substitute_by c u r) ≡ c *ℤ value s u +ℤ value s r
value-substitute_by s (pos zero) u r = none_times (value s u) (value s r)
value-substitute_by s (pos (suc n)) u r = value-plus s (times (pos (suc n)) u) r ∙ ap (λ z. z +ℤ value s r) (value-times s (pos (suc n)) u)
value-substitute_by s (negsuc n) u r = value-plus s (times (negsuc n) u) r ∙ ap (λ z. z +ℤ value s r) (value-times s (negsuc n) u)

-- substitution gives x the value of the term
pub value-substitute : (s : Assignment) (x : ℕ) (u t : Lin) → RisesFrom 0 t.terms → value s (substitute_lin x u t) ≡ value (assign s x (value s u)) t
value-substitute s x u t r =
    value-substitute_by s (coefficient x t.terms) u (rest x t) ∙ sym (value-assign s x (value s u) t r)

-- ---- the coefficient of x is the value where x is 1, and all else is 0
unit : ℕ → Assignment
unit x = λ n. cond (eqb n x) (pos 1) (pos 0)

times_unit : (a r : ℤ) → a +ℤ r ≡ a *ℤ pos 1 +ℤ r
times_unit a r = omega (arith, ints)

times_none : (a r : ℤ) → r ≡ a *ℤ pos 0 +ℤ r
times_none a r = omega (arith, ints)

total-is : (x : ℕ) (es : List Entry) → total x es ≡ sum_at (unit x) es
unfolding unit
total-is x [] = refl
total-is x (e ∷ es) = by_test (total-is x es) (eqb (place e.0) x)
  where
    by_test : total x es ≡ sum_at (unit x) es → (b : Bool) → cond b (e.1 +ℤ total x es) (total x es) ≡ e.1 *ℤ cond b (pos 1) (pos 0) +ℤ sum_at (unit x) es
    by_test ih true = times_unit e.1 (total x es) ∙ ap (λ z. e.1 *ℤ pos 1 +ℤ z) ih
    by_test ih false = ih ∙ times_none e.1 (sum_at (unit x) es)

pub total-plus : (x : ℕ) (t u : Lin) → total x (plus t u).terms ≡ total x t.terms +ℤ total x u.terms
total-plus x t u = total-is x (plus t u).terms ∙ sum-merge (unit x) t.terms u.terms ∙ ap (λ z. z +ℤ sum_at (unit x) u.terms) (sym (total-is x t.terms)) ∙ ap (λ z. total x t.terms +ℤ z) (sym (total-is x u.terms))

pub total-times : (x : ℕ) (k : ℤ) (t : Lin) → total x (times k t).terms ≡ k *ℤ total x t.terms
total-times x k t = total-is x (times k t).terms ∙ sum-scale (unit x) k t.terms ∙ ap (λ z. k *ℤ z) (sym (total-is x t.terms))

pub coefficient-without : (x : ℕ) (es : List Entry) → coefficient x (without x es) ≡ pos 0
coefficient-without x [] = refl
coefficient-without x (e ∷ es) = by_test (coefficient-without x es) (eqb (place e.0) x) refl
  where
    by_test : coefficient x (without x es) ≡ pos 0 → (b : Bool) → eqb (place e.0) x ≡ b → coefficient x (cond b (without x es) (e ∷ without x es)) ≡ pos 0
    by_test ih true is = ih
    by_test ih false is = rw is ih

-- ---- a term without x, and x single
pub sum-without : (s : Assignment) (x : ℕ) (y : ℤ) (es : List Entry) → sum_at (assign s x y) (without x es) ≡ sum_at s (without x es)
sum-without s x y [] = refl
sum-without s x y (e ∷ es) = by_test (sum-without s x y es) (eqb (place e.0) x) refl
  where
    by_test : sum_at (assign s x y) (without x es) ≡ sum_at s (without x es) → (b : Bool) → eqb (place e.0) x ≡ b → sum_at (assign s x y) (cond b (without x es) (e ∷ without x es)) ≡ sum_at s (cond b (without x es) (e ∷ without x es))
    by_test ih true is = ih
    by_test ih false is = rw (is, ih) refl

pub value-rest : (s : Assignment) (x : ℕ) (y : ℤ) (t : Lin) → value (assign s x y) (rest x t) ≡ value s (rest x t)
value-rest s x y t = ap (λ z. z +ℤ t.constant) (sum-without s x y t.terms)

pub assign-same : (s : Assignment) (x : ℕ) (y : ℤ) → assign s x y x ≡ y
assign-same s x y = rw (eq-eqb x x refl) refl
