-- Values and truth depend on the numbers that occur, and substitution keeps truth.
use Rattle.std.proofs.Common.{◌≡◌, ℕ, suc, ◌<◌, inl, inr, ◌↔◌, ℤ, pos, ◌+ℤ◌, ◌*ℤ◌, false, List, [], ◌∷◌, refl, sym, ap, ◌∙◌, arith}
use Rattle.std.specs.List.{fold}
use Rattle.std.proofs.lemmas.Int.{ints}
use Rattle.std.proofs.lemmas.Bool.{cases_Bool, or_parts}
use Rattle.hs_pure.specs.declared.var.Var.{Var}
use Rattle.hs_pure.specs.declared.lin.Lin.{Lin}
use Rattle.hs_pure.specs.Stack.{Stack, same, with_value, number_value}
use Rattle.hs_pure.specs.Assertion.{Assertion, truth, eq, lt, le, divides, bag_eq, subset, member, all_of, negation, both, either, exists, forall}
use Rattle.hs_pure.specs.Truth.{sum_at, value, IsTrueAt}
use Rattle.hs_pure.proofs.Vars.{same-refl, different}
use Rattle.hs_elimination.specs.Linear.{number, plus, times}
use Rattle.hs_elimination.specs.Ordered.{has_bag_literal}
use Rattle.hs_elimination.proofs.Stacks.{numbers, value-is}
use Rattle.hs_elimination.proofs.Values as Values
use Rattle.hs_reduction.specs.Layout.{number_variable, variable}
use Rattle.hs_reduction.specs.Instance.{Substitution, itself, instead, substituted_lin, substituted}
use Rattle.hs_reduction.proofs.Below.{TermsBelow, LinBelow, Below, lin_below_more}

pub value-plus : (s : Stack) (a b : Lin) → value s (plus a b) ≡ value s a +ℤ value s b
value-plus s a b = value-is s (plus a b) ∙ Values.value-plus (numbers s) a b ∙ (λ i. sym (value-is s a) i +ℤ sym (value-is s b) i)

pub value-times : (s : Stack) (k : ℤ) (a : Lin) → value s (times k a) ≡ k *ℤ value s a
value-times s k a = value-is s (times k a) ∙ Values.value-times (numbers s) k a ∙ ap (λ z. k *ℤ z) (sym (value-is s a))

once : (x : ℤ) → pos 1 *ℤ x +ℤ pos 0 +ℤ pos 0 ≡ x
once x = omega (arith, ints)

pub value-itself : (s : Stack) (v : Var) → value s (itself v) ≡ (s v).number
value-itself s v = once (s v).number

pub value-variable : (s : Stack) (n : ℕ) → value s (variable n) ≡ (s (number_variable n)).number
value-variable s n = once (s (number_variable n)).number

-- ---- substitution

-- s has at each variable below k the number that t has at what f puts in its place
abbrev pub Follows : ℕ → Substitution → Stack → Stack → Type 0
Follows k f s t = (v : Var) → v.number < k → (s v).number ≡ value t (f v)

-- what f puts in for variables below k is below n
abbrev pub Ranges : ℕ → ℕ → Substitution → Type 0
Ranges k n f = (v : Var) → v.number < k → LinBelow n (f v)

none_more : (a : ℤ) → a ≡ a +ℤ pos 0
none_more a = omega (arith, ints)

sum_assoc : (a b c : ℤ) → (a +ℤ b) +ℤ c ≡ a +ℤ (b +ℤ c)
sum_assoc a b c = omega (arith, ints)

value-terms : (k : ℕ) (f : Substitution) (s t : Stack) (sum : Lin) (es : List (Var × ℤ)) → TermsBelow k es → Follows k f s t →
    value t (fold (λ sum e. plus sum (times e.1 (f e.0))) sum es) ≡ value t sum +ℤ sum_at s es
value-terms k f s t sum [] below follows = none_more (value t sum)
value-terms k f s t sum (e ∷ es) below follows =
    value-terms k f s t (plus sum (times e.1 (f e.0))) es below.1 follows
    ∙ ap (λ z. z +ℤ sum_at s es) (value-plus t sum (times e.1 (f e.0)) ∙ ap (λ z. value t sum +ℤ z) (value-times t e.1 (f e.0) ∙ ap (λ z. e.1 *ℤ z) (sym (follows e.0 below.0))))
    ∙ sum_assoc (value t sum) (e.1 *ℤ (s e.0).number) (sum_at s es)

constant_first : (a c : ℤ) → (pos 0 +ℤ c) +ℤ a ≡ a +ℤ c
constant_first a c = omega (arith, ints)

pub value-substituted : (k : ℕ) (f : Substitution) (s t : Stack) (a : Lin) → LinBelow k a → Follows k f s t → value s a ≡ value t (substituted_lin f a)
value-substituted k f s t a below follows = sym (value-terms k f s t (number a.constant) a.terms below follows ∙ constant_first (sum_at s a.terms) a.constant)

-- two stacks with equal numbers below k
abbrev pub SameBelow : ℕ → Stack → Stack → Type 0
SameBelow k s t = (v : Var) → v.number < k → (s v).number ≡ (t v).number

sum_agrees : (k : ℕ) (s t : Stack) (es : List (Var × ℤ)) → TermsBelow k es → SameBelow k s t → sum_at s es ≡ sum_at t es
sum_agrees k s t [] below same = refl
sum_agrees k s t (e ∷ es) below same = λ i. e.1 *ℤ same e.0 below.0 i +ℤ sum_agrees k s t es below.1 same i

pub value_agrees : (k : ℕ) (s t : Stack) (a : Lin) → LinBelow k a → SameBelow k s t → value s a ≡ value t a
value_agrees k s t a below same = ap (λ z. z +ℤ a.constant) (sum_agrees k s t a.terms below same)

pub new_variable : (n : ℕ) (v : Var) → v.number < n → same (number_variable n) v ≡ false
new_variable n v h = different (number_variable n) v (λ e. let f : n ≡ v.number = ap (λ (w : Var). w.number) e in omega arith)

-- the stack with x as the value of the variable numbered n
abbrev pub bound : ℕ → ℤ → Stack → Stack
bound n x t = with_value (number_variable n) (number_value x) t

-- the number n is new: binding it changes no value below it
pub value_beside : (n : ℕ) (x : ℤ) (t : Stack) (a : Lin) → LinBelow n a → value t a ≡ value (bound n x t) a
value_beside n x t a below = value_agrees n t (bound n x t) a below (λ v h. let isnt = new_variable n v h in rw isnt refl)

pub value_bound : (n : ℕ) (x : ℤ) (t : Stack) → value (bound n x t) (variable n) ≡ x
value_bound n x t = value-variable (bound n x t) n ∙ (let is = same-refl (number_variable n) in rw is refl)

under_follows : (k n : ℕ) (u : Var) (x : ℤ) (f : Substitution) (s t : Stack) → Ranges k n f → Follows k f s t →
    Follows k (instead u (variable n) f) (with_value u (number_value x) s) (bound n x t)
under_follows k n u x f s t range follows v h = elim (cases_Bool (same u v)) [
  | inl is ↦ rw is (sym (value_bound n x t))
  | inr isnt ↦ rw isnt (follows v h ∙ value_beside n x t (f v) (range v h))
]

pub under_ranges : (k n : ℕ) (u : Var) (f : Substitution) → Ranges k n f → Ranges k (suc n) (instead u (variable n) f)
under_ranges k n u f range v h = elim (cases_Bool (same u v)) [
  | inl is ↦ rw is (omega arith, tt)
  | inr isnt ↦ rw isnt (lin_below_more n (suc n) (omega arith) (f v) (range v h))
]

-- an assertion on numbers holds at s exactly where what stands in its place holds at t
pub truth-substituted : (p : Assertion) (k n : ℕ) (f : Substitution) (s t : Stack) → has_bag_literal p ≡ false → Below k p → Ranges k n f → Follows k f s t →
    IsTrueAt s p ↔ IsTrueAt t (substituted f n p)
truth-substituted truth k n f s t plain below range follows = (λ h. h, λ h. h)
truth-substituted (eq a b) k n f s t plain below range follows =
    let p = value-substituted k f s t a below.0 follows in
    let q = value-substituted k f s t b below.1 follows in
    (λ h. sym p ∙ h ∙ q, λ h. p ∙ h ∙ sym q)
truth-substituted (lt a b) k n f s t plain below range follows =
    let p = value-substituted k f s t a below.0 follows in
    let q = value-substituted k f s t b below.1 follows in
    (λ h. rw (← p, ← q) h, λ h. rw (p, q) h)
truth-substituted (le a b) k n f s t plain below range follows =
    let p = value-substituted k f s t a below.0 follows in
    let q = value-substituted k f s t b below.1 follows in
    (λ h. rw (← p, ← q) h, λ h. rw (p, q) h)
truth-substituted (divides d a) k n f s t plain below range follows =
    let p = value-substituted k f s t a below follows in
    (λ h. (h.0, (h.1.0, sym p ∙ h.1.1)), λ h. (h.0, (h.1.0, p ∙ h.1.1)))
truth-substituted (bag_eq a b) k n f s t plain below range follows = absurd cc
truth-substituted (subset a b) k n f s t plain below range follows = absurd cc
truth-substituted (member a b) k n f s t plain below range follows = absurd cc
truth-substituted (all_of u b p) k n f s t plain below range follows = absurd cc
truth-substituted (negation p) k n f s t plain below range follows =
    let e = truth-substituted p k n f s t plain below range follows in
    (λ h g. h (e.1 g), λ h g. h (e.0 g))
truth-substituted (both p q) k n f s t plain below range follows =
    let parts = or_parts (has_bag_literal p) (has_bag_literal q) plain in
    let e = truth-substituted p k n f s t parts.0 below.0 range follows in
    let g = truth-substituted q k n f s t parts.1 below.1 range follows in
    (λ h. (e.0 h.0, g.0 h.1), λ h. (e.1 h.0, g.1 h.1))
truth-substituted (either p q) k n f s t plain below range follows =
    let parts = or_parts (has_bag_literal p) (has_bag_literal q) plain in
    let e = truth-substituted p k n f s t parts.0 below.0 range follows in
    let g = truth-substituted q k n f s t parts.1 below.1 range follows in
    (λ h. elim h [ inl x ↦ inl (e.0 x) | inr x ↦ inr (g.0 x) ], λ h. elim h [ inl x ↦ inl (e.1 x) | inr x ↦ inr (g.1 x) ])
truth-substituted (exists u p) k n f s t plain below range follows =
    let e : (x : ℤ) → IsTrueAt (with_value u (number_value x) s) p ↔ IsTrueAt (bound n x t) (substituted (instead u (variable n) f) (suc n) p) =
    λ x. truth-substituted p k (suc n) (instead u (variable n) f) (with_value u (number_value x) s) (bound n x t) plain below.1 (under_ranges k n u f range) (under_follows k n u x f s t range follows) in
    (λ h. (h.0, (e h.0).0 h.1), λ h. (h.0, (e h.0).1 h.1))
truth-substituted (forall u p) k n f s t plain below range follows =
    let e : (x : ℤ) → IsTrueAt (with_value u (number_value x) s) p ↔ IsTrueAt (bound n x t) (substituted (instead u (variable n) f) (suc n) p) =
    λ x. truth-substituted p k (suc n) (instead u (variable n) f) (with_value u (number_value x) s) (bound n x t) plain below.1 (under_ranges k n u f range) (under_follows k n u x f s t range follows) in
    (λ h x. (e x).0 (h x), λ h x. (e x).1 (h x))

itself-ranges : (k : ℕ) → Ranges k k itself
itself-ranges k v h = (h, tt)

-- the truth of an assertion on numbers depends on the numbers that occur: with each variable for itself it is the same
pub truth_agrees : (p : Assertion) (k : ℕ) (s t : Stack) → has_bag_literal p ≡ false → Below k p → SameBelow k s t → IsTrueAt s p ↔ IsTrueAt t p
truth_agrees p k s t plain below same =
    let there = truth-substituted p k k itself s t plain below (itself-ranges k) (λ v h. same v h ∙ sym (value-itself t v)) in
    let here = truth-substituted p k k itself t t plain below (itself-ranges k) (λ v h. sym (value-itself t v)) in
    (λ h. here.1 (there.0 h), λ h. there.1 (here.0 h))
