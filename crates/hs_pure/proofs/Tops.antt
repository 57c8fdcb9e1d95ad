-- The greatest number that occurs.
use Rattle.std.proofs.Common.{◌≡◌, ℕ, max, ◌<◌, ◌≤◌, ℤ, Bool, true, false, ◌||◌, IsTrue, List, [], ◌∷◌, ◌⊎◌, inl, inr, ⊎_elim, refl, sym, ap, ◌∙◌, subst, arith}
use Rattle.std.specs.List.{list_any, fold}
use Rattle.std.proofs.lemmas.Bool.{or_cases}
use Rattle.hs_pure.specs.declared.var.Var.{Var}
use Rattle.hs_pure.specs.declared.lin.Lin.{Lin}
use Rattle.hs_pure.specs.declared.pure.Pure.{Pure}
use Rattle.hs_pure.specs.Stack.{same}
use Rattle.hs_pure.specs.Assertion.{BagTerm, empty, name, one, union, inter, diff, Assertion, truth, eq, lt, le, divides, bag_eq, subset, member, all_of, negation, both, either, exists, forall, assertion_of}
use Rattle.hs_pure.specs.Occurs.{in_lin, lin_top, occurs, top_of}
use Rattle.hs_pure.specs.Mirror.{in_bag_term, occurs_in, bag_term_top, assertion_top}
use Rattle.hs_pure.proofs.Vars.{or_left, or_right, same-eq, same-refl}
use Rattle.hs_pure.proofs.Mirrored.{occurs-is, top_of-is}

-- what passes the test has at most the number n
abbrev Below : (Var → Bool) → ℕ → Type 0
Below has n = (v : Var) → IsTrue (has v) → v.number ≤ n

-- n is 0, or the number of what passes the test
abbrev Reached : (Var → Bool) → ℕ → Type 0
Reached has n = (n ≡ 0) ⊎ ((v : Var) × (IsTrue (has v) × (v.number ≡ n)))

abbrev IsTop : (Var → Bool) → ℕ → Type 0
IsTop has n = Below has n × Reached has n

nothing_top : IsTop (λ v. false) 0
nothing_top = (λ v h. absurd cc, inl refl)

name_top : (u : Var) → IsTop (λ v. same u v) u.number
name_top u = (λ v h. let e : u ≡ v = same-eq u v h in let f : u.number ≡ v.number = ap (λ w. w.number) e in omega arith, inr (u, (same-refl u, refl)))

max_left : (m n : ℕ) → n ≤ m → m ≡ max m n
max_left m n h = omega arith

max_right : (m n : ℕ) → m ≤ n → n ≡ max m n
max_right m n h = omega arith

le_cases : (m n : ℕ) → (m ≤ n) ⊎ (n ≤ m)
le_cases m n = grind arith

le_max : (k m n : ℕ) → (k ≤ m) ⊎ (k ≤ n) → k ≤ max m n
le_max k m n (inl h) = omega arith
le_max k m n (inr h) = omega arith

module _ (p q : Var → Bool) (m n : ℕ) where
  from_left : m ≡ max m n → Reached p m → Reached (λ v. p v || q v) (max m n)
  from_left e (inl z) = inl (sym e ∙ z)
  from_left e (inr r) = inr (r.0, (or_left (p r.0) (q r.0) r.1.0, r.1.1 ∙ e))

  from_right : n ≡ max m n → Reached q n → Reached (λ v. p v || q v) (max m n)
  from_right e (inl z) = inl (sym e ∙ z)
  from_right e (inr r) = inr (r.0, (or_right (p r.0) (q r.0) r.1.0, r.1.1 ∙ e))

  both_top : IsTop p m → IsTop q n → IsTop (λ v. p v || q v) (max m n)
  both_top s t = (
    λ v h. le_max v.number m n (⊎_elim (λ a. inl (s.0 v a)) (λ b. inr (t.0 v b)) (or_cases (p v) (q v) h)),
    ⊎_elim (λ le. from_right (max_right m n le) t.1) (λ le. from_left (max_left m n le) s.1) (le_cases m n),
  )

or_none : (b : Bool) → (false || b) ≡ b
or_none b = refl

or_same : (a b c : Bool) → ((a || b) || c) ≡ (a || (b || c))
or_same true b c = refl
or_same false b c = refl

terms_top : (ts : List (Var × ℤ)) (has : Var → Bool) (n : ℕ) → IsTop has n →
    IsTop (λ v. has v || list_any (λ t. same t.0 v) ts) (fold (λ top t. max top t.0.number) n ts)
terms_top [] has n h = subst (λ p. IsTop p n) (λ i v. or_nothing (has v) i) h
  where
    or_nothing : (b : Bool) → b ≡ (b || false)
    or_nothing true = refl
    or_nothing false = refl
terms_top (t ∷ ts) has n h =
    subst (λ p. IsTop p (fold (λ top t. max top t.0.number) n (t ∷ ts))) (λ i v. or_same (has v) (same t.0 v) (list_any (λ t. same t.0 v) ts) i)
    (terms_top ts (λ v. has v || same t.0 v) (max n t.0.number) (both_top has (λ v. same t.0 v) n t.0.number h (name_top t.0)))

lin_is_top : (a : Lin) → IsTop (λ v. in_lin v a) (lin_top a)
lin_is_top a = terms_top a.terms (λ v. false) 0 nothing_top

bag_is_top : (b : BagTerm) → IsTop (λ v. in_bag_term v b) (bag_term_top b)
bag_is_top empty = nothing_top
bag_is_top (name u) = name_top u
bag_is_top (one a) = lin_is_top a
bag_is_top (union a b) = both_top _ _ (bag_term_top a) (bag_term_top b) (bag_is_top a) (bag_is_top b)
bag_is_top (inter a b) = both_top _ _ (bag_term_top a) (bag_term_top b) (bag_is_top a) (bag_is_top b)
bag_is_top (diff a b) = both_top _ _ (bag_term_top a) (bag_term_top b) (bag_is_top a) (bag_is_top b)

is_top : (p : Assertion) → IsTop (λ v. occurs_in v p) (assertion_top p)
is_top truth = nothing_top
is_top (eq a b) = both_top _ _ (lin_top a) (lin_top b) (lin_is_top a) (lin_is_top b)
is_top (lt a b) = both_top _ _ (lin_top a) (lin_top b) (lin_is_top a) (lin_is_top b)
is_top (le a b) = both_top _ _ (lin_top a) (lin_top b) (lin_is_top a) (lin_is_top b)
is_top (divides d a) = lin_is_top a
is_top (bag_eq a b) = both_top _ _ (bag_term_top a) (bag_term_top b) (bag_is_top a) (bag_is_top b)
is_top (subset a b) = both_top _ _ (bag_term_top a) (bag_term_top b) (bag_is_top a) (bag_is_top b)
is_top (member a b) = both_top _ _ (lin_top a) (bag_term_top b) (lin_is_top a) (bag_is_top b)
is_top (all_of u b p) = both_top _ _ (bag_term_top b) (max u.number (assertion_top p)) (bag_is_top b) (both_top _ _ u.number (assertion_top p) (name_top u) (is_top p))
is_top (negation p) = is_top p
is_top (both p q) = both_top _ _ (assertion_top p) (assertion_top q) (is_top p) (is_top q)
is_top (either p q) = both_top _ _ (assertion_top p) (assertion_top q) (is_top p) (is_top q)
is_top (exists u p) = both_top _ _ u.number (assertion_top p) (name_top u) (is_top p)
is_top (forall u p) = both_top _ _ u.number (assertion_top p) (name_top u) (is_top p)

-- no number that occurs is above the greatest one
pub occurs-below_top : (p : Pure) (v : Var) → IsTrue (occurs v p) → v.number ≤ top_of p
occurs-below_top p v h = subst (λ n. v.number ≤ n) (sym (top_of-is p)) ((is_top (assertion_of p)).0 v (subst IsTrue (occurs-is v p) h))

pub top-reached : (p : Pure) → 0 < top_of p → (v : Var) × (IsTrue (occurs v p) × (v.number ≡ top_of p))
top-reached p h = ⊎_elim
    (λ z. let e : top_of p ≡ 0 = top_of-is p ∙ z in absurd (omega arith))
    (λ r. (r.0, (subst IsTrue (sym (occurs-is r.0 p)) r.1.0, r.1.1 ∙ sym (top_of-is p))))
    (is_top (assertion_of p)).1
