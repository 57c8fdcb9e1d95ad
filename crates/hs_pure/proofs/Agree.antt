-- Truth depends on the free variables alone.
use Rattle.std.proofs.Common.{◌≡◌, ℕ, ◌+◌, ◌-◌, min, ◌<◌, ◌≤◌, ℤ, pos, ◌+ℤ◌, ◌*ℤ◌, ◌<ℤ◌, ◌≤ℤ◌, Bool, true, false, not, ◌&&◌, ◌||◌, IsTrue, List, [], ◌∷◌, ◌↔◌, inl, inr, ⊎_elim, refl, sym, ap, subst, if◌then◌else◌}
use Rattle.std.specs.Ordering.{int_eq}
use Rattle.std.specs.List.{list_any}
use Rattle.std.proofs.lemmas.Bool.{and_from}
use Rattle.hs_pure.specs.declared.var.Var.{Var}
use Rattle.hs_pure.specs.declared.lin.Lin.{Lin}
use Rattle.hs_pure.specs.declared.pure.Pure.{Pure}
use Rattle.hs_pure.specs.Multiset
use Rattle.hs_pure.specs.Stack.{Stack, Value, same, with_value, number_value}
use Rattle.hs_pure.specs.Assertion.{BagTerm, empty, name, one, union, inter, diff, Assertion, truth, eq, lt, le, divides, bag_eq, subset, member, all_of, negation, both, either, exists, forall, assertion_of}
use Rattle.hs_pure.specs.Truth.{sum_at, value, count, IsTrueAt, TrueAt}
use Rattle.hs_pure.specs.Occurs.{in_lin, is_free}
use Rattle.hs_pure.specs.Mirror.{in_bag_term, is_free_in}
use Rattle.hs_pure.proofs.Vars.{or_left, or_right, same-refl}
use Rattle.hs_pure.proofs.Mirrored.{is_free-is}

-- two stacks agree on the variables that a test picks
abbrev pub Agree : (Var → Bool) → Stack → Stack → Type 0
Agree picks s t = (v : Var) → IsTrue (picks v) → s v ≡ t v

abbrev left : (p q : Var → Bool) (s t : Stack) → Agree (λ v. p v || q v) s t → Agree p s t
left p q s t h v i = h v (or_left (p v) (q v) i)

abbrev right : (p q : Var → Bool) (s t : Stack) → Agree (λ v. p v || q v) s t → Agree q s t
right p q s t h v i = h v (or_right (p v) (q v) i)

abbrev other_way : (p : Var → Bool) (s t : Stack) → Agree p s t → Agree p t s
other_way p s t h v i = sym (h v i)

-- below the quantifier of u
pub under : (p : Var → Bool) (u : Var) (x : Value) (s t : Stack) → Agree (λ v. not (same u v) && p v) s t → Agree p (with_value u x s) (with_value u x t)
under p u x s t h v i = of (same u v) refl
  where
    of : (b : Bool) → same u v ≡ b → (if same u v then x else s v) ≡ (if same u v then x else t v)
    of true e = rw e refl
    of false e = rw e (h v (and_from _ _ (ap not e) i))

sum-agree : (ts : List (Var × ℤ)) (s t : Stack) → Agree (λ v. list_any (λ t. same t.0 v) ts) s t → sum_at s ts ≡ sum_at t ts
sum-agree [] s t h = refl
sum-agree (m ∷ ms) s t h =
    let first : s m.0 ≡ t m.0 = h m.0 (or_left (same m.0 m.0) _ (same-refl m.0)) in
    let rest = sum-agree ms s t (λ v i. h v (or_right (same m.0 v) _ i)) in
    λ i. m.1 *ℤ (first i).number +ℤ rest i

pub value-agree : (a : Lin) (s t : Stack) → Agree (λ v. in_lin v a) s t → value s a ≡ value t a
value-agree a s t h = ap (λ z. z +ℤ a.constant) (sum-agree a.terms s t h)

pub count-agree : (b : BagTerm) (s t : Stack) → Agree (λ v. in_bag_term v b) s t → (x : ℤ) → count s b x ≡ count t b x
count-agree empty s t h x = refl
count-agree (name v) s t h x = ap (λ z. Multiset.count z.bag x) (h v (same-refl v))
count-agree (one a) s t h x = ap (λ z. if int_eq z x then 1 else 0) (value-agree a s t h)
count-agree (union a b) s t h x =
    let l = count-agree a s t (left (λ v. in_bag_term v a) (λ v. in_bag_term v b) s t h) x in
    let r = count-agree b s t (right (λ v. in_bag_term v a) (λ v. in_bag_term v b) s t h) x in
    λ i. l i + r i
count-agree (inter a b) s t h x =
    let l = count-agree a s t (left (λ v. in_bag_term v a) (λ v. in_bag_term v b) s t h) x in
    let r = count-agree b s t (right (λ v. in_bag_term v a) (λ v. in_bag_term v b) s t h) x in
    λ i. min (l i) (r i)
count-agree (diff a b) s t h x =
    let l = count-agree a s t (left (λ v. in_bag_term v a) (λ v. in_bag_term v b) s t h) x in
    let r = count-agree b s t (right (λ v. in_bag_term v a) (λ v. in_bag_term v b) s t h) x in
    λ i. l i - r i

-- a relation on the values of two sums
lins-agree : (R : ℤ → ℤ → Type 0) (a b : Lin) (s t : Stack) → Agree (λ v. in_lin v a || in_lin v b) s t →
    R (value s a) (value s b) → R (value t a) (value t b)
lins-agree R a b s t h r =
    let l = value-agree a s t (left (λ v. in_lin v a) (λ v. in_lin v b) s t h) in
    let m = value-agree b s t (right (λ v. in_lin v a) (λ v. in_lin v b) s t h) in
    subst (λ z. R z (value t b)) l (subst (R (value s a)) m r)

-- a relation on the counts of two bags
bags-agree : (R : ℕ → ℕ → Type 0) (a b : BagTerm) (s t : Stack) → Agree (λ v. in_bag_term v a || in_bag_term v b) s t →
    ((x : ℤ) → R (count s a x) (count s b x)) → (x : ℤ) → R (count t a x) (count t b x)
bags-agree R a b s t h r x =
    let l = count-agree a s t (left (λ v. in_bag_term v a) (λ v. in_bag_term v b) s t h) x in
    let m = count-agree b s t (right (λ v. in_bag_term v a) (λ v. in_bag_term v b) s t h) x in
    subst (λ z. R z (count t b x)) l (subst (R (count s a x)) m (r x))

pub agree : (p : Assertion) (s t : Stack) → Agree (λ v. is_free_in v p) s t → IsTrueAt s p → IsTrueAt t p
agree truth s t h = λ _. tt
agree (eq a b) s t h = lins-agree (λ x y. x ≡ y) a b s t h
agree (lt a b) s t h = lins-agree (λ x y. x <ℤ y) a b s t h
agree (le a b) s t h = lins-agree (λ x y. x ≤ℤ y) a b s t h
agree (divides d a) s t h = subst (λ x. (pos 1 ≤ℤ d) × ((k : ℤ) × (x ≡ k *ℤ d))) (value-agree a s t h)
agree (bag_eq a b) s t h = bags-agree (λ x y. x ≡ y) a b s t h
agree (subset a b) s t h = bags-agree (λ x y. x ≤ y) a b s t h
agree (member a b) s t h = λ m.
    let l = value-agree a s t (left (λ v. in_lin v a) (λ v. in_bag_term v b) s t h) in
    let r = count-agree b s t (right (λ v. in_lin v a) (λ v. in_bag_term v b) s t h) (value t a) in
    subst (λ n. 0 < n) r (subst (λ z. 0 < count s b z) l m)
agree (all_of u b p) s t h = λ all x m.
    let r = count-agree b s t (left (λ v. in_bag_term v b) (λ v. not (same u v) && is_free_in v p) s t h) x in
    let body = under (λ v. is_free_in v p) u (number_value x) s t (right (λ v. in_bag_term v b) (λ v. not (same u v) && is_free_in v p) s t h) in
    agree p (with_value u (number_value x) s) (with_value u (number_value x) t) body (all x (subst (λ n. 0 < n) (sym r) m))
agree (negation p) s t h = λ not_p is_p. not_p (agree p t s (other_way (λ v. is_free_in v p) s t h) is_p)
agree (both p q) s t h = λ all. (
  agree p s t (left (λ v. is_free_in v p) (λ v. is_free_in v q) s t h) all.0,
  agree q s t (right (λ v. is_free_in v p) (λ v. is_free_in v q) s t h) all.1,
)
agree (either p q) s t h = ⊎_elim
    (λ here. inl (agree p s t (left (λ v. is_free_in v p) (λ v. is_free_in v q) s t h) here))
    (λ later. inr (agree q s t (right (λ v. is_free_in v p) (λ v. is_free_in v q) s t h) later))
agree (exists u p) s t h = λ e.
    (e.0, agree p (with_value u (number_value e.0) s) (with_value u (number_value e.0) t) (under (λ v. is_free_in v p) u (number_value e.0) s t h) e.1)
agree (forall u p) s t h = λ all x.
    agree p (with_value u (number_value x) s) (with_value u (number_value x) t) (under (λ v. is_free_in v p) u (number_value x) s t h) (all x)

-- stacks that agree on the free variables give one truth
pub truth-agree : (p : Pure) (s t : Stack) → Agree (λ v. is_free v p) s t → TrueAt s p ↔ TrueAt t p
truth-agree p s t h =
    let same_there : Agree (λ v. is_free_in v (assertion_of p)) s t = λ v i. h v (subst IsTrue (sym (is_free-is v p)) i) in
    (agree (assertion_of p) s t same_there, agree (assertion_of p) t s (other_way (λ v. is_free_in v (assertion_of p)) s t same_there))
