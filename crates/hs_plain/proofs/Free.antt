-- The listed variables are those that occur free, and they rise.
use Rattle.std.proofs.Common.{◌≡◌, ℕ, suc, ◌<◌, ◌≤◌, ℤ, Bool, true, false, cond, not, ◌&&◌, ◌||◌, nat_lt, List, [], ◌∷◌, ◌++◌, length, ◌⊎◌, inl, inr, refl, sym, ap, ◌∙◌, subst, arith}
use Rattle.std.specs.List.{All, Contains, list_any, filter}
use Rattle.std.proofs.lemmas.List.Folds.{list_any-append}
use Rattle.std.proofs.lemmas.Bool.Decides.{nat_tests}
use Rattle.hs_pure.specs.declared.var.Var.{Var}
use Rattle.hs_pure.specs.declared.lin.Lin.{Lin}
use Rattle.hs_pure.specs.Assertion.{Assertion, truth, eq, lt, le, divides, bag_eq, subset, member, all_of, negation, both, either, exists, forall, assertion_of}
use Rattle.hs_pure.specs.Stack.{same}
use Rattle.hs_pure.specs.Occurs.{in_lin}
use Rattle.hs_pure.specs.Mirror.{is_free_in}
use Rattle.hs_pure.specs.Sums.{RisesFrom, LinIsOrdered}
use Rattle.hs_pure.proofs.Lists.{All-first, All-later}
use Rattle.hs_pure.proofs.Mirrored.{is_free-is}
use Rattle.hs_pure.proofs.Vars.{same-eq, same-refl}
use Rattle.hs_elimination.specs.Ordered.{assertion_sums, has_bag_literal}
use Rattle.hs_elimination.proofs.Order.{order_is, bags_are}
use Rattle.hs_elimination.proofs.Stage3.{contains_cases, contains_none}
use Rattle.hs_plain.specs.Variables.{inserted, with_terms, with_sums, variables, free_variables, RiseFrom}
use Rattle.hs_plain.specs.Laws.{FreeVariablesAreFree, FreeVariablesRise}

-- ---- membership

pub contains_here : (v : Var) (vs : List Var) → Contains (v ∷ vs) v
contains_here v vs = (0, omega arith, refl)

pub contains_later : (u v : Var) (vs : List Var) → Contains vs v → Contains (u ∷ vs) v
contains_later u v vs h = let p : h.0 < length vs = h.1 in (suc h.0, omega arith, h.2)

inserted-new : (v : Var) (vs : List Var) → Contains (inserted v vs) v
inserted-new v [] = contains_here v []
inserted-new v (u ∷ us) = by_tests (inserted-new v us) (nat_lt u.number v.number) (same u v) refl
  where
    by_tests : Contains (inserted v us) v → (p q : Bool) → same u v ≡ q → Contains (cond p (u ∷ inserted v us) (cond q (u ∷ us) (v ∷ u ∷ us))) v
    by_tests ih true q e = contains_later u v (inserted v us) ih
    by_tests ih false true e = subst (Contains (u ∷ us)) (same-eq u v e) (contains_here u us)
    by_tests ih false false e = contains_here v (u ∷ us)

inserted-old : (v w : Var) (vs : List Var) → Contains vs w → Contains (inserted v vs) w
inserted-old v w [] h = contains_none w h
inserted-old v w (u ∷ us) h = by_tests (inserted-old v w us) (nat_lt u.number v.number) (same u v)
  where
    by_tests : (Contains us w → Contains (inserted v us) w) → (p q : Bool) → Contains (cond p (u ∷ inserted v us) (cond q (u ∷ us) (v ∷ u ∷ us))) w
    by_tests ih true q = elim (contains_cases u w us h) [ inl e ↦ subst (Contains (u ∷ inserted v us)) e (contains_here u (inserted v us)) | inr k ↦ contains_later u w (inserted v us) (ih k) ]
    by_tests ih false true = h
    by_tests ih false false = contains_later v w (u ∷ us) h

terms-old : (w : Var) (ts : List (Var × ℤ)) (vs : List Var) → Contains vs w → Contains (with_terms ts vs) w
terms-old w [] vs h = h
terms-old w (t ∷ ts) vs h = terms-old w ts (inserted t.0 vs) (inserted-old t.0 w vs h)

one_of : (a b : Bool) → (a || b) ≡ true → (a ≡ true) ⊎ (b ≡ true)
one_of true b h = inl refl
one_of false b h = inr h

terms-new : (w : Var) (ts : List (Var × ℤ)) (vs : List Var) → list_any (λ t. same t.0 w) ts ≡ true → Contains (with_terms ts vs) w
terms-new w [] vs h = absurd cc
terms-new w (t ∷ ts) vs h = step (terms-new w ts (inserted t.0 vs))
  where
    step : (list_any (λ t. same t.0 w) ts ≡ true → Contains (with_terms ts (inserted t.0 vs)) w) → Contains (with_terms ts (inserted t.0 vs)) w
    step ih = elim (one_of (same t.0 w) (list_any (λ t. same t.0 w) ts) h) [
      | inl e ↦ terms-old w ts (inserted t.0 vs) (subst (Contains (inserted t.0 vs)) (same-eq t.0 w e) (inserted-new t.0 vs))
      | inr k ↦ ih k
    ]

sums-old : (w : Var) (as' : List Lin) (vs : List Var) → Contains vs w → Contains (with_sums as' vs) w
sums-old w [] vs h = h
sums-old w (a ∷ as') vs h = sums-old w as' (with_terms a.terms vs) (terms-old w a.terms vs h)

sums-new : (w : Var) (as' : List Lin) (vs : List Var) → list_any (in_lin w) as' ≡ true → Contains (with_sums as' vs) w
sums-new w [] vs h = absurd cc
sums-new w (a ∷ as') vs h = step (sums-new w as' (with_terms a.terms vs))
  where
    step : (list_any (in_lin w) as' ≡ true → Contains (with_sums as' (with_terms a.terms vs)) w) → Contains (with_sums as' (with_terms a.terms vs)) w
    step ih = elim (one_of (in_lin w a) (list_any (in_lin w) as') h) [ inl e ↦ sums-old w as' (with_terms a.terms vs) (terms-new w a.terms vs e) | inr k ↦ ih k ]

-- ---- what occurs free is in a sum

from_left : (a b : Bool) → a ≡ true → (a || b) ≡ true
from_left a b h = rw h refl

from_right : (a b : Bool) → b ≡ true → (a || b) ≡ true
from_right true b h = refl
from_right false b h = h

either_false_left : (a b : Bool) → (a || b) ≡ false → a ≡ false
either_false_left true b h = absurd cc
either_false_left false b h = refl

either_false_right : (a b : Bool) → (a || b) ≡ false → b ≡ false
either_false_right true b h = absurd cc
either_false_right false b h = h

and_second : (a b : Bool) → (a && b) ≡ true → b ≡ true
and_second true b h = h
and_second false b h = absurd cc

in_two : (a b : Bool) → (a || b) ≡ true → (a || (b || false)) ≡ true
in_two true b h = refl
in_two false true h = refl
in_two false false h = absurd cc

in_append : (w : Var) (as' bs : List Lin) → (list_any (in_lin w) as' ≡ true) ⊎ (list_any (in_lin w) bs ≡ true) → list_any (in_lin w) (as' ++ bs) ≡ true
in_append w as' bs (inl h) = list_any-append (in_lin w) as' bs ∙ from_left _ _ h
in_append w as' bs (inr h) = list_any-append (in_lin w) as' bs ∙ from_right (list_any (in_lin w) as') _ h

occurs-free : (w : Var) (p : Assertion) → has_bag_literal p ≡ false → is_free_in w p ≡ true → list_any (in_lin w) (assertion_sums p) ≡ true
occurs-free w truth k h = absurd cc
occurs-free w (eq a b) k h = in_two (in_lin w a) (in_lin w b) h
occurs-free w (lt a b) k h = in_two (in_lin w a) (in_lin w b) h
occurs-free w (le a b) k h = in_two (in_lin w a) (in_lin w b) h
occurs-free w (divides d a) k h = from_left (in_lin w a) false h
occurs-free w (bag_eq a b) k h = absurd cc
occurs-free w (subset a b) k h = absurd cc
occurs-free w (member a b) k h = absurd cc
occurs-free w (all_of u b p) k h = absurd cc
occurs-free w (negation p) k h = occurs-free w p k h
occurs-free w (both p q) k h = in_append w (assertion_sums p) (assertion_sums q) (either_of (occurs-free w p (either_false_left _ _ k)) (occurs-free w q (either_false_right _ _ k)) (one_of _ _ h))
  where
    either_of : (is_free_in w p ≡ true → list_any (in_lin w) (assertion_sums p) ≡ true) → (is_free_in w q ≡ true → list_any (in_lin w) (assertion_sums q) ≡ true)
        → (is_free_in w p ≡ true) ⊎ (is_free_in w q ≡ true) → (list_any (in_lin w) (assertion_sums p) ≡ true) ⊎ (list_any (in_lin w) (assertion_sums q) ≡ true)
    either_of f g (inl e) = inl (f e)
    either_of f g (inr e) = inr (g e)
occurs-free w (either p q) k h = in_append w (assertion_sums p) (assertion_sums q) (either_of (occurs-free w p (either_false_left _ _ k)) (occurs-free w q (either_false_right _ _ k)) (one_of _ _ h))
  where
    either_of : (is_free_in w p ≡ true → list_any (in_lin w) (assertion_sums p) ≡ true) → (is_free_in w q ≡ true → list_any (in_lin w) (assertion_sums q) ≡ true)
        → (is_free_in w p ≡ true) ⊎ (is_free_in w q ≡ true) → (list_any (in_lin w) (assertion_sums p) ≡ true) ⊎ (list_any (in_lin w) (assertion_sums q) ≡ true)
    either_of f g (inl e) = inl (f e)
    either_of f g (inr e) = inr (g e)
occurs-free w (exists u p) k h = occurs-free w p k (and_second (not (same u w)) (is_free_in w p) h)
occurs-free w (forall u p) k h = occurs-free w p k (and_second (not (same u w)) (is_free_in w p) h)

-- ---- those that pass a test

module _ (test : Var → Bool) where
  filter-from : (w : Var) (vs : List Var) → Contains vs w → test w ≡ true → Contains (filter test vs) w
  filter-from w [] h k = contains_none w h
  filter-from w (v ∷ vs) h k = by_test (filter-from w vs) (test v) refl
    where
      by_test : (Contains vs w → test w ≡ true → Contains (filter test vs) w) → (b : Bool) → test v ≡ b → Contains (cond b (v ∷ filter test vs) (filter test vs)) w
      by_test ih true e = elim (contains_cases v w vs h) [ inl is ↦ subst (Contains (v ∷ filter test vs)) is (contains_here v (filter test vs)) | inr later ↦ contains_later v w (filter test vs) (ih later k) ]
      by_test ih false e = elim (contains_cases v w vs h) [ inl is ↦ (let f : test v ≡ true = ap test is ∙ k in absurd cc) | inr later ↦ ih later k ]

  filter-to : (w : Var) (vs : List Var) → Contains (filter test vs) w → test w ≡ true
  filter-to w [] h = contains_none w h
  filter-to w (v ∷ vs) h = by_test (filter-to w vs) (test v) refl h
    where
      by_test : (Contains (filter test vs) w → test w ≡ true) → (b : Bool) → test v ≡ b → Contains (cond b (v ∷ filter test vs) (filter test vs)) w → test w ≡ true
      by_test ih true e k = elim (contains_cases v w (filter test vs) k) [ inl is ↦ sym (ap test is) ∙ e | inr later ↦ ih later ]
      by_test ih false e k = ih k

pub free_in : (p : Assertion) (v : Var) → has_bag_literal p ≡ false → is_free_in v p ≡ true → Contains (free_variables p) v
free_in p v k h = filter-from (λ v. is_free_in v p) v (variables p) (sums-new v (assertion_sums p) [] (occurs-free v p k h)) h

pub free_variables_are_free : FreeVariablesAreFree
free_variables_are_free p v k = (
  λ h. is_free-is v p ∙ filter-to (λ v. is_free_in v (assertion_of p)) v (variables (assertion_of p)) h,
  λ h. free_in (assertion_of p) v (sym (bags_are p) ∙ k) (sym (is_free-is v p) ∙ h),
)

-- ---- they rise

rise_lower : (m n : ℕ) (vs : List Var) → m ≤ n → RiseFrom n vs → RiseFrom m vs
rise_lower m n [] h r = tt
rise_lower m n (v ∷ vs) h r = let k : n ≤ v.number = r.0 in (omega arith, r.1, r.2)

apart : (u v : Var) → u.bag ≡ false → v.bag ≡ false → same u v ≡ false → ¬ (u.number ≡ v.number)
apart u v e f d h =
    let is : u ≡ v = (λ i. record { number = h i; bag = (e ∙ sym f) i }) in
    let s : same u v ≡ true = subst (λ w. same u w ≡ true) is (same-refl u) in
    cc

not_below : (m n : ℕ) → nat_lt m n ≡ false → n ≤ m
not_below m n h = grind (arith, nat_tests)

is_below : (m n : ℕ) → nat_lt m n ≡ true → m < n
is_below m n h = grind (arith, nat_tests)

rise-inserted : (n : ℕ) (v : Var) (vs : List Var) → n ≤ v.number → v.bag ≡ false → RiseFrom n vs → RiseFrom n (inserted v vs)
rise-inserted n v [] h k r = (h, k, tt)
rise-inserted n v (u ∷ us) h k r = by_tests (λ (below : suc u.number ≤ v.number). rise-inserted (suc u.number) v us below k r.2) (nat_lt u.number v.number) (same u v) refl refl
  where
    by_tests : (suc u.number ≤ v.number → RiseFrom (suc u.number) (inserted v us)) → (p q : Bool) → nat_lt u.number v.number ≡ p → same u v ≡ q → RiseFrom n (cond p (u ∷ inserted v us) (cond q (u ∷ us) (v ∷ u ∷ us)))
    by_tests ih true q e f = let b = is_below u.number v.number e in (r.0, r.1, ih (omega arith))
    by_tests ih false true e f = r
    by_tests ih false false e f =
        let b = not_below u.number v.number e in
        let d : ¬ (u.number ≡ v.number) = apart u v r.1 k f in
        (h, k, (omega arith, r.1, r.2))

rise-terms : (n : ℕ) (ts : List (Var × ℤ)) (vs : List Var) → RisesFrom n ts → RiseFrom 0 vs → RiseFrom 0 (with_terms ts vs)
rise-terms n [] vs h r = r
rise-terms n (t ∷ ts) vs h r = rise-terms (suc t.0.number) ts (inserted t.0 vs) h.3 (rise-inserted 0 t.0 vs (omega arith) h.1 r)

rise-sums : (as' : List Lin) (vs : List Var) → All LinIsOrdered as' → RiseFrom 0 vs → RiseFrom 0 (with_sums as' vs)
rise-sums [] vs h r = r
rise-sums (a ∷ as') vs h r = rise-sums as' (with_terms a.terms vs) (All-later LinIsOrdered a as' h) (rise-terms 0 a.terms vs (All-first LinIsOrdered a as' h) r)

rise-filter : (test : Var → Bool) (n : ℕ) (vs : List Var) → RiseFrom n vs → RiseFrom n (filter test vs)
rise-filter test n [] r = tt
rise-filter test n (v ∷ vs) r = by_test (rise-filter test (suc v.number) vs r.2) (test v)
  where
    by_test : RiseFrom (suc v.number) (filter test vs) → (b : Bool) → RiseFrom n (cond b (v ∷ filter test vs) (filter test vs))
    by_test ih true = (r.0, r.1, ih)
    by_test ih false = let k : n ≤ v.number = r.0 in rise_lower n (suc v.number) (filter test vs) (omega arith) ih

pub free_variables_rise : FreeVariablesRise
free_variables_rise p h =
    rise-filter (λ v. is_free_in v (assertion_of p)) 0 (variables (assertion_of p)) (rise-sums (assertion_sums (assertion_of p)) [] ((order_is p).0 h) tt)
