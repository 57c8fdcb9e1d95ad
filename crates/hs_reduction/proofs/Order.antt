-- The sums of the reduction are in order, and its free variables are number variables.
use Rattle.std.proofs.Common.{◌≡◌, ℕ, zero, suc, ◌+◌, ◌-◌, ◌*◌, ◌≤◌, ◌⊎◌, inl, inr, ℤ, pos, Bool, true, false, not, ◌||◌, cond, List, [], ◌∷◌, ◌++◌, map, length, get_or, nat_lt, refl, sym, ap, ◌∙◌, subst, arith, if◌then◌else◌}
use Rattle.std.specs.List.{All, fold, list_any}
use Rattle.std.proofs.lemmas.Bool.{cases_Bool, or_parts, and_parts}
use Rattle.std.proofs.lemmas.List.Elements.{All-head, All-nil, All-cons}
use Rattle.hs_pure.specs.declared.var.Var.{Var}
use Rattle.hs_pure.specs.declared.lin.Lin.{Lin}
use Rattle.hs_pure.specs.Stack.{same}
use Rattle.hs_pure.specs.Assertion.{BagTerm, empty, name, one, union, inter, diff, Assertion, truth, eq, lt, le, divides, bag_eq, subset, member, all_of, negation, both, either, exists, forall}
use Rattle.hs_pure.specs.Occurs.{in_lin}
use Rattle.hs_pure.specs.Mirror.{is_free_in}
use Rattle.hs_pure.specs.Sums.{LinIsOrdered}
use Rattle.hs_pure.specs.Sums as Sums
use Rattle.hs_pure.proofs.Lists.{All-later}
use Rattle.hs_pure.proofs.Vars.{same-eq}
use Rattle.hs_elimination.specs.Linear.{place, merge, plus, scale_term, times, number}
use Rattle.hs_elimination.specs.Cases.{has_lin, join_distinct}
use Rattle.hs_elimination.specs.Ordered.{term_sums, assertion_sums, AssertionIsOrdered, has_bag_literal}
use Rattle.hs_elimination.proofs.Meaning.{RisesFrom}
use Rattle.hs_elimination.proofs.Rising.{rises-merge, rises-scale}
use Rattle.hs_elimination.proofs.Variables.{Each, each-merge, each-scale}
use Rattle.hs_elimination.proofs.Order.{All-before, All-after, All-both}
use Rattle.hs_reduction.specs.Layout.{number_variable, variable, Layout, layout, width, element, count_number, lin_place, terms, bag_compounds, compounds, denied, after}
use Rattle.hs_reduction.specs.Instance.{Substitution, itself, instead, substituted_lin, substituted, Instance, replaced, stated, instance}
use Rattle.hs_reduction.specs.Reduction.{all_below, zero_term, count_term, defined, all_defined, both_defined, signed, positive_at, reduced, equal_at, within_at, held_at, broken_at, equal_counts, is_count, are_counts, reduction}
use Rattle.hs_reduction.specs.Laws.{ReductionIsOrdered, FreeAreNumbers}
use Rattle.hs_reduction.proofs.Plain.{reduction_has_no_bags}
use Rattle.hs_reduction.proofs.Search.{order_left, order_right, order_body}

-- ---- sums

abbrev IsNumber : Var → Type 0
IsNumber v = v.bag ≡ false

place-number : (v : Var) → IsNumber v → place v ≡ 2 * v.number
place-number v e = ap (λ k. 2 * v.number + cond k 1 0) e ∙ plus_none (2 * v.number)
  where
    plus_none : (n : ℕ) → n + 0 ≡ n
    plus_none n = omega arith

rises : (n m : ℕ) (ts : List (Var × ℤ)) → m ≤ 2 * n → Sums.RisesFrom n ts → RisesFrom m ts
rises n m [] h r = tt
rises n m (t ∷ ts) h r = let e = place-number t.0 r.1 in let k = r.0 in (omega arith, r.2, rises (suc t.0.number) (suc (place t.0)) ts (omega arith) r.3)

numbers-of : (n : ℕ) (ts : List (Var × ℤ)) → Sums.RisesFrom n ts → Each IsNumber ts
numbers-of n [] r = tt
numbers-of n (t ∷ ts) r = (r.1, numbers-of (suc t.0.number) ts r.3)

in_order : (n m : ℕ) (ts : List (Var × ℤ)) → 2 * n ≤ m + 1 → RisesFrom m ts → Each IsNumber ts → Sums.RisesFrom n ts
in_order n m [] h r k = tt
in_order n m (t ∷ ts) h r k = let e = place-number t.0 k.0 in let l = r.0 in (omega arith, k.0, r.1, in_order (suc t.0.number) (suc (place t.0)) ts (omega arith) r.2 k.1)

ordered-plus : (a b : Lin) → LinIsOrdered a → LinIsOrdered b → LinIsOrdered (plus a b)
ordered-plus a b h k =
    in_order 0 0 (merge a.terms b.terms) (omega arith) (rises-merge 0 a.terms b.terms (rises 0 0 a.terms (omega arith) h) (rises 0 0 b.terms (omega arith) k))
    (each-merge IsNumber a.terms b.terms (numbers-of 0 a.terms h) (numbers-of 0 b.terms k))

ordered-times : (c : ℤ) (a : Lin) → ¬ (c ≡ pos 0) → LinIsOrdered a → LinIsOrdered (times c a)
ordered-times c a n h =
    in_order 0 0 (map (scale_term c) a.terms) (omega arith) (rises-scale 0 c a.terms n (rises 0 0 a.terms (omega arith) h)) (each-scale IsNumber c a.terms (numbers-of 0 a.terms h))

one_is_not_zero : ¬ (pos 1 ≡ pos 0)
one_is_not_zero e = cc

ordered-itself : (v : Var) → IsNumber v → LinIsOrdered (itself v)
ordered-itself v h = (omega arith, h, one_is_not_zero, tt)

ordered-variable : (n : ℕ) → LinIsOrdered (variable n)
ordered-variable n = ordered-itself (number_variable n) refl

-- ---- substitution

-- what is put in for number variables is in order
abbrev IsOrderly : Substitution → Type 0
IsOrderly f = (v : Var) → IsNumber v → LinIsOrdered (f v)

ordered-instead : (u : Var) (a : Lin) (f : Substitution) → LinIsOrdered a → IsOrderly f → IsOrderly (instead u a f)
ordered-instead u a f h k v n = by_test (same u v)
  where
    by_test : (b : Bool) → LinIsOrdered (if b then a else f v)
    by_test true = h
    by_test false = k v n

ordered-terms : (f : Substitution) (sum : Lin) (n : ℕ) (ts : List (Var × ℤ)) → IsOrderly f → LinIsOrdered sum → Sums.RisesFrom n ts →
    LinIsOrdered (fold (λ sum t. plus sum (times t.1 (f t.0))) sum ts)
ordered-terms f sum n [] h k r = k
ordered-terms f sum n (t ∷ ts) h k r =
    ordered-terms f (plus sum (times t.1 (f t.0))) (suc t.0.number) ts h (ordered-plus sum (times t.1 (f t.0)) k (ordered-times t.1 (f t.0) r.2 (h t.0 r.1))) r.3

ordered-lin : (f : Substitution) (a : Lin) → IsOrderly f → LinIsOrdered a → LinIsOrdered (substituted_lin f a)
ordered-lin f a h k = ordered-terms f (number a.constant) 0 a.terms h tt k

-- ---- assertions

one_sum : (a : Lin) → LinIsOrdered a → All LinIsOrdered (a ∷ [])
one_sum a h = All-cons LinIsOrdered a [] h (All-nil LinIsOrdered)

two_sums : (a b : Lin) → LinIsOrdered a → LinIsOrdered b → All LinIsOrdered (a ∷ b ∷ [])
two_sums a b h k = All-cons LinIsOrdered a (b ∷ []) h (one_sum b k)

sum_first : (a : Lin) (rest : List Lin) → All LinIsOrdered (a ∷ rest) → LinIsOrdered a
sum_first a rest h = All-head LinIsOrdered a rest h

sum_second : (a b : Lin) → All LinIsOrdered (a ∷ b ∷ []) → LinIsOrdered b
sum_second a b h = sum_first b [] (All-later LinIsOrdered a (b ∷ []) h)

joined : (p q : Assertion) → AssertionIsOrdered p → AssertionIsOrdered q → All LinIsOrdered (assertion_sums p ++ assertion_sums q)
joined p q h k = All-both LinIsOrdered (assertion_sums p) (assertion_sums q) h k

ordered-pair : (f : Substitution) (a b : Lin) → IsOrderly f → All LinIsOrdered (a ∷ b ∷ []) → All LinIsOrdered (substituted_lin f a ∷ substituted_lin f b ∷ [])
ordered-pair f a b h k = two_sums (substituted_lin f a) (substituted_lin f b) (ordered-lin f a h (sum_first a (b ∷ []) k)) (ordered-lin f b h (sum_second a b k))

ordered-substituted : (f : Substitution) (n : ℕ) (p : Assertion) → IsOrderly f → AssertionIsOrdered p → AssertionIsOrdered (substituted f n p)
ordered-substituted f n truth h k = k
ordered-substituted f n (eq a b) h k = ordered-pair f a b h k
ordered-substituted f n (lt a b) h k = ordered-pair f a b h k
ordered-substituted f n (le a b) h k = ordered-pair f a b h k
ordered-substituted f n (divides d a) h k = one_sum (substituted_lin f a) (ordered-lin f a h (sum_first a [] k))
ordered-substituted f n (bag_eq a b) h k = All-nil LinIsOrdered
ordered-substituted f n (subset a b) h k = All-nil LinIsOrdered
ordered-substituted f n (member a b) h k = All-nil LinIsOrdered
ordered-substituted f n (all_of u b p) h k = All-nil LinIsOrdered
ordered-substituted f n (negation p) h k = ordered-substituted f n p h k
ordered-substituted f n (both p q) h k =
    joined (substituted f n p) (substituted f n q) (ordered-substituted f n p h (order_left p q k)) (ordered-substituted f n q h (order_right p q k))
ordered-substituted f n (either p q) h k =
    joined (substituted f n p) (substituted f n q) (ordered-substituted f n p h (order_left p q k)) (ordered-substituted f n q h (order_right p q k))
ordered-substituted f n (exists u p) h k =
    ordered-substituted (instead u (variable n) f) (suc n) p (ordered-instead u (variable n) f (ordered-variable n) h) k
ordered-substituted f n (forall u p) h k =
    ordered-substituted (instead u (variable n) f) (suc n) p (ordered-instead u (variable n) f (ordered-variable n) h) k

ordered-instance : (way : Instance) (u : Var) (a : Lin) (n : ℕ) (p : Assertion) → LinIsOrdered a → AssertionIsOrdered p → AssertionIsOrdered (instance way u a n p)
ordered-instance replaced u a n p h k = ordered-substituted (instead u a itself) n p (ordered-instead u a itself h ordered-itself) k
ordered-instance stated u a n p h k =
    joined (eq (variable n) a) (substituted (instead u (variable n) itself) (suc n) p) (two_sums (variable n) a (ordered-variable n) h)
    (ordered-substituted (instead u (variable n) itself) (suc n) p (ordered-instead u (variable n) itself (ordered-variable n) ordered-itself) k)

ordered-all_below : (n : ℕ) (f : ℕ → Assertion) → ((i : ℕ) → AssertionIsOrdered (f i)) → AssertionIsOrdered (all_below n f)
ordered-all_below zero f h = All-nil LinIsOrdered
ordered-all_below (suc zero) f h = h 0
ordered-all_below (suc (suc n)) f h = joined (all_below (suc n) f) (f (suc n)) (ordered-all_below (suc n) f h) (h (suc n))

ordered-signed : (b : Bool) (p : Assertion) → AssertionIsOrdered p → AssertionIsOrdered (signed b p)
ordered-signed true p h = h
ordered-signed false p h = h

ordered-at : (xs : List Lin) (i : ℕ) (d : Lin) → All LinIsOrdered xs → LinIsOrdered d → LinIsOrdered (get_or xs i d)
ordered-at [] i d h k = k
ordered-at (x ∷ xs) zero d h k = sum_first x xs h
ordered-at (x ∷ xs) (suc i) d h k = ordered-at xs i d (All-later LinIsOrdered x xs h) k

module _ (l : Layout) (listed : All LinIsOrdered l.listed) where
  ordered-element : (i : ℕ) → LinIsOrdered (element l i)
  ordered-element i = by_test (nat_lt i (length l.listed))
    where
      by_test : (b : Bool) → LinIsOrdered (if b then get_or l.listed i (number (pos 0)) else variable (l.start + (i - length l.listed)))
      by_test true = ordered-at l.listed i (number (pos 0)) listed tt
      by_test false = ordered-variable (l.start + (i - length l.listed))

  ordered-count : (block : ℕ) (b : BagTerm) (i : ℕ) → LinIsOrdered (count_term l block b i)
  ordered-count block empty i = tt
  ordered-count block (name v) i = ordered-variable _
  ordered-count block (one a) i = ordered-variable _
  ordered-count block (union a b) i = ordered-variable _
  ordered-count block (inter a b) i = ordered-variable _
  ordered-count block (diff a b) i = ordered-variable _

  parts-defined : (block : ℕ) (a b : BagTerm) (i : ℕ) → AssertionIsOrdered (defined l block a i) → AssertionIsOrdered (defined l (block + bag_compounds a) b i) → AssertionIsOrdered (both (defined l block a i) (defined l (block + bag_compounds a) b i))
  parts-defined block a b i h k = joined (defined l block a i) (defined l (block + bag_compounds a) b i) h k

  ordered-cases : (p q r s : Assertion) → AssertionIsOrdered p → AssertionIsOrdered q → AssertionIsOrdered r → AssertionIsOrdered s → AssertionIsOrdered (either (both p q) (both r s))
  ordered-cases p q r s h k m n = joined (both p q) (both r s) (joined p q h k) (joined r s m n)

  ordered-defined : (block : ℕ) (b : BagTerm) (i : ℕ) → All LinIsOrdered (term_sums b) → AssertionIsOrdered (defined l block b i)
  ordered-defined block empty i h = All-nil LinIsOrdered
  ordered-defined block (name v) i h = All-nil LinIsOrdered
  ordered-defined block (one a) i h =
      let c = count_term l block (one a) i in
      let is = two_sums (element l i) a (ordered-element i) (sum_first a [] h) in
      ordered-cases (eq (element l i) a) (eq c (number (pos 1))) (negation (eq (element l i) a)) (eq c zero_term)
      is (two_sums c (number (pos 1)) (ordered-count block (one a) i) tt) is (two_sums c zero_term (ordered-count block (one a) i) tt)
  ordered-defined block (union a b) i h =
      let c = count_term l block (union a b) i in
      let x = count_term l block a i in
      let y = count_term l (block + bag_compounds a) b i in
      joined (both (defined l block a i) (defined l (block + bag_compounds a) b i)) (eq c (plus x y))
      (parts-defined block a b i (ordered-defined block a i (All-before LinIsOrdered (term_sums a) (term_sums b) h)) (ordered-defined (block + bag_compounds a) b i (All-after LinIsOrdered (term_sums a) (term_sums b) h)))
      (two_sums c (plus x y) (ordered-count block (union a b) i) (ordered-plus x y (ordered-count block a i) (ordered-count (block + bag_compounds a) b i)))
  ordered-defined block (inter a b) i h =
      let c = count_term l block (inter a b) i in
      let x = count_term l block a i in
      let y = count_term l (block + bag_compounds a) b i in
      let c_is = ordered-count block (inter a b) i in
      let x_is = ordered-count block a i in
      let y_is = ordered-count (block + bag_compounds a) b i in
      joined (both (defined l block a i) (defined l (block + bag_compounds a) b i)) (either (both (le x y) (eq c x)) (both (lt y x) (eq c y)))
      (parts-defined block a b i (ordered-defined block a i (All-before LinIsOrdered (term_sums a) (term_sums b) h)) (ordered-defined (block + bag_compounds a) b i (All-after LinIsOrdered (term_sums a) (term_sums b) h)))
      (ordered-cases (le x y) (eq c x) (lt y x) (eq c y) (two_sums x y x_is y_is) (two_sums c x c_is x_is) (two_sums y x y_is x_is) (two_sums c y c_is y_is))
  ordered-defined block (diff a b) i h =
      let c = count_term l block (diff a b) i in
      let x = count_term l block a i in
      let y = count_term l (block + bag_compounds a) b i in
      let c_is = ordered-count block (diff a b) i in
      let x_is = ordered-count block a i in
      let y_is = ordered-count (block + bag_compounds a) b i in
      joined (both (defined l block a i) (defined l (block + bag_compounds a) b i)) (either (both (le x y) (eq c zero_term)) (both (lt y x) (eq (plus c y) x)))
      (parts-defined block a b i (ordered-defined block a i (All-before LinIsOrdered (term_sums a) (term_sums b) h)) (ordered-defined (block + bag_compounds a) b i (All-after LinIsOrdered (term_sums a) (term_sums b) h)))
      (ordered-cases (le x y) (eq c zero_term) (lt y x) (eq (plus c y) x) (two_sums x y x_is y_is) (two_sums c zero_term c_is tt) (two_sums y x y_is x_is) (two_sums (plus c y) x (ordered-plus c y c_is y_is) x_is))

  ordered-all_defined : (block : ℕ) (b : BagTerm) → All LinIsOrdered (term_sums b) → AssertionIsOrdered (all_defined l block b)
  ordered-all_defined block b h = ordered-all_below (width l) (defined l block b) (λ i. ordered-defined block b i h)

  ordered-both_defined : (block : ℕ) (a b : BagTerm) → All LinIsOrdered (term_sums a ++ term_sums b) → AssertionIsOrdered (both_defined l block a b)
  ordered-both_defined block a b h = joined (all_defined l block a) (all_defined l (block + bag_compounds a) b)
      (ordered-all_defined block a (All-before LinIsOrdered (term_sums a) (term_sums b) h)) (ordered-all_defined (block + bag_compounds a) b (All-after LinIsOrdered (term_sums a) (term_sums b) h))

  -- a comparison of two counts
  ordered-two : (block : ℕ) (a b : BagTerm) (i : ℕ) → All LinIsOrdered (count_term l block a i ∷ count_term l (block + bag_compounds a) b i ∷ [])
  ordered-two block a b i = two_sums (count_term l block a i) (count_term l (block + bag_compounds a) b i) (ordered-count block a i) (ordered-count (block + bag_compounds a) b i)

  ordered-positive : (block : ℕ) (b : BagTerm) (i : ℕ) → AssertionIsOrdered (positive_at l block b i)
  ordered-positive block b i = two_sums zero_term (count_term l block b i) tt (ordered-count block b i)

  module _ (way : Instance) (end : ℕ) where
    ordered-element_instance : (u : Var) (p : Assertion) (i : ℕ) → AssertionIsOrdered p → AssertionIsOrdered (instance way u (element l i) end p)
    ordered-element_instance u p i h = ordered-instance way u (element l i) end p (ordered-element i) h

    ordered-held : (block : ℕ) (u : Var) (b : BagTerm) (p : Assertion) → AssertionIsOrdered p → (i : ℕ) → AssertionIsOrdered (held_at l way end block u b p i)
    ordered-held block u b p h i = joined (eq (count_term l block b i) zero_term) (instance way u (element l i) end p)
        (two_sums (count_term l block b i) zero_term (ordered-count block b i) tt) (ordered-element_instance u p i h)

    ordered-broken : (block : ℕ) (u : Var) (b : BagTerm) (p : Assertion) → AssertionIsOrdered p → (i : ℕ) → AssertionIsOrdered (broken_at l way end block u b p i)
    ordered-broken block u b p h i = joined (positive_at l block b i) (negation (instance way u (element l i) end p)) (ordered-positive block b i) (ordered-element_instance u p i h)

    ordered-reduced : (asserted : Bool) (p : Assertion) (new block : ℕ) → AssertionIsOrdered p → AssertionIsOrdered (reduced l way end asserted p new block)
    ordered-reduced true truth new block h = h
    ordered-reduced false truth new block h = h
    ordered-reduced true (eq a b) new block h = h
    ordered-reduced false (eq a b) new block h = h
    ordered-reduced true (lt a b) new block h = h
    ordered-reduced false (lt a b) new block h = h
    ordered-reduced true (le a b) new block h = h
    ordered-reduced false (le a b) new block h = h
    ordered-reduced true (divides d a) new block h = h
    ordered-reduced false (divides d a) new block h = h
    ordered-reduced true (exists u p) new block h = h
    ordered-reduced false (exists u p) new block h = h
    ordered-reduced true (forall u p) new block h = h
    ordered-reduced false (forall u p) new block h = h
    ordered-reduced true (bag_eq a b) new block h = joined (both_defined l block a b) (all_below (width l) (equal_at l block a b))
        (ordered-both_defined block a b h) (ordered-all_below (width l) (equal_at l block a b) (ordered-two block a b))
    ordered-reduced false (bag_eq a b) new block h = joined (both_defined l block a b) (negation (equal_at l block a b (length l.listed + new)))
        (ordered-both_defined block a b h) (ordered-two block a b (length l.listed + new))
    ordered-reduced true (subset a b) new block h = joined (both_defined l block a b) (all_below (width l) (within_at l block a b))
        (ordered-both_defined block a b h) (ordered-all_below (width l) (within_at l block a b) (ordered-two block a b))
    ordered-reduced false (subset a b) new block h = joined (both_defined l block a b) (negation (within_at l block a b (length l.listed + new)))
        (ordered-both_defined block a b h) (ordered-two block a b (length l.listed + new))
    ordered-reduced true (member a b) new block h = joined (all_defined l block b) (positive_at l block b (lin_place a l.listed))
        (ordered-all_defined block b (All-later LinIsOrdered a (term_sums b) h)) (ordered-positive block b (lin_place a l.listed))
    ordered-reduced false (member a b) new block h = joined (all_defined l block b) (negation (positive_at l block b (lin_place a l.listed)))
        (ordered-all_defined block b (All-later LinIsOrdered a (term_sums b) h)) (ordered-positive block b (lin_place a l.listed))
    ordered-reduced true (all_of u b p) new block h = joined (all_defined l block b) (all_below (width l) (held_at l way end block u b p))
        (ordered-all_defined block b (All-before LinIsOrdered (term_sums b) (assertion_sums p) h)) (ordered-all_below (width l) (held_at l way end block u b p) (ordered-held block u b p (order_body u b p h)))
    ordered-reduced false (all_of u b p) new block h = joined (all_defined l block b) (broken_at l way end block u b p (length l.listed + new))
        (ordered-all_defined block b (All-before LinIsOrdered (term_sums b) (assertion_sums p) h)) (ordered-broken block u b p (order_body u b p h) (length l.listed + new))
    ordered-reduced true (negation p) new block h = ordered-reduced false p new block h
    ordered-reduced false (negation p) new block h = ordered-reduced true p new block h
    ordered-reduced true (both p q) new block h = joined (reduced l way end true p new block) (reduced l way end true q (new + denied true p) (block + compounds p))
        (ordered-reduced true p new block (order_left p q h)) (ordered-reduced true q (new + denied true p) (block + compounds p) (order_right p q h))
    ordered-reduced false (both p q) new block h = joined (reduced l way end false p new block) (reduced l way end false q (new + denied false p) (block + compounds p))
        (ordered-reduced false p new block (order_left p q h)) (ordered-reduced false q (new + denied false p) (block + compounds p) (order_right p q h))
    ordered-reduced true (either p q) new block h = joined (reduced l way end true p new block) (reduced l way end true q (new + denied true p) (block + compounds p))
        (ordered-reduced true p new block (order_left p q h)) (ordered-reduced true q (new + denied true p) (block + compounds p) (order_right p q h))
    ordered-reduced false (either p q) new block h = joined (reduced l way end false p new block) (reduced l way end false q (new + denied false p) (block + compounds p))
        (ordered-reduced false p new block (order_left p q h)) (ordered-reduced false q (new + denied false p) (block + compounds p) (order_right p q h))

  ordered-equal_counts : (block i j : ℕ) → AssertionIsOrdered (equal_counts l block i j)
  ordered-equal_counts block i j =
      let c = variable (count_number l block i) in
      let d = variable (count_number l block j) in
      joined (negation (eq (element l i) (element l j))) (eq c d)
      (two_sums (element l i) (element l j) (ordered-element i) (ordered-element j)) (two_sums c d (ordered-variable (count_number l block i)) (ordered-variable (count_number l block j)))

  ordered-counts : (block : ℕ) → AssertionIsOrdered (are_counts l block)
  ordered-counts block = ordered-all_below (width l) (is_count l block) (λ i.
      joined (le zero_term (variable (count_number l block i))) (all_below i (equal_counts l block i))
      (two_sums zero_term (variable (count_number l block i)) tt (ordered-variable (count_number l block i))) (ordered-all_below i (equal_counts l block i) (ordered-equal_counts block i)))

-- ---- the element terms of the text

ordered-joined : (done xs : List Lin) → All LinIsOrdered done → All LinIsOrdered xs → All LinIsOrdered (join_distinct done xs)
ordered-joined done [] h k = h
ordered-joined done (x ∷ xs) h k = ordered-joined (if has_lin x done then done else done ++ x ∷ []) xs (by_test (has_lin x done)) (All-later LinIsOrdered x xs k)
  where
    by_test : (b : Bool) → All LinIsOrdered (if b then done else done ++ x ∷ [])
    by_test true = h
    by_test false = All-both LinIsOrdered done (x ∷ []) h (one_sum x (sum_first x xs k))

ordered-sides : (p q : Assertion) → All LinIsOrdered (terms p) → All LinIsOrdered (terms q) → All LinIsOrdered (terms p ++ terms q)
ordered-sides p q h k = All-both LinIsOrdered (terms p) (terms q) h k

ordered-text : (p : Assertion) → AssertionIsOrdered p → All LinIsOrdered (terms p)
ordered-text truth h = All-nil LinIsOrdered
ordered-text (eq a b) h = All-nil LinIsOrdered
ordered-text (lt a b) h = All-nil LinIsOrdered
ordered-text (le a b) h = All-nil LinIsOrdered
ordered-text (divides d a) h = All-nil LinIsOrdered
ordered-text (bag_eq a b) h = h
ordered-text (subset a b) h = h
ordered-text (member a b) h = h
ordered-text (all_of u b p) h = All-before LinIsOrdered (term_sums b) (assertion_sums p) h
ordered-text (negation p) h = ordered-text p h
ordered-text (both p q) h = ordered-sides p q (ordered-text p (order_left p q h)) (ordered-text q (order_right p q h))
ordered-text (either p q) h = ordered-sides p q (ordered-text p (order_left p q h)) (ordered-text q (order_right p q h))
ordered-text (exists u p) h = All-nil LinIsOrdered
ordered-text (forall u p) h = All-nil LinIsOrdered

pub reduction_is_ordered : ReductionIsOrdered
reduction_is_ordered way start p h =
    let l = layout start p in
    let listed = ordered-joined [] (terms p) (All-nil LinIsOrdered) (ordered-text p h) in
    joined (all_below (length l.bags) (are_counts l)) (reduced l way (after l p) true p 0 (length l.bags))
    (ordered-all_below (length l.bags) (are_counts l) (ordered-counts l listed)) (ordered-reduced l listed way (after l p) true p 0 (length l.bags) h)

-- ---- free variables

number_in : (v : Var) (n : ℕ) (ts : List (Var × ℤ)) → Sums.RisesFrom n ts → list_any (λ t. same t.0 v) ts ≡ true → IsNumber v
number_in v n [] r h = absurd cc
number_in v n (t ∷ ts) r h = elim (cases_Bool (same t.0 v)) [
  | inl is ↦ subst IsNumber (same-eq t.0 v is) r.1
  | inr isnt ↦ number_in v (suc t.0.number) ts r.3 (let f : (same t.0 v || list_any (λ t. same t.0 v) ts) ≡ list_any (λ t. same t.0 v) ts = rw isnt refl in sym f ∙ h)
]

number_of : (v : Var) (a : Lin) → LinIsOrdered a → in_lin v a ≡ true → IsNumber v
number_of v a r h = number_in v 0 a.terms r h

one_of : (a b : Bool) → (a || b) ≡ true → (a ≡ true) ⊎ (b ≡ true)
one_of true b e = inl refl
one_of false b e = inr e

number_of_two : (v : Var) (a b : Lin) → All LinIsOrdered (a ∷ b ∷ []) → (in_lin v a || in_lin v b) ≡ true → IsNumber v
number_of_two v a b r h = elim (one_of (in_lin v a) (in_lin v b) h) [
  | inl e ↦ number_of v a (sum_first a (b ∷ []) r) e
  | inr e ↦ number_of v b (sum_second a b r) e
]

-- without bag literals
free_is_number : (v : Var) (p : Assertion) → has_bag_literal p ≡ false → AssertionIsOrdered p → is_free_in v p ≡ true → IsNumber v
free_is_number v truth plain order h = absurd cc
free_is_number v (eq a b) plain order h = number_of_two v a b order h
free_is_number v (lt a b) plain order h = number_of_two v a b order h
free_is_number v (le a b) plain order h = number_of_two v a b order h
free_is_number v (divides d a) plain order h = number_of v a (sum_first a [] order) h
free_is_number v (bag_eq a b) plain order h = absurd cc
free_is_number v (subset a b) plain order h = absurd cc
free_is_number v (member a b) plain order h = absurd cc
free_is_number v (all_of u b p) plain order h = absurd cc
free_is_number v (negation p) plain order h = free_is_number v p plain order h
free_is_number v (both p q) plain order h =
    let parts = or_parts (has_bag_literal p) (has_bag_literal q) plain in
    elim (one_of (is_free_in v p) (is_free_in v q) h) [
      | inl e ↦ free_is_number v p parts.0 (order_left p q order) e
      | inr e ↦ free_is_number v q parts.1 (order_right p q order) e
    ]
free_is_number v (either p q) plain order h =
    let parts = or_parts (has_bag_literal p) (has_bag_literal q) plain in
    elim (one_of (is_free_in v p) (is_free_in v q) h) [
      | inl e ↦ free_is_number v p parts.0 (order_left p q order) e
      | inr e ↦ free_is_number v q parts.1 (order_right p q order) e
    ]
free_is_number v (exists u p) plain order h = free_is_number v p plain order (and_parts (not (same u v)) (is_free_in v p) h).1
free_is_number v (forall u p) plain order h = free_is_number v p plain order (and_parts (not (same u v)) (is_free_in v p) h).1

pub free_are_numbers : FreeAreNumbers
free_are_numbers way start p v plain order h =
    free_is_number v (reduction way start p) (reduction_has_no_bags way start p plain) (reduction_is_ordered way start p order) h
