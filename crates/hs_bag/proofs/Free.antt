-- A reduction that has counts has a free variable.
use Rattle.std.proofs.Common.{ℕ, zero, suc, ◌+◌, ◌<◌, ◌⊎◌, inl, inr, Bool, true, false, not, IsTrue, pos, length, arith}
use Rattle.hs_pure.specs.declared.var.Var.{Var}
use Rattle.hs_pure.specs.declared.lin.Lin.{Lin}
use Rattle.hs_pure.specs.Stack.{same}
use Rattle.hs_pure.specs.Assertion.{BagTerm, empty, name, one, union, inter, diff, Assertion, truth, eq, lt, le, divides, bag_eq, subset, member, all_of, negation, both, either, exists, forall}
use Rattle.hs_pure.specs.Occurs.{in_lin}
use Rattle.hs_pure.specs.Mirror.{is_free_in}
use Rattle.hs_pure.proofs.Vars.{or_left, or_right, same-refl}
use Rattle.hs_elimination.specs.Linear.{number, plus}
use Rattle.hs_reduction.specs.Layout.{Layout, layout, number_variable, variable, width, element, lin_place, count_number, after, bag_compounds, compounds, denied}
use Rattle.hs_reduction.specs.Instance.{Instance}
use Rattle.hs_reduction.specs.Reduction.{all_below, signed, zero_term, is_least, is_difference, count_term, defined, all_defined, both_defined, equal_at, within_at, positive_at, held_at, broken_at, reduced, equal_counts, is_count, are_counts, reduction}
use Rattle.hs_bag.specs.Size.{HasCounts}

-- some variable is free
abbrev HasFree : Assertion → Type 0
HasFree p = (v : Var) × IsTrue (is_free_in v p)

in_variable : (n : ℕ) → IsTrue (in_lin (number_variable n) (variable n))
in_variable n = or_left (same (number_variable n) (number_variable n)) false (same-refl (number_variable n))

on_left : (p q : Assertion) → HasFree p → HasFree (both p q)
on_left p q (v, h) = (v, or_left (is_free_in v p) (is_free_in v q) h)

on_right : (p q : Assertion) → HasFree q → HasFree (both p q)
on_right p q (v, h) = (v, or_right (is_free_in v p) (is_free_in v q) h)

first_of_all : (n : ℕ) (f : ℕ → Assertion) → 0 < n → HasFree (f 0) → HasFree (all_below n f)
first_of_all zero f h k = absurd (omega arith)
first_of_all (suc zero) f h k = k
first_of_all (suc (suc n)) f h k = on_left (all_below (suc n) f) (f (suc n)) (first_of_all (suc n) f (omega arith) k)

either_positive : (m n : ℕ) → 0 < m + n → (0 < m) ⊎ (0 < n)
either_positive zero n h = inr (omega arith)
either_positive (suc m) n h = inl (omega arith)

on_some : (m n : ℕ) (p q : Assertion) → 0 < m + n → (0 < m → HasFree p) → (0 < n → HasFree q) → HasFree (both p q)
on_some m n p q h f g = by_side (either_positive m n h)
  where
    by_side : (0 < m) ⊎ (0 < n) → HasFree (both p q)
    by_side (inl k) = on_left p q (f k)
    by_side (inr k) = on_right p q (g k)

-- a variable is equated with something
equated : (n : ℕ) (a : Lin) → HasFree (eq (variable n) a)
equated n a = (number_variable n, or_left (in_lin (number_variable n) (variable n)) (in_lin (number_variable n) a) (in_variable n))

module _ (l : Layout) where
  in_defined : (block : ℕ) (b : BagTerm) (i : ℕ) → 0 < bag_compounds b → HasFree (defined l block b i)
  in_defined block empty i h = absurd (omega arith)
  in_defined block (name v) i h = absurd (omega arith)
  in_defined block (one a) i h =
      let c = variable (count_number l block i) in
      on_left (both (eq (element l i) a) (eq c (number (pos 1)))) (both (negation (eq (element l i) a)) (eq c zero_term))
      (on_right (eq (element l i) a) (eq c (number (pos 1))) (equated (count_number l block i) (number (pos 1))))
  in_defined block (union a b) i h =
      let n = count_number l (block + bag_compounds a + bag_compounds b) i in
      let sum = plus (count_term l block a i) (count_term l (block + bag_compounds a) b i) in
      on_right (both (defined l block a i) (defined l (block + bag_compounds a) b i)) (eq (variable n) sum) (equated n sum)
  in_defined block (inter a b) i h =
      let n = count_number l (block + bag_compounds a + bag_compounds b) i in
      let x = count_term l block a i in
      let y = count_term l (block + bag_compounds a) b i in
      on_right (both (defined l block a i) (defined l (block + bag_compounds a) b i)) (is_least (variable n) x y)
      (on_left (both (le x y) (eq (variable n) x)) (both (lt y x) (eq (variable n) y)) (on_right (le x y) (eq (variable n) x) (equated n x)))
  in_defined block (diff a b) i h =
      let n = count_number l (block + bag_compounds a + bag_compounds b) i in
      let x = count_term l block a i in
      let y = count_term l (block + bag_compounds a) b i in
      on_right (both (defined l block a i) (defined l (block + bag_compounds a) b i)) (is_difference (variable n) x y)
      (on_left (both (le x y) (eq (variable n) zero_term)) (both (lt y x) (eq (plus (variable n) y) x)) (on_right (le x y) (eq (variable n) zero_term) (equated n zero_term)))

  in_all_defined : (block : ℕ) (b : BagTerm) → 0 < width l → 0 < bag_compounds b → HasFree (all_defined l block b)
  in_all_defined block b wide h = first_of_all (width l) (defined l block b) wide (in_defined block b 0 h)

  in_both_defined : (block : ℕ) (a b : BagTerm) → 0 < width l → 0 < bag_compounds a + bag_compounds b → HasFree (both_defined l block a b)
  in_both_defined block a b wide h =
      on_some (bag_compounds a) (bag_compounds b) (all_defined l block a) (all_defined l (block + bag_compounds a) b) h (in_all_defined block a wide) (in_all_defined (block + bag_compounds a) b wide)

  module _ (way : Instance) (end : ℕ) where
    in_reduced : (asserted : Bool) (p : Assertion) (new block : ℕ) → 0 < width l → 0 < compounds p → HasFree (reduced l way end asserted p new block)
    in_reduced true (bag_eq a b) new block wide h = on_left (both_defined l block a b) (all_below (width l) (equal_at l block a b)) (in_both_defined block a b wide h)
    in_reduced false (bag_eq a b) new block wide h = on_left (both_defined l block a b) (negation (equal_at l block a b (length l.listed + new))) (in_both_defined block a b wide h)
    in_reduced true (subset a b) new block wide h = on_left (both_defined l block a b) (all_below (width l) (within_at l block a b)) (in_both_defined block a b wide h)
    in_reduced false (subset a b) new block wide h = on_left (both_defined l block a b) (negation (within_at l block a b (length l.listed + new))) (in_both_defined block a b wide h)
    in_reduced asserted (member a b) new block wide h = on_left (all_defined l block b) (signed asserted (positive_at l block b (lin_place a l.listed))) (in_all_defined block b wide h)
    in_reduced true (all_of u b p) new block wide h = on_left (all_defined l block b) (all_below (width l) (held_at l way end block u b p)) (in_all_defined block b wide h)
    in_reduced false (all_of u b p) new block wide h = on_left (all_defined l block b) (broken_at l way end block u b p (length l.listed + new)) (in_all_defined block b wide h)
    in_reduced asserted (negation p) new block wide h = in_reduced (not asserted) p new block wide h
    in_reduced true (both p q) new block wide h = on_some (compounds p) (compounds q) (reduced l way end true p new block) (reduced l way end true q (new + denied true p) (block + compounds p)) h (in_reduced true p new block wide) (in_reduced true q (new + denied true p) (block + compounds p) wide)
    in_reduced false (both p q) new block wide h = on_some (compounds p) (compounds q) (reduced l way end false p new block) (reduced l way end false q (new + denied false p) (block + compounds p)) h (in_reduced false p new block wide) (in_reduced false q (new + denied false p) (block + compounds p) wide)
    in_reduced true (either p q) new block wide h = on_some (compounds p) (compounds q) (reduced l way end true p new block) (reduced l way end true q (new + denied true p) (block + compounds p)) h (in_reduced true p new block wide) (in_reduced true q (new + denied true p) (block + compounds p) wide)
    in_reduced false (either p q) new block wide h = on_some (compounds p) (compounds q) (reduced l way end false p new block) (reduced l way end false q (new + denied false p) (block + compounds p)) h (in_reduced false p new block wide) (in_reduced false q (new + denied false p) (block + compounds p) wide)
    in_reduced asserted truth new block wide h = absurd (omega arith)
    in_reduced asserted (eq a b) new block wide h = absurd (omega arith)
    in_reduced asserted (lt a b) new block wide h = absurd (omega arith)
    in_reduced asserted (le a b) new block wide h = absurd (omega arith)
    in_reduced asserted (divides d a) new block wide h = absurd (omega arith)
    in_reduced asserted (exists u p) new block wide h = absurd (omega arith)
    in_reduced asserted (forall u p) new block wide h = absurd (omega arith)

  in_counts : 0 < width l → HasFree (are_counts l 0)
  in_counts wide =
      let n = count_number l 0 0 in
      first_of_all (width l) (is_count l 0) wide (on_left (le zero_term (variable n)) (all_below 0 (equal_counts l 0 0)) (number_variable n, or_right (in_lin (number_variable n) zero_term) (in_lin (number_variable n) (variable n)) (in_variable n)))

-- where some bag has a count, a variable is free in the reduction
pub free_in_reduction : (way : Instance) (start : ℕ) (p : Assertion) → HasCounts (layout start p) p → (v : Var) × IsTrue (is_free_in v (reduction way start p))
free_in_reduction way start p h = by_blocks (layout start p) h.1 (either_positive (length (layout start p).bags) (compounds p) h.0)
  where
    by_blocks : (l : Layout) → 0 < width l → (0 < length l.bags) ⊎ (0 < compounds p) → HasFree (both (all_below (length l.bags) (are_counts l)) (reduced l way (after l p) true p 0 (length l.bags)))
    by_blocks l wide (inl k) = on_left (all_below (length l.bags) (are_counts l)) (reduced l way (after l p) true p 0 (length l.bags)) (first_of_all (length l.bags) (are_counts l) k (in_counts l wide))
    by_blocks l wide (inr k) = on_right (all_below (length l.bags) (are_counts l)) (reduced l way (after l p) true p 0 (length l.bags)) (in_reduced l way (after l p) true p 0 (length l.bags) wide k)
