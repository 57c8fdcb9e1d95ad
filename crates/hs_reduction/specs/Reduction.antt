-- The plain reduction of an assertion with bags to one on numbers.
use Rattle.std.specs.Prelude.{ℕ, zero, suc, max, ◌+◌, Bool, true, false, not, length, pos}
use Rattle.hs_pure.specs.declared.var.Var.{Var}
use Rattle.hs_pure.specs.declared.lin.Lin.{Lin}
use Rattle.hs_pure.specs.Assertion.{BagTerm, empty, name, one, union, inter, diff, Assertion, truth, eq, lt, le, divides, bag_eq, subset, member, all_of, negation, both, either, exists, forall}
use Rattle.hs_pure.specs.Mirror.{assertion_top}
use Rattle.hs_elimination.specs.Linear.{number, plus}
use Rattle.hs_reduction.specs.Layout.{variable, lin_place, name_place, bag_compounds, compounds, denied, Layout, layout, width, element, count_number, after}
use Rattle.hs_reduction.specs.Instance.{Instance, replaced, instance, instance_depth}

-- f 0 and so on up to f (n - 1)
abbrev pub all_below : ℕ → (ℕ → Assertion) → Assertion
all_below zero f = truth
all_below (suc zero) f = f zero
all_below (suc (suc n)) f = both (all_below (suc n) f) (f (suc n))

abbrev pub signed : Bool → Assertion → Assertion
signed true p = p
signed false p = negation p

abbrev pub zero_term : Lin
zero_term = number (pos 0)

-- c is 1 where a is the element, else 0
abbrev pub is_single : Lin → Lin → Lin → Assertion
is_single c element a = either (both (eq element a) (eq c (number (pos 1)))) (both (negation (eq element a)) (eq c zero_term))

abbrev pub is_sum : Lin → Lin → Lin → Assertion
is_sum c x y = eq c (plus x y)

abbrev pub is_least : Lin → Lin → Lin → Assertion
is_least c x y = either (both (le x y) (eq c x)) (both (lt y x) (eq c y))

-- c is x less y, or 0 where y is greater
abbrev pub is_difference : Lin → Lin → Lin → Assertion
is_difference c x y = either (both (le x y) (eq c zero_term)) (both (lt y x) (eq (plus c y) x))

module _ (l : Layout) where
  -- the count of a bag at an element term; the blocks of its compound bags begin with `block`, and its own is the last
  abbrev pub count_term : ℕ → BagTerm → ℕ → Lin
  count_term block empty i = zero_term
  count_term block (name v) i = variable (count_number l (name_place v l.bags) i)
  count_term block (one a) i = variable (count_number l block i)
  count_term block (union a b) i = variable (count_number l (block + bag_compounds a + bag_compounds b) i)
  count_term block (inter a b) i = variable (count_number l (block + bag_compounds a + bag_compounds b) i)
  count_term block (diff a b) i = variable (count_number l (block + bag_compounds a + bag_compounds b) i)

  -- what its compound bags count at an element term
  abbrev pub defined : ℕ → BagTerm → ℕ → Assertion
  defined block empty i = truth
  defined block (name v) i = truth
  defined block (one a) i = is_single (count_term block (one a) i) (element l i) a
  defined block (union a b) i =
      both (both (defined block a i) (defined (block + bag_compounds a) b i))
      (is_sum (count_term block (union a b) i) (count_term block a i) (count_term (block + bag_compounds a) b i))
  defined block (inter a b) i =
      both (both (defined block a i) (defined (block + bag_compounds a) b i))
      (is_least (count_term block (inter a b) i) (count_term block a i) (count_term (block + bag_compounds a) b i))
  defined block (diff a b) i =
      both (both (defined block a i) (defined (block + bag_compounds a) b i))
      (is_difference (count_term block (diff a b) i) (count_term block a i) (count_term (block + bag_compounds a) b i))

  abbrev pub all_defined : ℕ → BagTerm → Assertion
  all_defined block b = all_below (width l) (defined block b)

  abbrev pub both_defined : ℕ → BagTerm → BagTerm → Assertion
  both_defined block a b = both (all_defined block a) (all_defined (block + bag_compounds a) b)

  -- ---- literals at one element term

  abbrev pub equal_at : ℕ → BagTerm → BagTerm → ℕ → Assertion
  equal_at block a b i = eq (count_term block a i) (count_term (block + bag_compounds a) b i)

  abbrev pub within_at : ℕ → BagTerm → BagTerm → ℕ → Assertion
  within_at block a b i = le (count_term block a i) (count_term (block + bag_compounds a) b i)

  abbrev pub positive_at : ℕ → BagTerm → ℕ → Assertion
  positive_at block b i = lt zero_term (count_term block b i)

  module _ (way : Instance) (end : ℕ) where
    abbrev pub held_at : ℕ → Var → BagTerm → Assertion → ℕ → Assertion
    held_at block u b p i = either (eq (count_term block b i) zero_term) (instance way u (element l i) end p)

    abbrev pub broken_at : ℕ → Var → BagTerm → Assertion → ℕ → Assertion
    broken_at block u b p i = both (positive_at block b i) (negation (instance way u (element l i) end p))

    -- the assertion, or its denial at `false`; its new elements begin with the one numbered `new`, its blocks with `block`
    abbrev pub reduced : Bool → Assertion → ℕ → ℕ → Assertion
    reduced true (bag_eq a b) new block = both (both_defined block a b) (all_below (width l) (equal_at block a b))
    reduced false (bag_eq a b) new block = both (both_defined block a b) (negation (equal_at block a b (length l.listed + new)))
    reduced true (subset a b) new block = both (both_defined block a b) (all_below (width l) (within_at block a b))
    reduced false (subset a b) new block = both (both_defined block a b) (negation (within_at block a b (length l.listed + new)))
    reduced asserted (member a b) new block = both (all_defined block b) (signed asserted (positive_at block b (lin_place a l.listed)))
    reduced true (all_of u b p) new block = both (all_defined block b) (all_below (width l) (held_at block u b p))
    reduced false (all_of u b p) new block = both (all_defined block b) (broken_at block u b p (length l.listed + new))
    reduced asserted (negation p) new block = reduced (not asserted) p new block
    reduced true (both p q) new block = both (reduced true p new block) (reduced true q (new + denied true p) (block + compounds p))
    reduced false (both p q) new block = either (reduced false p new block) (reduced false q (new + denied false p) (block + compounds p))
    reduced true (either p q) new block = either (reduced true p new block) (reduced true q (new + denied true p) (block + compounds p))
    reduced false (either p q) new block = both (reduced false p new block) (reduced false q (new + denied false p) (block + compounds p))
    reduced asserted truth new block = signed asserted truth
    reduced asserted (eq a b) new block = signed asserted (eq a b)
    reduced asserted (lt a b) new block = signed asserted (lt a b)
    reduced asserted (le a b) new block = signed asserted (le a b)
    reduced asserted (divides d a) new block = signed asserted (divides d a)
    reduced asserted (exists u p) new block = signed asserted (exists u p)
    reduced asserted (forall u p) new block = signed asserted (forall u p)

  -- ---- counts of bag variables

  abbrev pub equal_counts : ℕ → ℕ → ℕ → Assertion
  equal_counts block i j = either (negation (eq (element l i) (element l j))) (eq (variable (count_number l block i)) (variable (count_number l block j)))

  -- a count is not negative, and that of an equal element before it is equal
  abbrev pub is_count : ℕ → ℕ → Assertion
  is_count block i = both (le zero_term (variable (count_number l block i))) (all_below i (equal_counts block i))

  abbrev pub are_counts : ℕ → Assertion
  are_counts block = all_below (width l) (is_count block)

-- the reduction, whose new numbers begin with `start`
abbrev pub reduction : Instance → ℕ → Assertion → Assertion
reduction way start p =
    let l = layout start p in
    both (all_below (length l.bags) (are_counts l)) (reduced l way (after l p) true p 0 (length l.bags))

-- ---- bound variables of instances

-- how many of them stand in one another
abbrev pub inner_depth : Instance → Assertion → ℕ
inner_depth way truth = 0
inner_depth way (eq a b) = 0
inner_depth way (lt a b) = 0
inner_depth way (le a b) = 0
inner_depth way (divides d a) = 0
inner_depth way (bag_eq a b) = 0
inner_depth way (subset a b) = 0
inner_depth way (member a b) = 0
inner_depth way (all_of u b p) = instance_depth way p
inner_depth way (negation p) = inner_depth way p
inner_depth way (both p q) = max (inner_depth way p) (inner_depth way q)
inner_depth way (either p q) = max (inner_depth way p) (inner_depth way q)
inner_depth way (exists u p) = 0
inner_depth way (forall u p) = 0

-- the first number after all of the reduction, bound ones included
abbrev pub next : Instance → ℕ → Assertion → ℕ
next way start p = after (layout start p) p + inner_depth way p

-- ---- questions

-- the plain reduction, whose new numbers begin above all of the assertion
abbrev pub bagless : Assertion → Assertion
bagless p = reduction replaced (suc (assertion_top p)) p
