-- Bags in the place of bag variables.
use Rattle.std.specs.Prelude.{◌≡◌, ℕ, ◌≤◌, ℤ, IsTrue, List, [], ◌∷◌, if◌then◌else◌}
use Rattle.std.specs.List.{All}
use Rattle.hs_pure.specs.declared.var.Var.{Var}
use Rattle.hs_pure.specs.declared.bag.Bag.{Bag}
use Rattle.hs_pure.specs.declared.pure.Pure.{Pure}
use Rattle.hs_pure.specs.Assertion.{BagTerm, empty, name, one, union, inter, diff, Assertion, truth, eq, lt, le, divides, bag_eq, subset, member, all_of, negation, both, either, exists, forall, bag_term_of}
use Rattle.hs_pure.specs.Mirror.{bag_term_top}
use Rattle.hs_pure.specs.Occurs.{top_of, is_bags_plain}
use Rattle.hs_pure.specs.Stack.{Stack, same}
use Rattle.hs_pure.specs.Sums.{LinIsOrdered, IsOrdered}
use Rattle.hs_pure.specs.Truth.{count}
use Rattle.hs_elimination.specs.Ordered.{term_sums}

-- the bag that stands for a variable: its first pair counts, and without one it is itself
abbrev pub bag_for : List (Var × Bag) → Var → BagTerm
bag_for [] v = name v
bag_for (e ∷ es) v = if same e.0 v then bag_term_of e.1 else bag_for es v

module _ (es : List (Var × Bag)) where
  -- a bag with its variables replaced, all at once
  abbrev pub put_bags : BagTerm → BagTerm
  put_bags empty = empty
  put_bags (name v) = bag_for es v
  put_bags (one a) = one a
  put_bags (union a b) = union (put_bags a) (put_bags b)
  put_bags (inter a b) = inter (put_bags a) (put_bags b)
  put_bags (diff a b) = diff (put_bags a) (put_bags b)

  -- an assertion with its bag variables replaced, outside of quantifiers
  abbrev pub put_in_place : Assertion → Assertion
  put_in_place truth = truth
  put_in_place (eq a b) = eq a b
  put_in_place (lt a b) = lt a b
  put_in_place (le a b) = le a b
  put_in_place (divides d a) = divides d a
  put_in_place (bag_eq a b) = bag_eq (put_bags a) (put_bags b)
  put_in_place (subset a b) = subset (put_bags a) (put_bags b)
  put_in_place (member a b) = member a (put_bags b)
  put_in_place (all_of u b p) = all_of u (put_bags b) p
  put_in_place (negation p) = negation (put_in_place p)
  put_in_place (both p q) = both (put_in_place p) (put_in_place q)
  put_in_place (either p q) = either (put_in_place p) (put_in_place q)
  put_in_place (exists u p) = exists u p
  put_in_place (forall u p) = forall u p

-- a variable with its bag, and with the bag as others are put in place in it
abbrev pub read : Var × Bag → Var × BagTerm
read e = (e.0, bag_term_of e.1)

abbrev pub read_put : List (Var × Bag) → Var × Bag → Var × BagTerm
read_put es e = (e.0, put_bags es (bag_term_of e.1))

-- at a stack two bags have the same counts
abbrev pub AreAlike : Stack → BagTerm → BagTerm → Type 0
AreAlike s a b = (x : ℤ) → count s a x ≡ count s b x

-- at a stack each variable is worth its bag
pub record AreWorth (s : Stack) (es : List (Var × Bag)) : Type 0 where
  pub each : All (λ e. AreAlike s (name e.0) (bag_term_of e.1)) es

-- the sums of a bag are in order, and none of its numbers is above n
pub record BagSuits (n : ℕ) (b : BagTerm) : Type 0 where
  pub ordered : All LinIsOrdered (term_sums b)
  pub below : bag_term_top b ≤ n

pub record BagsSuit (n : ℕ) (es : List (Var × Bag)) : Type 0 where
  pub each : All (λ e. BagSuits n (bag_term_of e.1)) es

-- the sums of a formula are in order, its bag literals stand outside of quantifiers, and none of its numbers is above n
pub record Suits (n : ℕ) (p : Pure) : Type 0 where
  pub ordered : IsOrdered p
  pub plain : IsTrue (is_bags_plain p)
  pub below : top_of p ≤ n
