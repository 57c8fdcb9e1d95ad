-- A test of truth, by elimination of the quantifiers.
use Rattle.std.specs.Prelude.{suc, zero, Bool, true, false, not, ◌&&◌, ◌||◌, ℤ, pos, negsuc, int_lt}
use Rattle.std.specs.Ordering.{int_eq}
use Rattle.hs_pure.specs.Assertion.{Assertion, truth, eq, lt, le, divides, bag_eq, subset, member, all_of, negation, both, either, exists, forall}
use Rattle.hs_pure.specs.Stack.{Stack}
use Rattle.hs_pure.specs.Truth.{value}
use Rattle.hs_elimination.specs.Normal.{divides_test}
use Rattle.hs_elimination.specs.Elimination.{without_variable}

-- the same without quantifiers, innermost first, where there are no bag literals
abbrev pub without_quantifiers : Assertion → Assertion
without_quantifiers truth = truth
without_quantifiers (eq a b) = eq a b
without_quantifiers (lt a b) = lt a b
without_quantifiers (le a b) = le a b
without_quantifiers (divides d a) = divides d a
without_quantifiers (bag_eq a b) = bag_eq a b
without_quantifiers (subset a b) = subset a b
without_quantifiers (member a b) = member a b
without_quantifiers (all_of u b p) = all_of u b p
without_quantifiers (negation p) = negation (without_quantifiers p)
without_quantifiers (both p q) = both (without_quantifiers p) (without_quantifiers q)
without_quantifiers (either p q) = either (without_quantifiers p) (without_quantifiers q)
without_quantifiers (exists u p) = without_variable u (without_quantifiers p)
without_quantifiers (forall u p) = negation (without_variable u (negation (without_quantifiers p)))

-- whether d is at least 1 and divides z
abbrev pub is_divisor : ℤ → ℤ → Bool
is_divisor (pos zero) z = false
is_divisor (pos (suc n)) z = divides_test (suc n) z
is_divisor (negsuc n) z = false

-- whether an assertion without quantifiers and bag literals is true
abbrev pub evaluates_to : Stack → Assertion → Bool
evaluates_to s truth = true
evaluates_to s (eq a b) = int_eq (value s a) (value s b)
evaluates_to s (lt a b) = int_lt (value s a) (value s b)
evaluates_to s (le a b) = not (int_lt (value s b) (value s a))
evaluates_to s (divides d a) = is_divisor d (value s a)
evaluates_to s (bag_eq a b) = false
evaluates_to s (subset a b) = false
evaluates_to s (member a b) = false
evaluates_to s (all_of u b p) = false
evaluates_to s (negation p) = not (evaluates_to s p)
evaluates_to s (both p q) = evaluates_to s p && evaluates_to s q
evaluates_to s (either p q) = evaluates_to s p || evaluates_to s q
evaluates_to s (exists u p) = false
evaluates_to s (forall u p) = false

-- whether an assertion without bag literals is true
abbrev pub is_true_at : Stack → Assertion → Bool
is_true_at s p = evaluates_to s (without_quantifiers p)
