-- How many comparisons a reduction has.
use Rattle.std.specs.Prelude.{ℕ, ◌+◌, ◌*◌, Bool, true, false, not, List, [], ◌∷◌}
use Rattle.hs_pure.specs.declared.pure.Pure.{Pure}
use Rattle.hs_pure.specs.Assertion.{BagTerm, empty, name, one, union, inter, diff, Assertion, truth, eq, lt, le, divides, bag_eq, subset, member, all_of, negation, both, either, exists, forall, assertion_of}

-- the comparisons of numbers outside of quantifiers
abbrev pub comparisons : Assertion → ℕ
comparisons truth = 0
comparisons (eq a b) = 1
comparisons (lt a b) = 1
comparisons (le a b) = 1
comparisons (divides d a) = 0
comparisons (bag_eq a b) = 0
comparisons (subset a b) = 0
comparisons (member a b) = 0
comparisons (all_of u b p) = 0
comparisons (negation p) = comparisons p
comparisons (both p q) = comparisons p + comparisons q
comparisons (either p q) = comparisons p + comparisons q
comparisons (exists u p) = 0
comparisons (forall u p) = 0

-- what the definitions of a bag have at one element term
abbrev pub bag_comparisons : BagTerm → ℕ
bag_comparisons empty = 0
bag_comparisons (name v) = 0
bag_comparisons (one a) = 4
bag_comparisons (union a b) = bag_comparisons a + bag_comparisons b + 1
bag_comparisons (inter a b) = bag_comparisons a + bag_comparisons b + 4
bag_comparisons (diff a b) = bag_comparisons a + bag_comparisons b + 4

-- how often a literal of n comparisons is stated: at each of w element terms, or denied at one
abbrev pub times_stated : ℕ → Bool → ℕ → ℕ
times_stated w true n = w * n
times_stated w false n = n

-- what an assertion, or its denial, has after the reduction, where there are w element terms
abbrev pub reduced_comparisons : ℕ → Bool → Assertion → ℕ
reduced_comparisons w asserted truth = 0
reduced_comparisons w asserted (eq a b) = 1
reduced_comparisons w asserted (lt a b) = 1
reduced_comparisons w asserted (le a b) = 1
reduced_comparisons w asserted (divides d a) = 0
reduced_comparisons w asserted (bag_eq a b) = w * (bag_comparisons a + bag_comparisons b) + times_stated w asserted 1
reduced_comparisons w asserted (subset a b) = w * (bag_comparisons a + bag_comparisons b) + times_stated w asserted 1
reduced_comparisons w asserted (member a b) = w * bag_comparisons b + 1
reduced_comparisons w asserted (all_of u b p) = w * bag_comparisons b + times_stated w asserted (1 + comparisons p)
reduced_comparisons w asserted (negation p) = reduced_comparisons w (not asserted) p
reduced_comparisons w asserted (both p q) = reduced_comparisons w asserted p + reduced_comparisons w asserted q
reduced_comparisons w asserted (either p q) = reduced_comparisons w asserted p + reduced_comparisons w asserted q
reduced_comparisons w asserted (exists u p) = 0
reduced_comparisons w asserted (forall u p) = 0

-- ---- of formulas one after another

abbrev pub comparisons_of : Pure → ℕ
comparisons_of p = comparisons (assertion_of p)

abbrev pub all_comparisons : List Pure → ℕ
all_comparisons [] = 0
all_comparisons (p ∷ ps) = comparisons_of p + all_comparisons ps

abbrev pub reduced_of : ℕ → Bool → Pure → ℕ
reduced_of w asserted p = reduced_comparisons w asserted (assertion_of p)

abbrev pub all_reduced : ℕ → Bool → List Pure → ℕ
all_reduced w asserted [] = 0
all_reduced w asserted (p ∷ ps) = reduced_of w asserted p + all_reduced w asserted ps
