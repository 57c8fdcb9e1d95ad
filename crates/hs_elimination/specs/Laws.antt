-- What the layers above use of elimination.
use Rattle.std.specs.Prelude.{◌≡◌, ◌⊎◌, ◌↔◌, ℤ, false, IsTrue}
use Rattle.hs_pure.specs.declared.var.Var.{Var}
use Rattle.hs_pure.specs.declared.pure.Pure.{Pure}
use Rattle.hs_pure.specs.Assertion.{Assertion, assertion_of}
use Rattle.hs_pure.specs.Stack.{Stack, with_value, number_value}
use Rattle.hs_pure.specs.Truth.{IsTrueAt, TrueAt}
use Rattle.hs_pure.specs.Occurs.{has_bags}
use Rattle.hs_pure.specs.Mirror.{is_free_in}
use Rattle.hs_pure.specs.Sums.{IsOrdered}
use Rattle.hs_elimination.specs.Ordered.{AssertionIsOrdered, has_bag_literal}
use Rattle.hs_elimination.specs.Normal.{is_simple}
use Rattle.hs_elimination.specs.Elimination.{without_variable}
use Rattle.hs_elimination.specs.Decided.{is_true_at}

-- the result is true exactly where some integer y, as x, makes the assertion true
abbrev pub EliminationKeepsTruth : Type 0
EliminationKeepsTruth =
    (x : Var) (p : Assertion) → IsTrue (is_simple p) → AssertionIsOrdered p → (s : Stack)
    → ((y : ℤ) × IsTrueAt (with_value x (number_value y) s) p) ↔ IsTrueAt s (without_variable x p)

abbrev pub EliminationKeepsOrder : Type 0
EliminationKeepsOrder = (x : Var) (p : Assertion) → IsTrue (is_simple p) → AssertionIsOrdered p → AssertionIsOrdered (without_variable x p)

-- x is gone
abbrev pub EliminationLacks : Type 0
EliminationLacks = (x : Var) (p : Assertion) → is_free_in x (without_variable x p) ≡ false

-- no variable is new
abbrev pub EliminationAddsNone : Type 0
EliminationAddsNone = (x : Var) (p : Assertion) (v : Var) → IsTrue (is_simple p) → IsTrue (is_free_in v (without_variable x p)) → IsTrue (is_free_in v p)

-- the result has neither quantifiers nor bag literals
abbrev pub EliminationIsSimple : Type 0
EliminationIsSimple = (x : Var) (p : Assertion) → IsTrue (is_simple (without_variable x p))

-- the sums of a formula are those of its assertion
abbrev pub OrderIsOfAssertion : Type 0
OrderIsOfAssertion = (p : Pure) → IsOrdered p ↔ AssertionIsOrdered (assertion_of p)

abbrev pub BagsAreOfAssertion : Type 0
BagsAreOfAssertion = (p : Pure) → has_bags p ≡ has_bag_literal (assertion_of p)

-- the test tells the truth of a formula without bag literals
abbrev pub TruthIsTested : Type 0
TruthIsTested = (s : Stack) (p : Pure) → has_bags p ≡ false → IsOrdered p → TrueAt s p ↔ IsTrue (is_true_at s (assertion_of p))

abbrev pub TruthIsDecided : Type 0
TruthIsDecided = (s : Stack) (p : Pure) → has_bags p ≡ false → IsOrdered p → TrueAt s p ⊎ (¬ (TrueAt s p))
