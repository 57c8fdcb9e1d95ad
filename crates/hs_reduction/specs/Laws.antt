-- What the layers above use of the reduction.
use Rattle.std.specs.Prelude.{◌≡◌, ℕ, ◌<◌, ◌↔◌, false, IsTrue}
use Rattle.hs_pure.specs.declared.var.Var.{Var}
use Rattle.hs_pure.specs.declared.pure.Pure.{Pure}
use Rattle.hs_pure.specs.Assertion.{Assertion, assertion_of}
use Rattle.hs_pure.specs.Stack.{Stack}
use Rattle.hs_pure.specs.Truth.{IsTrueAt}
use Rattle.hs_pure.specs.Occurs.{is_bags_plain}
use Rattle.hs_pure.specs.Mirror.{is_free_in, assertion_top}
use Rattle.hs_elimination.specs.Ordered.{AssertionIsOrdered, has_bag_literal}
use Rattle.hs_reduction.specs.Layout.{bags_plain, layout}
use Rattle.hs_reduction.specs.Instance.{Instance}
use Rattle.hs_reduction.specs.Reduction.{reduction, next, bagless}
use Rattle.hs_reduction.specs.Rebuilt.{rebuilt, CountsAreRight}

-- where the reduction is true, the assertion is true with the bags that the counts say
abbrev pub RebuiltBagsMakeTrue : Type 0
RebuiltBagsMakeTrue =
    (way : Instance) (start : ℕ) (p : Assertion) → assertion_top p < start → IsTrue (bags_plain p) → (t : Stack)
    → IsTrueAt t (reduction way start p) → IsTrueAt (rebuilt (layout start p) t) p

-- where the assertion is true, the reduction is true with the same numbers and some new ones
abbrev pub ReducedIsSatisfiable : Type 0
ReducedIsSatisfiable =
    (way : Instance) (start : ℕ) (p : Assertion) → assertion_top p < start → IsTrue (bags_plain p) → AssertionIsOrdered p → (s : Stack)
    → IsTrueAt s p → (t : Stack) × (((v : Var) → v.number < start → (t v).number ≡ (s v).number) × IsTrueAt t (reduction way start p))

-- the assertion is satisfiable exactly where its reduction is
abbrev pub ReductionIsExact : Type 0
ReductionIsExact =
    (way : Instance) (start : ℕ) (p : Assertion) → assertion_top p < start → IsTrue (bags_plain p) → AssertionIsOrdered p
    → ((s : Stack) × IsTrueAt s p) ↔ ((t : Stack) × IsTrueAt t (reduction way start p))

-- where the reduction is true, the counts of bag variables are counts
abbrev pub CountsAreCounts : Type 0
CountsAreCounts = (way : Instance) (start : ℕ) (p : Assertion) (t : Stack) → IsTrueAt t (reduction way start p) → CountsAreRight (layout start p) t

abbrev pub ReductionHasNoBags : Type 0
ReductionHasNoBags = (way : Instance) (start : ℕ) (p : Assertion) → IsTrue (bags_plain p) → has_bag_literal (reduction way start p) ≡ false

-- all numbers of the reduction, bound ones included
abbrev pub NumbersAreBelow : Type 0
NumbersAreBelow = (way : Instance) (start : ℕ) (p : Assertion) → assertion_top p < start → IsTrue (bags_plain p) → assertion_top (reduction way start p) < next way start p

abbrev pub ReductionIsOrdered : Type 0
ReductionIsOrdered = (way : Instance) (start : ℕ) (p : Assertion) → AssertionIsOrdered p → AssertionIsOrdered (reduction way start p)

-- free variables of the reduction are number variables
abbrev pub FreeAreNumbers : Type 0
FreeAreNumbers =
    (way : Instance) (start : ℕ) (p : Assertion) (v : Var) → IsTrue (bags_plain p) → AssertionIsOrdered p
    → IsTrue (is_free_in v (reduction way start p)) → v.bag ≡ false

-- bag literals stand in a formula where they stand in its assertion
abbrev pub BagsPlainIsOfAssertion : Type 0
BagsPlainIsOfAssertion = (p : Pure) → is_bags_plain p ≡ bags_plain (assertion_of p)

-- ---- the plain reduction of a question

abbrev pub BaglessIsExact : Type 0
BaglessIsExact = (p : Assertion) → IsTrue (bags_plain p) → AssertionIsOrdered p → ((s : Stack) × IsTrueAt s p) ↔ ((t : Stack) × IsTrueAt t (bagless p))

abbrev pub BaglessHasNoBags : Type 0
BaglessHasNoBags = (p : Assertion) → IsTrue (bags_plain p) → has_bag_literal (bagless p) ≡ false

abbrev pub BaglessIsOrdered : Type 0
BaglessIsOrdered = (p : Assertion) → AssertionIsOrdered p → AssertionIsOrdered (bagless p)
