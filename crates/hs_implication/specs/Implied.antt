-- Whether a formula has a solution, and whether one implies another, by tests.
use Rattle.std.specs.Prelude.{◌↔◌, Bool, not, IsTrue, List, [], ◌∷◌}
use Rattle.hs_pure.specs.declared.var.Var.{Var}
use Rattle.hs_pure.specs.declared.pure.Pure.{Pure}
use Rattle.hs_pure.specs.Assertion.{Assertion, exists, assertion_of}
use Rattle.hs_pure.specs.Stack.{Stack}
use Rattle.hs_pure.specs.Truth.{TrueAt}
use Rattle.hs_pure.specs.Occurs.{is_bags_plain}
use Rattle.hs_pure.specs.Sums.{IsOrdered}
use Rattle.hs_elimination.specs.Decided.{is_true_at}
use Rattle.hs_decide.specs.Question.{question}
use Rattle.hs_reduction.specs.Reduction.{bagless}
use Rattle.hs_plain.specs.Variables.{free_variables}
use Rattle.hs_plain.specs.Span.{zeros}

-- for some values of these variables, the first outermost
abbrev pub for_some : List Var → Assertion → Assertion
for_some [] p = p
for_some (v ∷ vs) p = exists v (for_some vs p)

-- whether some stack makes an assertion on numbers true
abbrev pub has_numbers : Assertion → Bool
has_numbers p = is_true_at zeros (for_some (free_variables p) p)

-- whether some stack makes an assertion true whose bag literals stand under no quantifier
abbrev pub is_satisfiable : Assertion → Bool
is_satisfiable p = has_numbers (bagless p)

-- whether the left formula implies the right one at every stack
abbrev pub is_implied : Pure → Pure → Bool
is_implied a b = not (is_satisfiable (question (assertion_of a) (assertion_of b)))

-- the test tells whether there is a solution
abbrev pub SolutionsAreTold : Type 0
SolutionsAreTold = (p : Pure) → IsTrue (is_bags_plain p) → IsOrdered p → IsTrue (is_satisfiable (assertion_of p)) ↔ ((s : Stack) × TrueAt s p)

-- the test tells whether the right formula is true wherever the left one is
abbrev pub ImplicationsAreTold : Type 0
ImplicationsAreTold = (a b : Pure) → IsTrue (is_bags_plain a) → IsTrue (is_bags_plain b) → IsOrdered a → IsOrdered b →
    IsTrue (is_implied a b) ↔ ((s : Stack) → TrueAt s a → TrueAt s b)
