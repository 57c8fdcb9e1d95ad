-- What expressions and conditions of a block are worth, from their trees and the values of the variables.
use Rattle.std.specs.Prelude.{ℕ, ℤ, pos, neg_ℤ, int_lt, ◌+ℤ◌, ◌*ℤ◌, Bool, not, List, [], ◌∷◌, map, if◌then◌else◌}
use Rattle.std.specs.List.{list_any, list_all}
use Rattle.std.specs.Ordering.{int_eq}
use Rattle.hs_tree.specs.declared.ident.Ident.{Ident}
use Rattle.hs_tree.specs.declared.expr.PartTree.{PartTree}
use Rattle.hs_tree.specs.declared.expr.PartTree.TheVariants as part
use Rattle.hs_tree.specs.declared.expr.ExprTree.{ExprTree}
use Rattle.hs_tree.specs.declared.item.RelTree.{RelTree}
use Rattle.hs_tree.specs.declared.item.RelTree.TheVariants as rel
use Rattle.hs_tree.specs.declared.method.CondTree.{CondTree, fold-CondTree}
use Rattle.hs_tree.specs.declared.method.TestTree.{TestTree, fold-TestTree}
use Rattle.hs_tree.specs.declared.method.TestKind.TheOpen.{TestKind-F}
use Rattle.hs_lower_scope.specs.Scope.{Scope, slot_of}
use Rattle.hs_lower_scope.specs.Terms.{parts_of}

-- an integer for each variable, by its slot
abbrev pub Values : Type 0
Values = ℕ → ℤ

-- a minus turns the sign
abbrev pub signed : Bool → ℤ → ℤ
signed minus n = if minus then neg_ℤ n else n

-- whether the relation of two numbers holds; no test has one of the last two
abbrev pub compares : RelTree → ℤ → ℤ → Bool
compares rel.Eq a b = int_eq a b
compares rel.Ne a b = not (int_eq a b)
compares rel.Lt a b = int_lt a b
compares rel.Le a b = not (int_lt b a)
compares rel.Gt a b = int_lt b a
compares rel.Ge a b = not (int_lt a b)
compares rel.Subset a b = int_eq a b
compares rel.Within a b = int_eq a b

module _ (scope : Scope) (w : Values) where
  abbrev pub variable_value : Ident → ℤ
  variable_value x = w (slot_of scope x.text)

  -- a part without its sign; null is 0
  abbrev pub size_value : PartTree → ℤ
  size_value (part.Number m) = pos m
  size_value (part.Times m x) = pos m *ℤ variable_value x
  size_value (part.Name x) = variable_value x
  size_value part.Null = pos 0

  abbrev pub part_value : Bool × PartTree → ℤ
  part_value p = signed p.0 (size_value p.1)

  -- the parts added up
  abbrev pub parts_value : List (Bool × PartTree) → ℤ
  parts_value [] = pos 0
  parts_value (p ∷ ps) = part_value p +ℤ parts_value ps

  abbrev pub expression_value : ExprTree → ℤ
  expression_value e = parts_value (parts_of e.kind)

  -- the values of arguments
  abbrev pub all_values : List ExprTree → List ℤ
  all_values es = map expression_value es

  abbrev pub test_by : TestKind-F Bool Bool Bool → Bool
  test_by (TestKind-F.Not t) = not t
  test_by (TestKind-F.Group c) = c
  test_by (TestKind-F.Rel r a b) = compares r (expression_value a) (expression_value b)

  -- whether a test holds
  abbrev pub test_holds : TestTree → Bool
  test_holds = fold-TestTree Bool Bool Bool test_by (λ c. list_any (list_all (λ t. t)) c.cases) (λ t. t.kind)

  -- whether a condition holds: all tests of one of its cases do
  abbrev pub holds : CondTree → Bool
  holds = fold-CondTree Bool Bool Bool test_by (λ c. list_any (list_all (λ t. t)) c.cases) (λ t. t.kind)
