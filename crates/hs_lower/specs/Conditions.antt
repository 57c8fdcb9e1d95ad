-- Conditions as formulas over slots.
use Rattle.std.specs.Prelude.{List, [], ◌∷◌, map}
use Rattle.hs_tree.specs.declared.item.RelTree.{RelTree}
use Rattle.hs_tree.specs.declared.item.RelTree.TheVariants as rel
use Rattle.hs_tree.specs.declared.method.CondTree.{CondTree, fold-CondTree}
use Rattle.hs_tree.specs.declared.method.TestTree.{TestTree, fold-TestTree}
use Rattle.hs_tree.specs.declared.method.TestKind.TheOpen.{TestKind-F}
use Rattle.hs_tree.specs.declared.expr.ExprTree.{ExprTree}
use Rattle.hs_pure.specs.declared.lin.Lin.{Lin}
use Rattle.hs_pure.specs.declared.pure.Pure.{Pure}
use Rattle.hs_pure.specs.declared.pure.Pure.TheVariants as pure_of
use Rattle.hs_lower_scope.specs.Scope.{Scope}
use Rattle.hs_lower_scope.specs.Terms.{term_of}

-- formulas joined by "and" or by "or", where a single one is itself
abbrev pub conj : List Pure → Pure
conj (p ∷ []) = p
conj ps = pure_of.And ps

abbrev pub disj : List Pure → Pure
disj (p ∷ []) = p
disj ps = pure_of.Or ps

-- no test has one of the last two
abbrev pub compared : RelTree → Lin → Lin → Pure
compared rel.Eq a b = pure_of.Eq a b
compared rel.Ne a b = pure_of.Not (pure_of.Eq a b)
compared rel.Lt a b = pure_of.Lt a b
compared rel.Le a b = pure_of.Le a b
compared rel.Gt a b = pure_of.Lt b a
compared rel.Ge a b = pure_of.Le b a
compared rel.Subset a b = pure_of.Eq a b
compared rel.Within a b = pure_of.Eq a b

module _ (scope : Scope) where
  abbrev pub relation : RelTree → ExprTree → ExprTree → Pure
  relation r a b = compared r (term_of scope a) (term_of scope b)

  abbrev pub test_by : TestKind-F Pure Pure Pure → Pure
  test_by (TestKind-F.Not t) = pure_of.Not t
  test_by (TestKind-F.Group c) = c
  test_by (TestKind-F.Rel r a b) = relation r a b

  -- the formula of a test
  abbrev pub test : TestTree → Pure
  test = fold-TestTree Pure Pure Pure test_by (λ c. disj (map conj c.cases)) (λ t. t.kind)

  -- the formula of a condition: `&&` is And, `||` is Or
  abbrev pub condition : CondTree → Pure
  condition = fold-CondTree Pure Pure Pure test_by (λ c. disj (map conj c.cases)) (λ t. t.kind)
