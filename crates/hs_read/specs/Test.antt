-- Conditions, as they are read.
use Rattle.std.specs.Prelude.{ℕ, zero, suc, List, [], ◌∷◌, Option, Some, None}
use Rattle.hs_lex.specs.declared.token.Sign.TheVariants as sign
use Rattle.hs_tree.specs.declared.expr.ExprTree.{ExprTree}
use Rattle.hs_tree.specs.declared.item.RelTree.{RelTree}
use Rattle.hs_tree.specs.declared.item.RelTree.TheVariants as rel
use Rattle.hs_tree.specs.declared.method.CondTree.{CondTree, roll-CondTree}
use Rattle.hs_tree.specs.declared.method.TestTree.{TestTree}
use Rattle.hs_tree.specs.declared.method.TestKind.{TestKind}
use Rattle.hs_tree.specs.declared.method.TestKind.TheVariants as kind
use Rattle.hs_words.specs.declared.word.Word.{Word}
use Rattle.hs_words.specs.declared.word.Word.TheVariants as word
use Rattle.hs_words.specs.Input.{Parser, ◌>>=◌, ◌>>◌, ◌<$>◌, pure, refuse, peek, here, skip, expect, sees, opening, inner, separated}
use Rattle.hs_read_pure.specs.Expr.{expr}

abbrev pub test_relation : Word → Option RelTree
test_relation (word.Sign sign.EqEq) = Some rel.Eq
test_relation (word.Sign sign.NotEq) = Some rel.Ne
test_relation (word.Sign sign.Less) = Some rel.Lt
test_relation (word.Sign sign.LessEq) = Some rel.Le
test_relation (word.Sign sign.Greater) = Some rel.Gt
test_relation (word.Sign sign.GreaterEq) = Some rel.Ge
test_relation _ = None

abbrev pub related : ℕ → ExprTree → Option RelTree → Parser TestKind
related depth left None = refuse
related depth left (Some r) = skip >> kind.Rel r left <$> expr depth

unfoldable pub comparison : ℕ → Parser TestKind
comparison depth = do
  left ← expr depth
  next ← peek
  related depth left (test_relation next)

-- the parsers of tests at each lower level of nesting, the next one first
abbrev pub Levels : Type 0
Levels = List (Parser TestTree)

unfoldable pub both : Parser TestTree → Parser (List TestTree)
both test = separated (sees sign.AndAnd) test

unfoldable pub condition : Parser TestTree → Parser CondTree
condition test = do
  at ← here
  cases ← separated (sees sign.OrOr) (both test)
  pure (roll-CondTree (record { cases = cases; at = at }))

module _ (depth : ℕ) (levels : Levels) where
  unfoldable pub negation : Parser TestKind
  negation = opening levels >> kind.Not <$> inner levels

  unfoldable pub group : Parser TestKind
  group = do
    opening levels
    cond ← condition (inner levels)
    expect sign.CloseParen
    pure (kind.Group cond)

  abbrev pub kind_by : Word → Parser TestKind
  kind_by (word.Sign sign.Bang) = negation
  kind_by (word.Sign sign.OpenParen) = group
  kind_by _ = comparison depth

  unfoldable pub test_kind : Parser TestKind
  test_kind = peek >>= kind_by

  unfoldable pub level : Parser TestTree
  level = do
    at ← here
    kind ← test_kind
    pure (record { kind = kind; at = at })

-- the levels that so many openings leave
unfoldable pub levels_of : ℕ → Levels
levels_of zero = []
levels_of (suc depth) = level depth (levels_of depth) ∷ levels_of depth

-- with this many levels of nesting left
abbrev pub test : ℕ → Parser TestTree
test depth = level depth (levels_of depth)

abbrev pub cond_tree : ℕ → Parser CondTree
cond_tree depth = condition (test depth)
