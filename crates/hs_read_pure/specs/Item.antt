-- Conjunctions and what they are made of, as they are read.
use Rattle.std.specs.Prelude.{ℕ, zero, suc, ◌-◌, if◌then◌else◌, List, [], ◌∷◌, Option, Some, None}
use Rattle.hs_lex.specs.declared.token.Sign.TheVariants as sign
use Rattle.hs_tree.specs.declared.ident.Ident.{Ident}
use Rattle.hs_tree.specs.declared.expr.ExprTree.{ExprTree}
use Rattle.hs_tree.specs.declared.item.RelTree.{RelTree}
use Rattle.hs_tree.specs.declared.item.RelTree.TheVariants as rel
use Rattle.hs_tree.specs.declared.item.PureTree.{PureTree, roll-PureTree}
use Rattle.hs_tree.specs.declared.item.ItemTree.{ItemTree}
use Rattle.hs_tree.specs.declared.item.ItemKind.{ItemKind}
use Rattle.hs_tree.specs.declared.item.ItemKind.TheVariants as kind
use Rattle.hs_words.specs.declared.word.Keyword.TheVariants as key
use Rattle.hs_words.specs.declared.word.Word.{Word}
use Rattle.hs_words.specs.declared.word.Word.TheVariants as word
use Rattle.hs_words.specs.Input.{Parser, ◌>>=◌, ◌>>◌, ◌<$>◌, pure, refuse, peek, here, skip, sees, expect, expect_key, opening, inner, separated}
use Rattle.hs_read_pure.specs.Expr.{name, expr}

-- ---- what holds no other item

abbrev pub relation : Word → Option RelTree
relation (word.Sign sign.Equals) = Some rel.Eq
relation (word.Sign sign.NotEq) = Some rel.Ne
relation (word.Sign sign.Less) = Some rel.Lt
relation (word.Sign sign.LessEq) = Some rel.Le
relation (word.Sign sign.Greater) = Some rel.Gt
relation (word.Sign sign.GreaterEq) = Some rel.Ge
relation (word.Key key.Subset) = Some rel.Subset
relation (word.Key key.In) = Some rel.Within
relation _ = None

abbrev pub related : ℕ → ExprTree → Option RelTree → Parser ItemKind
related depth left None = refuse
related depth left (Some r) = skip >> kind.Rel r left <$> expr depth

unfoldable pub comparison : ℕ → Parser ItemKind
comparison depth = do
  left ← expr depth
  next ← peek
  related depth left (relation next)

abbrev pub number_by : Word → Parser ℕ
number_by (word.Number n) = skip >> pure n
number_by _ = refuse

unfoldable pub number : Parser ℕ
number = peek >>= number_by

-- ---- items

-- the parsers of items at each lower level of nesting, the next one first
abbrev pub Levels : Type 0
Levels = List (Parser ItemTree)

-- takes an opening parenthesis
unfoldable pub opening_paren : Levels → Parser (Unit {0})
opening_paren levels = λ i. if sees sign.OpenParen i then opening levels i else refuse i

unfoldable pub conj : Parser ItemTree → Parser (List ItemTree)
conj item = separated (sees sign.Amp) item

unfoldable pub disjunction : Parser ItemTree → Parser PureTree
disjunction item = do
  at ← here
  cases ← separated (sees sign.Bar) (conj item)
  pure (roll-PureTree (record { cases = cases; at = at }))

-- up to the closing parenthesis
unfoldable pub closed : Parser ItemTree → Parser PureTree
closed item = do
  body ← disjunction item
  expect sign.CloseParen
  pure body

-- from the word on
unfoldable pub binder : Parser ItemTree → Parser (Ident × PureTree)
binder item = do
  skip
  bound ← name
  expect sign.Dot
  body ← closed item
  pure (bound, body)

module _ (depth : ℕ) (levels : Levels) where
  unfoldable pub negation : Parser ItemKind
  negation = opening levels >> kind.Not <$> inner levels

  abbrev pub group_by : Word → Parser ItemKind
  group_by (word.Key key.Exists) = (λ p. kind.Exists p.0 p.1) <$> binder (inner levels)
  group_by (word.Key key.Forall) = (λ p. kind.Forall p.0 p.1) <$> binder (inner levels)
  group_by _ = kind.Group <$> closed (inner levels)

  unfoldable pub group : Parser ItemKind
  group = opening levels >> (peek >>= group_by)

  unfoldable pub all : Parser ItemKind
  all = do
    skip
    bound ← name
    expect_key key.In
    within ← expr depth
    expect sign.Colon
    opening_paren levels
    body ← closed (inner levels)
    pure (kind.All bound within body)

  unfoldable pub divides : Parser ItemKind
  divides = do
    skip
    opening_paren levels
    divisor ← number
    expect sign.Comma
    of ← expr (depth - 1)
    expect sign.CloseParen
    pure (kind.Divides divisor of)

  abbrev pub kind_by : Word → Parser ItemKind
  kind_by (word.Key key.True) = skip >> pure kind.True
  kind_by (word.Key key.False) = skip >> pure kind.False
  kind_by (word.Sign sign.Bang) = negation
  kind_by (word.Sign sign.OpenParen) = group
  kind_by (word.Key key.All) = all
  kind_by (word.Key key.Divides) = divides
  kind_by _ = comparison depth

  unfoldable pub item_kind : Parser ItemKind
  item_kind = peek >>= kind_by

  unfoldable pub level : Parser ItemTree
  level = do
    at ← here
    kind ← item_kind
    pure (record { kind = kind; at = at })

-- the levels that so many openings leave
unfoldable pub levels_of : ℕ → Levels
levels_of zero = []
levels_of (suc depth) = level depth (levels_of depth) ∷ levels_of depth

-- with this many levels of nesting left
abbrev pub item : ℕ → Parser ItemTree
item depth = level depth (levels_of depth)
