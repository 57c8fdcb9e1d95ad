-- Statements and blocks, as they are read.
use Rattle.std.specs.Prelude.{ℕ, zero, suc, Bool, true, false, if◌then◌else◌, List, [], ◌∷◌, Option, Some, None}
use Rattle.hs_lex.specs.declared.token.Sign.TheVariants as sign
use Rattle.hs_tree.specs.declared.expr.ExprTree.{ExprTree}
use Rattle.hs_tree.specs.declared.method.TypeTree.{TypeTree}
use Rattle.hs_tree.specs.declared.method.TypeTree.TheVariants as type_kind
use Rattle.hs_tree.specs.declared.method.CallTree.{CallTree}
use Rattle.hs_tree.specs.declared.method.ValueTree.{ValueTree}
use Rattle.hs_tree.specs.declared.method.ValueTree.TheVariants as value_kind
use Rattle.hs_tree.specs.declared.method.BlockTree.{BlockTree, roll-BlockTree}
use Rattle.hs_tree.specs.declared.method.StatementTree.{StatementTree}
use Rattle.hs_tree.specs.declared.method.StatementKind.{StatementKind}
use Rattle.hs_tree.specs.declared.method.StatementKind.TheVariants as kind
use Rattle.hs_words.specs.declared.word.Keyword.TheVariants as key
use Rattle.hs_words.specs.declared.word.Word.{Word}
use Rattle.hs_words.specs.declared.word.Word.TheVariants as word
use Rattle.hs_words.specs.Input.{Parser, ◌>>=◌, ◌>>◌, ◌<$>◌, pure, refuse, peek, peek_second, here, skip, sees, ahead, key_ahead, expect, opening, inner, comes, repeated, separated}
use Rattle.hs_read_pure.specs.Expr.{identifier, name, expr}
use Rattle.hs_read.specs.Test.{cond_tree}

abbrev pub type_by : Word → Parser TypeTree
type_by (word.Key key.Int) = here >>= λ at. skip >> pure (type_kind.Int at)
type_by word.Name = type_kind.Named <$> identifier
type_by _ = refuse

unfoldable pub type_tree : Parser TypeTree
type_tree = peek >>= type_by

-- ---- values

unfoldable pub load : Parser ValueTree
load = do
  from ← name
  expect sign.Dot
  field ← name
  pure (value_kind.Load from field)

module _ (depth : ℕ) where
  unfoldable pub exprs : Parser (List ExprTree)
  exprs = separated (sees sign.Comma) (expr depth)

  -- in parentheses
  unfoldable pub arguments : Parser (List ExprTree)
  arguments = do
    expect sign.OpenParen
    is_empty ← ahead sign.CloseParen
    if is_empty then skip >> pure [] else (do found ← exprs; expect sign.CloseParen; pure found)

  unfoldable pub call : Parser CallTree
  call = do
    to ← name
    args ← arguments
    pure (record { name = to; args = args })

  -- from the word on
  unfoldable pub new_value : Parser ValueTree
  new_value = do
    at ← here
    skip
    of ← name
    args ← arguments
    pure (value_kind.New at of args)

  -- a value that begins with a name, by the word behind that
  abbrev pub named_value : Word → Parser ValueTree
  named_value (word.Sign sign.OpenParen) = value_kind.Call <$> call
  named_value (word.Sign sign.Dot) = load
  named_value _ = value_kind.Value <$> expr depth

  abbrev pub value_by : Word → Word → Parser ValueTree
  value_by (word.Key key.New) second = new_value
  value_by word.Name second = named_value second
  value_by _ second = value_kind.Value <$> expr depth

  unfoldable pub value : Parser ValueTree
  value = do
    first ← peek
    second ← peek_second
    value_by first second

  -- ---- statements that hold no block

  unfoldable pub initial : Parser (Option ValueTree)
  initial = do
    given ← ahead sign.Equals
    if given then skip >> Some <$> value else pure None

  unfoldable pub local : Parser StatementKind
  local = do
    of ← type_tree
    to ← name
    given ← initial
    expect sign.Semicolon
    pure (kind.Local of to given)

  unfoldable pub assign : Parser StatementKind
  assign = do
    to ← name
    expect sign.Equals
    given ← value
    expect sign.Semicolon
    pure (kind.Assign to given)

  unfoldable pub store : Parser StatementKind
  store = do
    at ← name
    expect sign.Dot
    field ← name
    expect sign.Equals
    from ← expr depth
    expect sign.Semicolon
    pure (kind.Store at field from)

  unfoldable pub called : Parser StatementKind
  called = do
    found ← call
    expect sign.Semicolon
    pure (kind.Call found)

  unfoldable pub returned : Parser (Option ExprTree)
  returned = do
    none ← ahead sign.Semicolon
    if none then pure None else Some <$> expr depth

  -- from the word on
  unfoldable pub return_statement : Parser StatementKind
  return_statement = do
    skip
    result ← returned
    expect sign.Semicolon
    pure (kind.Return result)

-- ---- blocks

abbrev pub begins_statement : Word → Bool
begins_statement (word.Key key.Int) = true
begins_statement (word.Key key.If) = true
begins_statement (word.Key key.Return) = true
begins_statement word.Name = true
begins_statement _ = false

-- the parsers of statements at each lower level of nesting, the next one first
abbrev pub Levels : Type 0
Levels = List (Parser StatementTree)

-- takes an opening brace
unfoldable pub opening_brace : Levels → Parser (Unit {0})
opening_brace levels = λ i. if sees sign.OpenBrace i then opening levels i else refuse i

unfoldable pub statements : Parser StatementTree → Parser (List StatementTree)
statements statement = repeated (comes begins_statement) statement []

unfoldable pub block : Levels → Parser BlockTree
block levels = do
  at ← here
  opening_brace levels
  found ← statements (inner levels)
  end ← here
  expect sign.CloseBrace
  pure (roll-BlockTree (record { statements = found; at = at; end = end }))

unfoldable pub otherwise : Levels → Parser (Option BlockTree)
otherwise levels = do
  given ← key_ahead key.Else
  if given then skip >> Some <$> block levels else pure None

module _ (depth : ℕ) where
  -- a statement that begins with a name, by the word behind that
  abbrev pub named_statement : Word → Parser StatementKind
  named_statement word.Name = local depth
  named_statement (word.Sign sign.Equals) = assign depth
  named_statement (word.Sign sign.Dot) = store depth
  named_statement (word.Sign sign.OpenParen) = called depth
  named_statement _ = skip >> refuse

module _ (depth : ℕ) (levels : Levels) where
  -- from the word on
  unfoldable pub branch : Parser StatementKind
  branch = do
    skip
    expect sign.OpenParen
    cond ← cond_tree depth
    expect sign.CloseParen
    then_block ← block levels
    else_block ← otherwise levels
    pure (kind.Branch cond then_block else_block)

  abbrev pub kind_by : Word → Word → Parser StatementKind
  kind_by (word.Key key.Int) second = local depth
  kind_by (word.Key key.If) second = branch
  kind_by (word.Key key.Return) second = return_statement depth
  kind_by word.Name second = named_statement depth second
  kind_by _ second = refuse

  unfoldable pub statement_kind : Parser StatementKind
  statement_kind = do
    first ← peek
    second ← peek_second
    kind_by first second

  unfoldable pub level : Parser StatementTree
  level = do
    at ← here
    kind ← statement_kind
    pure (record { kind = kind; at = at })

-- the levels that so many openings leave
unfoldable pub levels_of : ℕ → Levels
levels_of zero = []
levels_of (suc depth) = level depth (levels_of depth) ∷ levels_of depth

-- with this many levels of nesting left
abbrev pub statement : ℕ → Parser StatementTree
statement depth = level depth (levels_of depth)

abbrev pub block_tree : ℕ → Parser BlockTree
block_tree depth = block (levels_of depth)
