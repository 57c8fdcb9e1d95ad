-- Expressions, as they are read.
use Rattle.std.specs.Prelude.{ℕ, zero, suc, Bool, true, false, if◌then◌else◌, List, [], ◌∷◌, ◌++◌, Ok}
use Rattle.hs_lex.specs.declared.token.Sign.TheVariants as sign
use Rattle.hs_tree.specs.declared.ident.Ident.{Ident}
use Rattle.hs_tree.specs.declared.expr.PartTree.{PartTree}
use Rattle.hs_tree.specs.declared.expr.PartTree.TheVariants as part
use Rattle.hs_tree.specs.declared.expr.ExprTree.{ExprTree}
use Rattle.hs_tree.specs.declared.expr.ExprKind.{ExprKind}
use Rattle.hs_tree.specs.declared.expr.ExprKind.TheVariants as kind
use Rattle.hs_words.specs.declared.word.Keyword.TheVariants as key
use Rattle.hs_words.specs.declared.word.Word.{Word}
use Rattle.hs_words.specs.declared.word.Word.TheVariants as word
use Rattle.hs_words.specs.Input.{Input, Parser, ◌>>=◌, ◌>>◌, ◌<$>◌, pure, refuse, peek, here, skip, spelling, place, next, ahead, expect, opening, comes, repeated}

-- the name that stands at a place
abbrev pub ident : Input → Ident
ident i = record { text = spelling i; at = place i }

abbrev pub identifier : Parser Ident
identifier = λ i. Ok (ident i, next i)

abbrev pub name_by : Word → Parser Ident
name_by word.Name = identifier
name_by _ = refuse

unfoldable pub name : Parser Ident
name = peek >>= name_by

abbrev pub begins_var : Word → Bool
begins_var word.Name = true
begins_var (word.Key key.SelfWord) = true
begins_var (word.Key key.Res) = true
begins_var _ = false

-- a name, `self` or `res`
unfoldable pub variable : Parser Ident
variable = do
  next ← peek
  if begins_var next then identifier else refuse

abbrev pub part_by : Word → Parser PartTree
part_by (word.Number n) = do
  skip
  times ← ahead sign.Star
  if times then skip >> part.Times n <$> variable else pure (part.Number n)
part_by (word.Key key.Null) = skip >> pure part.Null
part_by _ = part.Name <$> variable

unfoldable pub read_part : Parser PartTree
read_part = peek >>= part_by

-- the part that a sum begins with
unfoldable pub first_part : Parser (Bool × PartTree)
first_part = do
  minus ← ahead sign.Minus
  if minus then skip >> (λ p. (true, p)) <$> read_part else (λ p. (false, p)) <$> read_part

abbrev pub is_signed : Word → Bool
is_signed (word.Sign sign.Plus) = true
is_signed (word.Sign sign.Minus) = true
is_signed _ = false

-- a part behind its sign
unfoldable pub signed_part : Parser (Bool × PartTree)
signed_part = do
  minus ← ahead sign.Minus
  skip
  part ← read_part
  pure (minus, part)

unfoldable pub parts : Parser (List (Bool × PartTree))
parts = do
  first ← first_part
  repeated (comes is_signed) signed_part (first ∷ [])

-- The parsers of expressions at each lower level of nesting, the next one first. A token that opens a level takes one.
abbrev pub Levels : Type 0
Levels = List (Parser ExprTree)

-- Expressions with commas between. Each comma opens a level.
unfoldable pub elements : Levels → List ExprTree → Parser (List ExprTree)
elements [] found = refuse
elements (expr ∷ deeper) found = do
  element ← expr
  more ← ahead sign.Comma
  if more then opening deeper >> elements deeper (found ++ element ∷ []) else pure (found ++ element ∷ [])

abbrev pub both_by : Levels → Parser (ExprTree × ExprTree)
both_by [] = refuse
both_by (expr ∷ deeper) = do
  expect sign.OpenParen
  left ← expr
  expect sign.Comma
  right ← expr
  expect sign.CloseParen
  pure (left, right)

module _ (levels : Levels) where
  unfoldable pub braces : Parser (List ExprTree)
  braces = do
    opening levels
    is_empty ← ahead sign.CloseBrace
    if is_empty then skip >> pure [] else (do found ← elements levels []; expect sign.CloseBrace; pure found)

  unfoldable pub pair : Parser (ExprTree × ExprTree)
  pair = opening levels >> both_by levels

  abbrev pub kind_by : Word → Parser ExprKind
  kind_by (word.Sign sign.OpenBrace) = kind.Braces <$> braces
  kind_by (word.Key key.Union) = (λ p. kind.Union p.0 p.1) <$> pair
  kind_by (word.Key key.Inter) = (λ p. kind.Inter p.0 p.1) <$> pair
  kind_by (word.Key key.Diff) = (λ p. kind.Diff p.0 p.1) <$> pair
  kind_by _ = kind.Sum <$> parts

  unfoldable pub expr_kind : Parser ExprKind
  expr_kind = peek >>= kind_by

  unfoldable pub level : Parser ExprTree
  level = do
    at ← here
    kind ← expr_kind
    pure (record { kind = kind; at = at })

-- the levels that so many openings leave
unfoldable pub levels_of : ℕ → Levels
levels_of zero = []
levels_of (suc depth) = level (levels_of depth) ∷ levels_of depth

-- with this many levels of nesting left
abbrev pub expr : ℕ → Parser ExprTree
expr depth = level (levels_of depth)
