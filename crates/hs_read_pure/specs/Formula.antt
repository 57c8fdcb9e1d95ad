-- Formulas of heaps, as they are read.
use Rattle.std.specs.Prelude.{ℕ, Bool, true, false, if◌then◌else◌, List, []}
use Rattle.hs_lex.specs.declared.token.Sign.TheVariants as sign
use Rattle.hs_tree.specs.declared.ident.Ident.{Ident}
use Rattle.hs_tree.specs.declared.item.ItemTree.{ItemTree}
use Rattle.hs_tree.specs.declared.item.PureTree.{PureTree}
use Rattle.hs_tree.specs.declared.formula.ArgTree.{ArgTree}
use Rattle.hs_tree.specs.declared.formula.ArgTree.TheVariants as arg_kind
use Rattle.hs_tree.specs.declared.formula.AtomTree.{AtomTree}
use Rattle.hs_tree.specs.declared.formula.DisjunctTree.{DisjunctTree}
use Rattle.hs_tree.specs.declared.formula.FormulaTree.{FormulaTree}
use Rattle.hs_words.specs.declared.word.Keyword.TheVariants as key
use Rattle.hs_words.specs.declared.word.Word.{Word}
use Rattle.hs_words.specs.declared.word.Word.TheVariants as word
use Rattle.hs_words.specs.Input.{Parser, ◌>>=◌, ◌>>◌, ◌<$>◌, pure, peek, here, skip, ahead, two_ahead, key_ahead, expect, sees, sees_key, separated}
use Rattle.hs_read_pure.specs.Expr.{name, begins_var, variable, expr}
use Rattle.hs_read_pure.specs.Item.{conj, item, disjunction}

unfoldable pub names : Parser (List Ident)
names = separated (sees sign.Comma) name

unfoldable pub bound : Parser (List Ident)
bound = do
  binds ← key_ahead key.Exists
  if binds then (do skip; found ← names; expect sign.Dot; pure found) else pure []

abbrev pub is_colons : Word → Bool
is_colons (word.Sign sign.ColonColon) = true
is_colons _ = false

-- whether a heap begins with these two words
abbrev pub begins_heap : Word → Word → Bool
begins_heap (word.Key key.Emp) second = true
begins_heap first second = if begins_var first then is_colons second else false

module _ (depth : ℕ) where
  abbrev pub arg_by : Word → Parser ArgTree
  arg_by word.Hole = here >>= λ at. skip >> pure (arg_kind.Hole at)
  arg_by _ = arg_kind.Value <$> expr depth

  unfoldable pub arg : Parser ArgTree
  arg = peek >>= arg_by

  unfoldable pub args : Parser (List ArgTree)
  args = separated (sees sign.Comma) arg

  -- in angle brackets
  unfoldable pub arguments : Parser (List ArgTree)
  arguments = do
    expect sign.Less
    is_empty ← ahead sign.Greater
    if is_empty then skip >> pure [] else (do found ← args; expect sign.Greater; pure found)

  unfoldable pub atom : Parser AtomTree
  atom = do
    root ← variable
    expect sign.ColonColon
    of ← name
    args ← arguments
    pure (record { root = root; name = of; args = args })

  unfoldable pub atoms : Parser (List AtomTree)
  atoms = separated (sees sign.Star) atom

  abbrev pub heap_by : Word → Parser (List AtomTree)
  heap_by (word.Key key.Emp) = skip >> pure []
  heap_by _ = atoms

  unfoldable pub heap : Parser (List AtomTree)
  heap = peek >>= heap_by

  unfoldable pub conjuncts : Parser (List ItemTree)
  conjuncts = do
    more ← ahead sign.Amp
    if more then skip >> conj (item depth) else pure []

  unfoldable pub spatial : Parser (List AtomTree × List ItemTree)
  spatial = do
    atoms ← heap
    items ← conjuncts
    pure (atoms, items)

  unfoldable pub body : Parser (List AtomTree × List ItemTree)
  body = do
    is_heap ← two_ahead begins_heap
    if is_heap then spatial else (λ items. ([], items)) <$> conj (item depth)

  unfoldable pub disjunct : Parser DisjunctTree
  disjunct = do
    at ← here
    bound ← bound
    body ← body
    pure (record { bound = bound; atoms = body.0; items = body.1; at = at })

  unfoldable pub formula : Parser FormulaTree
  formula = do
    at ← here
    cases ← separated (sees_key key.Or) disjunct
    pure (record { cases = cases; at = at })

-- a pure formula
abbrev pub pure_formula : ℕ → Parser PureTree
pure_formula depth = disjunction (item depth)
