-- Declarations and sources, as they are read.
use Rattle.std.specs.Prelude.{ℕ, Bool, true, false, if◌then◌else◌, List, [], ◌∷◌, Option, Some, None}
use Rattle.hs_lex.specs.declared.token.Sign.TheVariants as sign
use Rattle.hs_tree.specs.declared.ident.Ident.{Ident}
use Rattle.hs_tree.specs.declared.expr.ExprTree.{ExprTree}
use Rattle.hs_tree.specs.declared.item.ItemTree.{ItemTree}
use Rattle.hs_tree.specs.declared.method.TypeTree.{TypeTree}
use Rattle.hs_tree.specs.declared.method.ParamTree.{ParamTree}
use Rattle.hs_tree.specs.declared.method.PairSource.{PairSource}
use Rattle.hs_tree.specs.declared.method.MethodSource.{MethodSource}
use Rattle.hs_tree.specs.declared.source.DataTree.{DataTree}
use Rattle.hs_tree.specs.declared.source.PredTree.{PredTree}
use Rattle.hs_tree.specs.declared.source.EntailTree.{EntailTree}
use Rattle.hs_tree.specs.declared.source.LemmaTree.{LemmaTree}
use Rattle.hs_tree.specs.declared.source.Source.{Source}
use Rattle.hs_tree.specs.declared.source.SourceItem.{SourceItem}
use Rattle.hs_tree.specs.declared.source.SourceItem.TheVariants as kind
use Rattle.hs_words.specs.declared.word.Keyword.TheVariants as key
use Rattle.hs_words.specs.declared.word.Word.{Word}
use Rattle.hs_words.specs.declared.word.Word.TheVariants as word
use Rattle.hs_words.specs.Input.{Parser, ◌>>=◌, ◌>>◌, ◌<$>◌, pure, refuse, peek, here, skip, ahead, key_ahead, expect, expect_key, sees, sees_key, comes, repeated, separated}
use Rattle.hs_read_pure.specs.Expr.{name, expr}
use Rattle.hs_read_pure.specs.Item.{conj, item}
use Rattle.hs_read_pure.specs.Formula.{names, disjunct, formula}
use Rattle.hs_read.specs.Statement.{type_tree, block_tree}

-- ---- data types

-- a type and a name
unfoldable pub param : Parser ParamTree
param = do
  at ← here
  kind ← type_tree
  name ← name
  pure (record { kind = kind; name = name; at = at })

unfoldable pub field : Parser ParamTree
field = do
  found ← param
  expect sign.Semicolon
  pure found

abbrev pub begins_type : Word → Bool
begins_type (word.Key key.Int) = true
begins_type word.Name = true
begins_type _ = false

unfoldable pub fields : Parser (List ParamTree)
fields = repeated (comes begins_type) field []

-- from the word on, as all declarations below
unfoldable pub data_tree : Parser DataTree
data_tree = do
  at ← here
  skip
  name ← name
  expect sign.OpenBrace
  fields ← fields
  expect sign.CloseBrace
  pure (record { name = name; fields = fields; at = at })

-- ---- predicates, entailments, lemmas

-- names in angle brackets
unfoldable pub brackets : Parser (List Ident)
brackets = do
  expect sign.Less
  is_empty ← ahead sign.Greater
  if is_empty then skip >> pure [] else (do found ← names; expect sign.Greater; pure found)

module _ (depth : ℕ) where
  unfoldable pub invariant : Parser (Option (List ItemTree))
  invariant = do
    given ← key_ahead key.Inv
    if given then skip >> Some <$> conj (item depth) else pure None

  unfoldable pub pred_tree : Parser PredTree
  pred_tree = do
    at ← here
    skip
    name ← name
    params ← brackets
    expect sign.EqEq
    body ← formula depth
    inv ← invariant
    expect sign.Semicolon
    pure (record { name = name; params = params; body = body; inv = inv; at = at })

  unfoldable pub entail_tree : Parser EntailTree
  entail_tree = do
    at ← here
    skip
    left ← formula depth
    expect sign.Turnstile
    right ← formula depth
    expect sign.Semicolon
    pure (record { left = left; right = right; at = at })

  unfoldable pub lemma_tree : Parser LemmaTree
  lemma_tree = do
    at ← here
    skip
    called ← name
    expect sign.Colon
    expect_key key.SelfWord
    expect sign.ColonColon
    of ← name
    params ← brackets
    expect sign.Arrow
    right ← disjunct depth
    expect sign.Semicolon
    pure (record { name = called; pred = of; params = params; right = right; at = at })

  -- ---- methods

  unfoldable pub variant : Parser (Option ExprTree)
  variant = do
    given ← key_ahead key.Variant
    if given then skip >> Some <$> expr depth else pure None

  unfoldable pub pair : Parser PairSource
  pair = do
    at ← here
    expect_key key.Requires
    pre ← formula depth
    variant ← variant
    expect_key key.Ensures
    post ← formula depth
    expect sign.Semicolon
    pure (record { pre = pre; variant = variant; post = post; at = at })

  -- one or more
  unfoldable pub pairs : Parser (List PairSource)
  pairs = pair >>= λ first. repeated (sees_key key.Requires) pair (first ∷ [])

unfoldable pub param_list : Parser (List ParamTree)
param_list = separated (sees sign.Comma) param

-- in parentheses
unfoldable pub params : Parser (List ParamTree)
params = do
  expect sign.OpenParen
  is_empty ← ahead sign.CloseParen
  if is_empty then skip >> pure [] else (do found ← param_list; expect sign.CloseParen; pure found)

unfoldable pub result_type : Parser (Option TypeTree)
result_type = do
  given ← ahead sign.Colon
  if given then skip >> Some <$> type_tree else pure None

abbrev pub begins_item : Word → Bool
begins_item (word.Key key.Data) = true
begins_item (word.Key key.Pred) = true
begins_item (word.Key key.Entail) = true
begins_item (word.Key key.Method) = true
begins_item (word.Key key.Lemma) = true
begins_item _ = false

module _ (depth : ℕ) where
  unfoldable pub method_tree : Parser MethodSource
  method_tree = do
    at ← here
    skip
    name ← name
    params ← params
    kind ← result_type
    pairs ← pairs depth
    block ← block_tree depth
    pure (record { name = name; params = params; result = kind; pairs = pairs; block = block; at = at })

  -- ---- sources

  abbrev pub item_by : Word → Parser SourceItem
  item_by (word.Key key.Data) = kind.Node <$> data_tree
  item_by (word.Key key.Pred) = kind.Pred <$> pred_tree depth
  item_by (word.Key key.Entail) = kind.Entail <$> entail_tree depth
  item_by (word.Key key.Method) = kind.Method <$> method_tree
  item_by (word.Key key.Lemma) = kind.Lemma <$> lemma_tree depth
  item_by _ = refuse

  unfoldable pub source_item : Parser SourceItem
  source_item = peek >>= item_by

  unfoldable pub source : Parser Source
  source = do
    items ← repeated (comes begins_item) source_item []
    pure (record { items = items })
