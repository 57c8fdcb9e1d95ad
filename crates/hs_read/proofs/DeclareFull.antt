-- What the grammar has as a source is read.
use Rattle.std.proofs.Common.{◌≡◌, ℕ, Bool, true, false, List, [], ◌∷◌, Option, Some, None, Ok, refl, ap, ◌∙◌, arith}
use Rattle.hs_lex.specs.declared.token.Sign.TheVariants as sign
use Rattle.hs_tree.specs.declared.ident.Ident.{Ident}
use Rattle.hs_tree.specs.declared.expr.ExprTree.{ExprTree}
use Rattle.hs_tree.specs.declared.item.ItemTree.{ItemTree}
use Rattle.hs_tree.specs.declared.method.TypeTree.{TypeTree}
use Rattle.hs_tree.specs.declared.method.ParamTree.{ParamTree}
use Rattle.hs_tree.specs.declared.method.BlockTree.{BlockTree}
use Rattle.hs_tree.specs.declared.method.PairSource.{PairSource}
use Rattle.hs_tree.specs.declared.method.MethodSource.{MethodSource}
use Rattle.hs_tree.specs.declared.source.DataTree.{DataTree}
use Rattle.hs_tree.specs.declared.source.PredTree.{PredTree}
use Rattle.hs_tree.specs.declared.source.EntailTree.{EntailTree}
use Rattle.hs_tree.specs.declared.source.LemmaTree.{LemmaTree}
use Rattle.hs_tree.specs.declared.source.Source.{Source}
use Rattle.hs_tree.specs.declared.source.SourceItem.{SourceItem}
use Rattle.hs_tree.specs.declared.source.SourceItem.TheVariants as item_kind
use Rattle.hs_words.specs.declared.word.Keyword.TheVariants as key
use Rattle.hs_words.specs.declared.word.Word.{Word}
use Rattle.hs_words.specs.declared.word.Word.TheVariants as word
use Rattle.hs_words.specs.Input.{Input, next_word, next, sees, sees_key, comes, turns}
use Rattle.hs_words.specs.Grammar.{IsSign, IsKey, Separated, one, more, Repeated, none, another}
use Rattle.hs_words.proofs.Full.{sees_sign, sees_none, sees_key_there, sees_no_key, takes, takes_key, mapped, sign_less, separated_full, repeat_full}
use Rattle.hs_read_pure.specs.Grammar.{IsName, named, AreNames}
use Rattle.hs_read_pure.proofs.Ends.{ends_expr, ends_conj, ends_formula}
use Rattle.hs_read_pure.proofs.ExprFull.{name_full, expr_full}
use Rattle.hs_read_pure.proofs.ItemFull.{conj_full}
use Rattle.hs_read_pure.proofs.FormulaFull.{is_greater, names_full, disjunct_full, formula_full}
use Rattle.hs_read.specs.Declare.{param, field, begins_type, fields, data_tree, brackets, invariant, pred_tree, entail_tree, lemma_tree, variant, pair, pairs, param_list, params, result_type, method_tree, source_item, begins_item, source}
use Rattle.hs_read.specs.Grammar.{IsType, IsParam, IsField, IsData, AreBracketed, IsInvariant, IsPred, IsEntail, IsLemma, IsVariant, IsPairOf, ArePairs, AreParams, IsResult, IsBlock, IsMethod, IsSourceItem, IsSource}
use Rattle.hs_read.specs.Grammar as grammar
use Rattle.hs_read.proofs.Less.{param_less, field_less, pair_less, item_less}
use Rattle.hs_read.proofs.StatementFull.{is_close_paren, type_full, block_full}

-- ends anywhere
abbrev always : Word → Bool
always _ = true

-- ---- data types

param_full : (p : ParamTree) (i j : Input) → IsParam p i j → param i ≡ Ok (p, j)
unfolding param
param_full _ i k (grammar.param {t = t} {x = x} {j = j} a b) =
    let of = type_full t i j a in
    let name = name_full x j k b in
    rw (of, name) refl

type_begins : (t : TypeTree) (i j : Input) → IsType t i j → begins_type (next_word i) ≡ true
type_begins _ i _ (grammar.int is) = ap begins_type is
type_begins _ i _ (grammar.type_name (named is)) = ap begins_type is

param_begins : (p : ParamTree) (i j : Input) → IsParam p i j → begins_type (next_word i) ≡ true
param_begins _ i k (grammar.param {t = t} {j = j} a b) = type_begins t i j a

field_full : (p : ParamTree) (i j : Input) → IsField p i j → field i ≡ Ok (p, j)
unfolding field
field_full _ i _ (grammar.field {p = p} {j = j} a b) =
    let read = param_full p i j a in
    let end = takes sign.Semicolon j b in
    rw (read, end) refl

field_begins : (p : ParamTree) (i j : Input) → IsField p i j → begins_type (next_word i) ≡ true
field_begins _ i _ (grammar.field {p = p} {j = j} a b) = param_begins p i j a

fields_full : (fs : List ParamTree) (i j : Input) → Repeated IsField fs i j → IsSign sign.CloseBrace j → fields i ≡ Ok (fs, j)
unfolding fields
fields_full fs i j h close =
    repeat_full (comes begins_type) always field IsField field_begins field_less (λ k h. refl) (λ x k l h e. field_full x k l h)
    fs i j h (turns i) [] (omega arith) (ap begins_type close) refl

data_full : (t : DataTree) (i j : Input) → IsData t i j → data_tree i ≡ Ok (t, j)
unfolding data_tree
data_full _ i _ (grammar.data_type {x = x} {fs = fs} {j = j} {k = k} is a b c d) =
    let name = name_full x (next i) j a in
    let paren = takes sign.OpenBrace j b in
    let inside = fields_full fs (next j) k c d in
    let close = takes sign.CloseBrace k d in
    rw (name, paren, inside, close) refl

-- ---- predicates, entailments, lemmas

name_begins : (xs : List Ident) (i j : Input) → AreNames xs i j → next_word i ≡ word.Name
name_begins _ i _ (one (named is)) = is
name_begins _ i k (more (named is) c others) = is

abbrev is_name : Word → Bool
is_name word.Name = true
is_name _ = false

brackets_full : (xs : List Ident) (i j : Input) → AreBracketed xs i j → brackets i ≡ Ok (xs, j)
unfolding brackets
brackets_full _ i _ (grammar.no_names a b) =
    let paren = takes sign.Less i a in
    let close = sees_sign sign.Greater (next i) b in
    rw (paren, close) refl
brackets_full _ i _ (grammar.names {xs = xs} {j = j} a h b) =
    let paren = takes sign.Less i a in
    let some = sees_none is_name sign.Greater (next i) (ap is_name (name_begins xs (next i) j h)) refl in
    let read = names_full xs (next i) j h (sees_none is_greater sign.Comma j (ap is_greater b) refl) in
    let close = takes sign.Greater j b in
    rw (paren, some, read, close) refl

abbrev is_semicolon : Word → Bool
is_semicolon (word.Sign sign.Semicolon) = true
is_semicolon _ = false

-- ---- methods

params_begin : (ps : List ParamTree) (i j : Input) → Separated IsParam (word.Sign sign.Comma) ps i j → begins_type (next_word i) ≡ true
params_begin _ i j (one {x = p} h) = param_begins p i j h
params_begin _ i k (more {x = p} {j = j} h c others) = param_begins p i j h

params_full : (ps : List ParamTree) (i j : Input) → AreParams ps i j → params i ≡ Ok (ps, j)
unfolding params param_list
params_full _ i _ (grammar.no_params a b) =
    let paren = takes sign.OpenParen i a in
    let close = sees_sign sign.CloseParen (next i) b in
    rw (paren, close) refl
params_full _ i _ (grammar.params {ps = ps} {j = j} a h b) =
    let paren = takes sign.OpenParen i a in
    let some = sees_none begins_type sign.CloseParen (next i) (params_begin ps (next i) j h) refl in
    let read = separated_full (sees sign.Comma) always (word.Sign sign.Comma) (sees_sign sign.Comma) param IsParam param_less (sign_less sign.Comma)
    (λ k h. refl) (λ x k l h e. param_full x k l h) ps (next i) j h (sees_none is_close_paren sign.Comma j (ap is_close_paren b) refl) refl in
    let close = takes sign.CloseParen j b in
    rw (paren, some, read, close) refl

abbrev is_requires : Word → Bool
is_requires (word.Key key.Requires) = true
is_requires _ = false

result_full : (t : Option TypeTree) (i j : Input) → IsResult t i j → IsKey key.Requires j → result_type i ≡ Ok (t, j)
unfolding result_type
result_full _ i _ grammar.no_result next_is = let stop = sees_none is_requires sign.Colon i (ap is_requires next_is) refl in rw stop refl
result_full _ i j (grammar.result_type {t = t} is h) next_is =
    let go = sees_sign sign.Colon i is in
    let read = type_full t (next i) j h in
    rw (go, read) refl

abbrev is_ensures : Word → Bool
is_ensures (word.Key key.Ensures) = true
is_ensures _ = false

abbrev is_open_brace : Word → Bool
is_open_brace (word.Sign sign.OpenBrace) = true
is_open_brace _ = false

block_first : (n : ℕ) (b : BlockTree) (i j : Input) → IsBlock n b i j → IsSign sign.OpenBrace i
block_first _ _ i _ (grammar.block a h b) = a

module _ (n : ℕ) where
  invariant_full : (v : Option (List ItemTree)) (i j : Input) → IsInvariant n v i j → IsSign sign.Semicolon j → invariant n i ≡ Ok (v, j)
  unfolding invariant
  invariant_full _ i _ grammar.no_invariant end = let stop = sees_no_key is_semicolon key.Inv i (ap is_semicolon end) refl in rw stop refl
  invariant_full _ i j (grammar.invariant {xs = xs} is h) end =
      let go = sees_key_there key.Inv i is in
      let read = conj_full n xs (next i) j h (ap ends_conj end) in
      rw (go, read) refl

  invariant_first : (v : Option (List ItemTree)) (i j : Input) → IsInvariant n v i j → IsSign sign.Semicolon j → ends_formula (next_word i) ≡ true
  invariant_first _ i _ grammar.no_invariant end = ap ends_formula end
  invariant_first _ i j (grammar.invariant is h) end = ap ends_formula is

  pred_full : (t : PredTree) (i j : Input) → IsPred n t i j → pred_tree n i ≡ Ok (t, j)
  unfolding pred_tree
  pred_full _ i _ (grammar.pred {x = x} {xs = xs} {f = f} {v = v} {j = j} {k = k} {l = l} {m = m} is a b c d e o) =
      let name = name_full x (next i) j a in
      let given = brackets_full xs j k b in
      let equals = takes sign.EqEq k c in
      let body = formula_full n f (next k) l d (invariant_first v l m e o) in
      let inv = invariant_full v l m e o in
      let end = takes sign.Semicolon m o in
      rw (name, given, equals, body, inv, end) refl

  entail_full : (t : EntailTree) (i j : Input) → IsEntail n t i j → entail_tree n i ≡ Ok (t, j)
  unfolding entail_tree
  entail_full _ i _ (grammar.entail {f = f} {g = g} {j = j} {k = k} is a b c d) =
      let left = formula_full n f (next i) j a (ap ends_formula b) in
      let turnstile = takes sign.Turnstile j b in
      let right = formula_full n g (next j) k c (ap ends_formula d) in
      let end = takes sign.Semicolon k d in
      rw (left, turnstile, right, end) refl

  lemma_full : (t : LemmaTree) (i j : Input) → IsLemma n t i j → lemma_tree n i ≡ Ok (t, j)
  unfolding lemma_tree
  lemma_full _ i _ (grammar.lemma {x = x} {y = y} {xs = xs} {d = d} {j = j} {k = k} {l = l} {m = m} is a b c e f g h o p) =
      let name = name_full x (next i) j a in
      let colon = takes sign.Colon j b in
      let self = takes_key key.SelfWord (next j) c in
      let colons = takes sign.ColonColon (next (next j)) e in
      let of = name_full y (next (next (next j))) k f in
      let given = brackets_full xs k l g in
      let arrow = takes sign.Arrow l h in
      let right = disjunct_full n d (next l) m o (ap ends_conj p) in
      let end = takes sign.Semicolon m p in
      rw (name, colon, self, colons, of, given, arrow, right, end) refl

  variant_full : (v : Option ExprTree) (i j : Input) → IsVariant n v i j → IsKey key.Ensures j → variant n i ≡ Ok (v, j)
  unfolding variant
  variant_full _ i _ grammar.no_variant end = let stop = sees_no_key is_ensures key.Variant i (ap is_ensures end) refl in rw stop refl
  variant_full _ i j (grammar.variant {e = x} is h) end =
      let go = sees_key_there key.Variant i is in
      let read = expr_full n x (next i) j h (ap ends_expr end) in
      rw (go, read) refl

  variant_first : (v : Option ExprTree) (i j : Input) → IsVariant n v i j → IsKey key.Ensures j → ends_formula (next_word i) ≡ true
  variant_first _ i _ grammar.no_variant end = ap ends_formula end
  variant_first _ i j (grammar.variant is h) end = ap ends_formula is

  pair_full : (p : PairSource) (i j : Input) → IsPairOf n p i j → pair n i ≡ Ok (p, j)
  unfolding pair
  pair_full _ i _ (grammar.pair {f = f} {g = g} {v = v} {j = j} {k = k} {l = l} a b c d e o) =
      let requires_word = takes_key key.Requires i a in
      let pre = formula_full n f (next i) j b (variant_first v j k c d) in
      let down = variant_full v j k c d in
      let ensures_word = takes_key key.Ensures k d in
      let post = formula_full n g (next k) l e (ap ends_formula o) in
      let end = takes sign.Semicolon l o in
      rw (requires_word, pre, down, ensures_word, post, end) refl

  pair_starts : (p : PairSource) (i j : Input) → IsPairOf n p i j → sees_key key.Requires i ≡ true
  pair_starts _ i _ (grammar.pair a b c d e o) = sees_key_there key.Requires i a

  pairs_full : (ps : List PairSource) (i j : Input) → ArePairs n ps i j → IsSign sign.OpenBrace j → pairs n i ≡ Ok (ps, j)
  unfolding pairs
  pairs_full _ i k (grammar.pairs {p = p} {ps = ps} {j = j} h others) end =
      let first = pair_full p i j h in
      let rest = repeat_full (sees_key key.Requires) always (pair n) (IsPairOf n) pair_starts (pair_less n) (λ k h. refl) (λ x k l h e. pair_full x k l h)
      ps j k others (turns j) (p ∷ []) (omega arith) (sees_no_key is_open_brace key.Requires k (ap is_open_brace end) refl) refl in
      rw first rest

  pairs_first : (ps : List PairSource) (i j : Input) → ArePairs n ps i j → IsKey key.Requires i
  pairs_first _ i k (grammar.pairs (grammar.pair a b c d e o) others) = a

  method_full : (t : MethodSource) (i j : Input) → IsMethod n t i j → method_tree n i ≡ Ok (t, j)
  unfolding method_tree
  method_full _ i o (grammar.method {x = x} {ps = ps} {t = t} {qs = qs} {b = b} {j = j} {k = k} {l = l} {m = m} is a p c d h) =
      let name = name_full x (next i) j a in
      let given = params_full ps j k p in
      let result = result_full t k l c (pairs_first qs l m d) in
      let both = pairs_full qs l m d (block_first n b m o h) in
      let code = block_full n b m o h in
      rw (name, given, result, both, code) refl

  -- ---- sources

  data_first : (t : DataTree) (i j : Input) → IsData t i j → IsKey key.Data i
  data_first _ i _ (grammar.data_type is a b c d) = is

  pred_first : (t : PredTree) (i j : Input) → IsPred n t i j → IsKey key.Pred i
  pred_first _ i _ (grammar.pred is a b c d e o) = is

  entail_first : (t : EntailTree) (i j : Input) → IsEntail n t i j → IsKey key.Entail i
  entail_first _ i _ (grammar.entail is a b c d) = is

  lemma_first : (t : LemmaTree) (i j : Input) → IsLemma n t i j → IsKey key.Lemma i
  lemma_first _ i _ (grammar.lemma is a b c e f g h o p) = is

  method_first : (t : MethodSource) (i j : Input) → IsMethod n t i j → IsKey key.Method i
  method_first _ i o (grammar.method is a p c d h) = is

  item_full : (t : SourceItem) (i j : Input) → IsSourceItem n t i j → source_item n i ≡ Ok (t, j)
  unfolding source_item
  item_full _ i j (grammar.node_item {t = t} h) = let first = data_first t i j h in let read = data_full t i j h in rw (first, read) refl
  item_full _ i j (grammar.pred_item {t = t} h) = let first = pred_first t i j h in let read = pred_full t i j h in rw (first, read) refl
  item_full _ i j (grammar.entail_item {t = t} h) = let first = entail_first t i j h in let read = entail_full t i j h in rw (first, read) refl
  item_full _ i j (grammar.method_item {t = t} h) = let first = method_first t i j h in let read = method_full t i j h in rw (first, read) refl
  item_full _ i j (grammar.lemma_item {t = t} h) = let first = lemma_first t i j h in let read = lemma_full t i j h in rw (first, read) refl

  item_begins : (t : SourceItem) (i j : Input) → IsSourceItem n t i j → begins_item (next_word i) ≡ true
  item_begins _ i j (grammar.node_item {t = t} h) = ap begins_item (data_first t i j h)
  item_begins _ i j (grammar.pred_item {t = t} h) = ap begins_item (pred_first t i j h)
  item_begins _ i j (grammar.entail_item {t = t} h) = ap begins_item (entail_first t i j h)
  item_begins _ i j (grammar.method_item {t = t} h) = ap begins_item (method_first t i j h)
  item_begins _ i j (grammar.lemma_item {t = t} h) = ap begins_item (lemma_first t i j h)

  -- what the grammar has as a source is read
  pub source_full : (t : Source) (i j : Input) → IsSource n t i j → next_word j ≡ word.End → source n i ≡ Ok (t, j)
  unfolding source
  source_full _ i j (grammar.source {items = items} h) end =
      let read = repeat_full (comes begins_item) always (source_item n) (IsSourceItem n) item_begins (item_less n) (λ k h. refl) (λ x k l h e. item_full x k l h)
      items i j h (turns i) [] (omega arith) (ap begins_item end) refl in
      rw read refl
