-- What is read as a source is spelled so by the grammar.
use Rattle.std.proofs.Common.{◌≡◌, ℕ, List, [], ◌∷◌, ◌++◌, refl, sym, subst}
use Rattle.hs_lex.specs.declared.token.Sign.TheVariants as sign
use Rattle.hs_tree.specs.declared.method.ParamTree.{ParamTree}
use Rattle.hs_tree.specs.declared.method.PairSource.{PairSource}
use Rattle.hs_tree.specs.declared.source.SourceItem.{SourceItem}
use Rattle.hs_words.specs.declared.word.Keyword.TheVariants as key
use Rattle.hs_words.specs.declared.word.Word.{Word}
use Rattle.hs_words.specs.declared.word.Word.TheVariants as word
use Rattle.hs_words.specs.Input.{Input, next_word, next, is_sign, is_key, turns, comes, sees, sees_key}
use Rattle.hs_words.specs.Grammar.{IsKey, Repeated, Separated}
use Rattle.hs_words.proofs.Yields.{Yields, Accepts, yield, yields_none, ◌▷◌, ◌▸◌, choose, after_sign, after_key, seen, seen_key, sign_is, separated_accepts, repeat_yields}
use Rattle.hs_read_pure.proofs.ExprSound.{name_accepts, expr_accepts}
use Rattle.hs_read_pure.proofs.ItemSound.{conj_accepts}
use Rattle.hs_read_pure.proofs.FormulaSound.{names_accept, disjunct_accepts, formula_accepts}
use Rattle.hs_read.specs.Declare.{param, field, begins_type, fields, data_tree, brackets, invariant, pred_tree, entail_tree, lemma_tree, variant, pair, pairs, param_list, params, result_type, method_tree, item_by, source_item, begins_item, source}
use Rattle.hs_read.specs.Grammar.{IsParam, IsField, IsData, AreBracketed, IsInvariant, IsPred, IsEntail, IsLemma, IsVariant, IsPairOf, ArePairs, AreParams, IsResult, IsMethod, IsSourceItem, IsSource}
use Rattle.hs_read.specs.Grammar as grammar
use Rattle.hs_read.proofs.StatementSound.{type_accepts, block_accepts}

param_accepts : Accepts param IsParam
unfolding param
param_accepts i = type_accepts i ▷ λ t j a. name_accepts j ▷ λ x k b. yield (grammar.param a b)

field_accepts : Accepts field IsField
unfolding field
field_accepts i = param_accepts i ▷ λ p j a. after_sign _ _ (λ b. yield (grammar.field a b))

fields_accept : Accepts fields (Repeated IsField)
unfolding fields
fields_accept i =
    repeat_yields (comes begins_type) field IsField (λ j e. field_accepts j) (turns i) [] i ▸ λ all j xs. subst (λ (v : List ParamTree). Repeated IsField v i j) (sym xs.1) xs.2

data_yields : (i : Input) → IsKey key.Data i → Yields (data_tree i) (λ t j. IsData t i j)
unfolding data_tree
data_yields i is =
    name_accepts (next i) ▷ λ x j a. after_sign _ _ (λ b. fields_accept (next j) ▷ λ fs k c. after_sign _ _ (λ d. yield (grammar.data_type is a b c d)))

brackets_accept : Accepts brackets AreBracketed
unfolding brackets
brackets_accept i =
    after_sign _ _ (λ a. choose _ _ _ (λ e. yield (grammar.no_names a (seen sign.Greater (next i) e)))
    (λ e. names_accept (next i) ▷ λ xs j h. after_sign _ _ (λ b. yield (grammar.names a h b))))

param_list_accepts : (i : Input) → Yields (param_list i) (λ ps j. Separated IsParam (word.Sign sign.Comma) ps i j)
unfolding param_list
param_list_accepts i = separated_accepts (sees sign.Comma) (word.Sign sign.Comma) (seen sign.Comma) param IsParam param_accepts i

params_accept : Accepts params AreParams
unfolding params
params_accept i =
    after_sign _ _ (λ a. choose _ _ _ (λ e. yield (grammar.no_params a (seen sign.CloseParen (next i) e)))
    (λ e. param_list_accepts (next i) ▷ λ ps j h. after_sign _ _ (λ b. yield (grammar.params a h b))))

result_accepts : Accepts result_type IsResult
unfolding result_type
result_accepts i =
    choose _ _ _ (λ e. type_accepts (next i) ▷ λ t j h. yield (grammar.result_type (seen sign.Colon i e) h)) (λ e. yield grammar.no_result)

module _ (n : ℕ) where
  invariant_accepts : Accepts (invariant n) (IsInvariant n)
  unfolding invariant
  invariant_accepts i =
      choose _ _ _ (λ e. conj_accepts n (next i) ▷ λ xs j h. yield (grammar.invariant (seen_key key.Inv i e) h)) (λ e. yield grammar.no_invariant)

  pred_yields : (i : Input) → IsKey key.Pred i → Yields (pred_tree n i) (λ t j. IsPred n t i j)
  unfolding pred_tree
  pred_yields i is =
      name_accepts (next i) ▷ λ x j a. brackets_accept j ▷ λ xs k b. after_sign _ _ (λ c. formula_accepts n (next k) ▷ λ f l d. invariant_accepts l ▷ λ v m e.
      after_sign _ _ (λ o. yield (grammar.pred is a b c d e o)))

  entail_yields : (i : Input) → IsKey key.Entail i → Yields (entail_tree n i) (λ t j. IsEntail n t i j)
  unfolding entail_tree
  entail_yields i is =
      formula_accepts n (next i) ▷ λ f j a. after_sign _ _ (λ b. formula_accepts n (next j) ▷ λ g k c. after_sign _ _ (λ d. yield (grammar.entail is a b c d)))

  lemma_yields : (i : Input) → IsKey key.Lemma i → Yields (lemma_tree n i) (λ t j. IsLemma n t i j)
  unfolding lemma_tree
  lemma_yields i is =
      name_accepts (next i) ▷ λ x j a. after_sign _ _ (λ b. after_key _ _ (λ c. after_sign _ _ (λ d. name_accepts (next (next (next j))) ▷ λ y k e.
      brackets_accept k ▷ λ xs l f. after_sign _ _ (λ g. disjunct_accepts n (next l) ▷ λ t m h. after_sign _ _ (λ o. yield (grammar.lemma is a b c d e f g h o))))))

  variant_accepts : Accepts (variant n) (IsVariant n)
  unfolding variant
  variant_accepts i =
      choose _ _ _ (λ e. expr_accepts n (next i) ▷ λ x j h. yield (grammar.variant (seen_key key.Variant i e) h)) (λ e. yield grammar.no_variant)

  pair_accepts : Accepts (pair n) (IsPairOf n)
  unfolding pair
  pair_accepts i =
      after_key _ _ (λ a. formula_accepts n (next i) ▷ λ f j b. variant_accepts j ▷ λ v k c. after_key _ _ (λ d. formula_accepts n (next k) ▷ λ g l e.
      after_sign _ _ (λ o. yield (grammar.pair a b c d e o))))

  pairs_accept : Accepts (pairs n) (ArePairs n)
  unfolding pairs
  pairs_accept i =
      pair_accepts i ▷ λ p j a. repeat_yields (sees_key key.Requires) (pair n) (IsPairOf n) (λ k e. pair_accepts k) (turns j) (p ∷ []) j ▸ λ all k ps.
      subst (λ (v : List PairSource). ArePairs n v i k) (sym ps.1) (grammar.pairs a ps.2)

  method_yields : (i : Input) → IsKey key.Method i → Yields (method_tree n i) (λ t j. IsMethod n t i j)
  unfolding method_tree
  method_yields i is =
      name_accepts (next i) ▷ λ x j a. params_accept j ▷ λ ps k p. result_accepts k ▷ λ t l c. pairs_accept l ▷ λ qs m d. block_accepts n m ▷ λ b o h.
      yield (grammar.method is a p c d h)

  item_at : (w : Word) (i : Input) → next_word i ≡ w → Yields (item_by n w i) (λ t j. IsSourceItem n t i j)
  item_at (word.Key key.Data) i is = data_yields i is ▷ λ t j h. yield (grammar.node_item h)
  item_at (word.Key key.Pred) i is = pred_yields i is ▷ λ t j h. yield (grammar.pred_item h)
  item_at (word.Key key.Entail) i is = entail_yields i is ▷ λ t j h. yield (grammar.entail_item h)
  item_at (word.Key key.Method) i is = method_yields i is ▷ λ t j h. yield (grammar.method_item h)
  item_at (word.Key key.Lemma) i is = lemma_yields i is ▷ λ t j h. yield (grammar.lemma_item h)
  item_at w i is = yields_none

  item_accepts : Accepts (source_item n) (IsSourceItem n)
  unfolding source_item
  item_accepts i = item_at (next_word i) i refl

  -- what is read as a source is spelled so
  pub source_accepts : Accepts (source n) (IsSource n)
  unfolding source
  source_accepts i =
      repeat_yields (comes begins_item) (source_item n) (IsSourceItem n) (λ j e. item_accepts j) (turns i) [] i ▷ λ all j xs.
      yield (subst (λ (v : List SourceItem). IsSource n (record { items = v }) i j) (sym xs.1) (grammar.source xs.2))
