-- What the grammar of sources has takes tokens.
use Rattle.std.proofs.Common.{◌≡◌, ◌≢◌, ℕ, suc, ◌<◌, ◌≤◌, List, Option, Some, None, refl, arith}
use Rattle.hs_lex.specs.declared.token.Sign.TheVariants as sign
use Rattle.hs_tree.specs.declared.ident.Ident.{Ident}
use Rattle.hs_tree.specs.declared.expr.ExprTree.{ExprTree}
use Rattle.hs_tree.specs.declared.item.RelTree.{RelTree}
use Rattle.hs_tree.specs.declared.item.ItemTree.{ItemTree}
use Rattle.hs_tree.specs.declared.method.CondTree.{CondTree}
use Rattle.hs_tree.specs.declared.method.TestTree.{TestTree}
use Rattle.hs_tree.specs.declared.method.TestKind.{TestKind}
use Rattle.hs_tree.specs.declared.method.TypeTree.{TypeTree}
use Rattle.hs_tree.specs.declared.method.CallTree.{CallTree}
use Rattle.hs_tree.specs.declared.method.ValueTree.{ValueTree}
use Rattle.hs_tree.specs.declared.method.BlockTree.{BlockTree}
use Rattle.hs_tree.specs.declared.method.StatementTree.{StatementTree}
use Rattle.hs_tree.specs.declared.method.StatementKind.{StatementKind}
use Rattle.hs_tree.specs.declared.method.ParamTree.{ParamTree}
use Rattle.hs_tree.specs.declared.method.PairSource.{PairSource}
use Rattle.hs_tree.specs.declared.method.MethodSource.{MethodSource}
use Rattle.hs_tree.specs.declared.source.DataTree.{DataTree}
use Rattle.hs_tree.specs.declared.source.PredTree.{PredTree}
use Rattle.hs_tree.specs.declared.source.EntailTree.{EntailTree}
use Rattle.hs_tree.specs.declared.source.LemmaTree.{LemmaTree}
use Rattle.hs_tree.specs.declared.source.SourceItem.{SourceItem}
use Rattle.hs_words.specs.declared.word.Keyword.TheVariants as key
use Rattle.hs_words.specs.declared.word.Word.{Word}
use Rattle.hs_words.specs.declared.word.Word.TheVariants as word
use Rattle.hs_words.specs.Input.{Input, next_word, next, turns}
use Rattle.hs_words.proofs.Full.{next_less, sign_less, key_less}
use Rattle.hs_read_pure.specs.Grammar.{IsExpr}
use Rattle.hs_read_pure.proofs.Less.{name_less, expr_less, items_less, disjunct_less, formula_less, names_less, repeated_less, separated_less}
use Rattle.hs_read.specs.Test.{test_relation}
use Rattle.hs_read.specs.Grammar.{IsCond, AreCases, AreTests, IsTest, IsTestKind, IsType, AreArguments, IsCall, IsValue, IsInitial, IsBlock, AreStatements, IsStatement, IsStatementKind, IsParam, IsField, IsData, AreBracketed, IsInvariant, IsPred, IsEntail, IsLemma, IsVariant, IsPairOf, ArePairs, AreParams, IsResult, IsMethod, IsSourceItem}
use Rattle.hs_read.specs.Grammar as grammar

relation_not_end : (w : Word) (r : RelTree) → test_relation w ≡ Some r → w ≢ word.End
relation_not_end word.End r e is = absurd cc
relation_not_end w r e is = cc

mutual
  pub cond_less : (n : ℕ) (c : CondTree) (i j : Input) → IsCond n c i j → turns j < turns i
  cond_less n _ i j (grammar.cond {cs = cs} h) = cases_less n cs i j h

  cases_less : (n : ℕ) (cs : List (List TestTree)) (i j : Input) → AreCases n cs i j → turns j < turns i
  cases_less n _ i j (grammar.last_case {c = c} h) = tests_less n c i j h
  cases_less n _ i k (grammar.case {c = c} {cs = cs} {j = j} h is others) = omega (arith, tests_less n c i j h, sign_less sign.OrOr j is, cases_less n cs (next j) k others)

  pub tests_less : (n : ℕ) (xs : List TestTree) (i j : Input) → AreTests n xs i j → turns j < turns i
  tests_less n _ i j (grammar.last_test {x = x} h) = test_less n x i j h
  tests_less n _ i k (grammar.another_test {x = x} {xs = xs} {j = j} h is others) =
      omega (arith, test_less n x i j h, sign_less sign.AndAnd j is, tests_less n xs (next j) k others)

  pub test_less : (n : ℕ) (x : TestTree) (i j : Input) → IsTest n x i j → turns j < turns i
  test_less n _ i j (grammar.test {k = k} h) = test_kind_less n k i j h

  test_kind_less : (n : ℕ) (k : TestKind) (i j : Input) → IsTestKind n k i j → turns j < turns i
  test_kind_less _ _ i j (grammar.negation {n = n} {x = x} is h) = omega (arith, sign_less sign.Bang i is, test_less n x (next i) j h)
  test_kind_less _ _ i _ (grammar.group {n = n} {c = c} {j = j} a h b) = omega (arith, sign_less sign.OpenParen i a, cond_less n c (next i) j h, sign_less sign.CloseParen j b)
  test_kind_less n _ i k (grammar.comparison {r = r} {x = x} {y = y} {j = j} is_x is is_y) =
      omega (arith, expr_less n x i j is_x, next_less j (next_word j) refl (relation_not_end (next_word j) r is), expr_less n y (next j) k is_y)

type_less : (t : TypeTree) (i j : Input) → IsType t i j → turns j < turns i
type_less _ i _ (grammar.int is) = key_less key.Int i is
type_less _ i j (grammar.type_name {x = x} h) = name_less x i j h

module _ (n : ℕ) where
  arguments_less : (xs : List ExprTree) (i j : Input) → AreArguments n xs i j → turns j < turns i
  arguments_less _ i _ (grammar.no_arguments a b) = omega (arith, sign_less sign.OpenParen i a, sign_less sign.CloseParen (next i) b)
  arguments_less _ i _ (grammar.arguments {xs = xs} {j = j} a h b) =
      omega (arith, sign_less sign.OpenParen i a, separated_less (IsExpr n) (expr_less n) (word.Sign sign.Comma) (sign_less sign.Comma) xs (next i) j h, sign_less sign.CloseParen j b)

  call_less : (c : CallTree) (i j : Input) → IsCall n c i j → turns j < turns i
  call_less _ i k (grammar.call {x = x} {xs = xs} {j = j} a b) = omega (arith, name_less x i j a, arguments_less xs j k b)

  value_less : (v : ValueTree) (i j : Input) → IsValue n v i j → turns j < turns i
  value_less _ i k (grammar.new_node {x = x} {xs = xs} {j = j} is a b) = omega (arith, key_less key.New i is, name_less x (next i) j a, arguments_less xs j k b)
  value_less _ i j (grammar.called_value {c = c} h) = call_less c i j h
  value_less _ i k (grammar.load {x = x} {f = f} {j = j} a d b) = omega (arith, name_less x i j a, sign_less sign.Dot j d, name_less f (next j) k b)
  value_less _ i j (grammar.value {e = e} h) = expr_less n e i j h

  initial_less : (v : Option ValueTree) (i j : Input) → IsInitial n v i j → turns j ≤ turns i
  initial_less _ i _ grammar.unset = omega arith
  initial_less _ i j (grammar.set {v = v} is h) = omega (arith, sign_less sign.Equals i is, value_less v (next i) j h)

mutual
  pub block_less : (n : ℕ) (b : BlockTree) (i j : Input) → IsBlock n b i j → turns j < turns i
  block_less _ _ i _ (grammar.block {n = n} {xs = xs} {j = j} a h b) = omega (arith, sign_less sign.OpenBrace i a, statements_less n xs (next i) j h, sign_less sign.CloseBrace j b)

  statements_less : (n : ℕ) (xs : List StatementTree) (i j : Input) → AreStatements n xs i j → turns j ≤ turns i
  statements_less n _ i _ grammar.no_statement = omega arith
  statements_less n _ i k (grammar.another_statement {x = x} {xs = xs} {j = j} h others) = omega (arith, statement_less n x i j h, statements_less n xs j k others)

  pub statement_less : (n : ℕ) (x : StatementTree) (i j : Input) → IsStatement n x i j → turns j < turns i
  statement_less n _ i j (grammar.statement {k = k} h) = statement_kind_less n k i j h

  statement_kind_less : (n : ℕ) (k : StatementKind) (i j : Input) → IsStatementKind n k i j → turns j < turns i
  statement_kind_less n _ i _ (grammar.local {t = t} {x = x} {v = v} {j = j} {k = k} {l = l} a b c d) =
      omega (arith, type_less t i j a, name_less x j k b, initial_less n v k l c, sign_less sign.Semicolon l d)
  statement_kind_less n _ i _ (grammar.assign {x = x} {v = v} {j = j} {k = k} a b c d) =
      omega (arith, name_less x i j a, sign_less sign.Equals j b, value_less n v (next j) k c, sign_less sign.Semicolon k d)
  statement_kind_less n _ i _ (grammar.store {x = x} {f = f} {e = e} {j = j} {k = k} {l = l} a b c d g o) =
      omega (arith, name_less x i j a, sign_less sign.Dot j b, name_less f (next j) k c, sign_less sign.Equals k d, expr_less n e (next k) l g, sign_less sign.Semicolon l o)
  statement_kind_less n _ i _ (grammar.called {c = c} {j = j} a b) = omega (arith, call_less n c i j a, sign_less sign.Semicolon j b)
  statement_kind_less n _ i k (grammar.branch {c = c} {b = b} {j = j} is o h p g) =
      omega (arith, key_less key.If i is, sign_less sign.OpenParen (next i) o, cond_less n c (next (next i)) j h, sign_less sign.CloseParen j p, block_less n b (next j) k g)
  statement_kind_less n _ i l (grammar.branch_else {c = c} {b = b} {d = d} {j = j} {k = k} is o h p g e f) =
      omega (
        arith,
        key_less key.If i is,
        sign_less sign.OpenParen (next i) o,
        cond_less n c (next (next i)) j h,
        sign_less sign.CloseParen j p,
        block_less n b (next j) k g,
        key_less key.Else k e,
        block_less n d (next k) l f,
      )
  statement_kind_less n _ i _ (grammar.return_none is o) = omega (arith, key_less key.Return i is, sign_less sign.Semicolon (next i) o)
  statement_kind_less n _ i _ (grammar.return_some {e = e} {j = j} is h o) = omega (arith, key_less key.Return i is, expr_less n e (next i) j h, sign_less sign.Semicolon j o)

-- ---- declarations

pub param_less : (p : ParamTree) (i j : Input) → IsParam p i j → turns j < turns i
param_less _ i k (grammar.param {t = t} {x = x} {j = j} a b) = omega (arith, type_less t i j a, name_less x j k b)

pub field_less : (p : ParamTree) (i j : Input) → IsField p i j → turns j < turns i
field_less _ i _ (grammar.field {p = p} {j = j} a b) = omega (arith, param_less p i j a, sign_less sign.Semicolon j b)

data_less : (t : DataTree) (i j : Input) → IsData t i j → turns j < turns i
data_less _ i _ (grammar.data_type {x = x} {fs = fs} {j = j} {k = k} is a b c d) =
    omega (arith, key_less key.Data i is, name_less x (next i) j a, sign_less sign.OpenBrace j b, repeated_less IsField field_less fs (next j) k c, sign_less sign.CloseBrace k d)

brackets_less : (xs : List Ident) (i j : Input) → AreBracketed xs i j → turns j < turns i
brackets_less _ i _ (grammar.no_names a b) = omega (arith, sign_less sign.Less i a, sign_less sign.Greater (next i) b)
brackets_less _ i _ (grammar.names {xs = xs} {j = j} a h b) = omega (arith, sign_less sign.Less i a, names_less xs (next i) j h, sign_less sign.Greater j b)

params_less : (ps : List ParamTree) (i j : Input) → AreParams ps i j → turns j < turns i
params_less _ i _ (grammar.no_params a b) = omega (arith, sign_less sign.OpenParen i a, sign_less sign.CloseParen (next i) b)
params_less _ i _ (grammar.params {ps = ps} {j = j} a h b) =
    omega (arith, sign_less sign.OpenParen i a, separated_less IsParam param_less (word.Sign sign.Comma) (sign_less sign.Comma) ps (next i) j h, sign_less sign.CloseParen j b)

result_less : (t : Option TypeTree) (i j : Input) → IsResult t i j → turns j ≤ turns i
result_less _ i _ grammar.no_result = omega arith
result_less _ i j (grammar.result_type {t = t} is h) = omega (arith, sign_less sign.Colon i is, type_less t (next i) j h)

module _ (n : ℕ) where
  invariant_less : (v : Option (List ItemTree)) (i j : Input) → IsInvariant n v i j → turns j ≤ turns i
  invariant_less _ i _ grammar.no_invariant = omega arith
  invariant_less _ i j (grammar.invariant {xs = xs} is h) = omega (arith, key_less key.Inv i is, items_less n xs (next i) j h)

  pred_less : (t : PredTree) (i j : Input) → IsPred n t i j → turns j < turns i
  pred_less _ i _ (grammar.pred {x = x} {xs = xs} {f = f} {v = v} {j = j} {k = k} {l = l} {m = m} is a b c d e o) =
      omega (arith, key_less key.Pred i is, name_less x (next i) j a, brackets_less xs j k b, sign_less sign.EqEq k c, formula_less n f (next k) l d, invariant_less v l m e, sign_less sign.Semicolon m o)

  entail_less : (t : EntailTree) (i j : Input) → IsEntail n t i j → turns j < turns i
  entail_less _ i _ (grammar.entail {f = f} {g = g} {j = j} {k = k} is a b c d) =
      omega (arith, key_less key.Entail i is, formula_less n f (next i) j a, sign_less sign.Turnstile j b, formula_less n g (next j) k c, sign_less sign.Semicolon k d)

  lemma_less : (t : LemmaTree) (i j : Input) → IsLemma n t i j → turns j < turns i
  lemma_less _ i _ (grammar.lemma {x = x} {y = y} {xs = xs} {d = d} {j = j} {k = k} {l = l} {m = m} is a b c e f g h o p) =
      omega (
        arith,
        key_less key.Lemma i is,
        name_less x (next i) j a,
        sign_less sign.Colon j b,
        key_less key.SelfWord (next j) c,
        sign_less sign.ColonColon (next (next j)) e,
        name_less y (next (next (next j))) k f,
        brackets_less xs k l g,
        sign_less sign.Arrow l h,
        disjunct_less n d (next l) m o,
        sign_less sign.Semicolon m p,
      )

  variant_less : (v : Option ExprTree) (i j : Input) → IsVariant n v i j → turns j ≤ turns i
  variant_less _ i _ grammar.no_variant = omega arith
  variant_less _ i j (grammar.variant {e = e} is h) = omega (arith, key_less key.Variant i is, expr_less n e (next i) j h)

  pub pair_less : (p : PairSource) (i j : Input) → IsPairOf n p i j → turns j < turns i
  pair_less _ i _ (grammar.pair {f = f} {g = g} {v = v} {j = j} {k = k} {l = l} a b c d e o) =
      omega (arith, key_less key.Requires i a, formula_less n f (next i) j b, variant_less v j k c, key_less key.Ensures k d, formula_less n g (next k) l e, sign_less sign.Semicolon l o)

  pairs_less : (ps : List PairSource) (i j : Input) → ArePairs n ps i j → turns j < turns i
  pairs_less _ i k (grammar.pairs {p = p} {ps = ps} {j = j} h others) = omega (arith, pair_less p i j h, repeated_less (IsPairOf n) pair_less ps j k others)

  method_less : (t : MethodSource) (i j : Input) → IsMethod n t i j → turns j < turns i
  method_less _ i o (grammar.method {x = x} {ps = ps} {t = t} {qs = qs} {b = b} {j = j} {k = k} {l = l} {m = m} is a p c d h) =
      omega (arith, key_less key.Method i is, name_less x (next i) j a, params_less ps j k p, result_less t k l c, pairs_less qs l m d, block_less n b m o h)

  pub item_less : (t : SourceItem) (i j : Input) → IsSourceItem n t i j → turns j < turns i
  item_less _ i j (grammar.node_item {t = t} h) = data_less t i j h
  item_less _ i j (grammar.pred_item {t = t} h) = pred_less t i j h
  item_less _ i j (grammar.entail_item {t = t} h) = entail_less t i j h
  item_less _ i j (grammar.method_item {t = t} h) = method_less t i j h
  item_less _ i j (grammar.lemma_item {t = t} h) = lemma_less t i j h
