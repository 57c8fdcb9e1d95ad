-- The grammar of sources, a constructor for each way to spell a tree: the tokens from one place to another spell it.
-- The number says how many levels of nesting are left there.
use Rattle.std.specs.Prelude.{◌≡◌, ℕ, suc, List, [], ◌∷◌, Option, Some, None}
use Rattle.hs_lex.specs.declared.token.Sign.TheVariants as sign
use Rattle.hs_tree.specs.declared.ident.Ident.{Ident}
use Rattle.hs_tree.specs.declared.expr.ExprTree.{ExprTree}
use Rattle.hs_tree.specs.declared.item.RelTree.{RelTree}
use Rattle.hs_tree.specs.declared.item.ItemTree.{ItemTree}
use Rattle.hs_tree.specs.declared.formula.DisjunctTree.{DisjunctTree}
use Rattle.hs_tree.specs.declared.formula.FormulaTree.{FormulaTree}
use Rattle.hs_tree.specs.declared.method.CondTree.{CondTree, roll-CondTree}
use Rattle.hs_tree.specs.declared.method.TestTree.{TestTree}
use Rattle.hs_tree.specs.declared.method.TestKind.{TestKind}
use Rattle.hs_tree.specs.declared.method.TestKind.TheVariants as test_kind
use Rattle.hs_tree.specs.declared.method.TypeTree.{TypeTree}
use Rattle.hs_tree.specs.declared.method.TypeTree.TheVariants as type_kind
use Rattle.hs_tree.specs.declared.method.CallTree.{CallTree}
use Rattle.hs_tree.specs.declared.method.ValueTree.{ValueTree}
use Rattle.hs_tree.specs.declared.method.ValueTree.TheVariants as value_kind
use Rattle.hs_tree.specs.declared.method.BlockTree.{BlockTree, roll-BlockTree}
use Rattle.hs_tree.specs.declared.method.StatementTree.{StatementTree}
use Rattle.hs_tree.specs.declared.method.StatementKind.{StatementKind}
use Rattle.hs_tree.specs.declared.method.StatementKind.TheVariants as kind
use Rattle.hs_tree.specs.declared.method.ParamTree.{ParamTree}
use Rattle.hs_tree.specs.declared.method.PairSource.{PairSource}
use Rattle.hs_tree.specs.declared.method.MethodSource.{MethodSource}
use Rattle.hs_tree.specs.declared.source.DataTree.{DataTree}
use Rattle.hs_tree.specs.declared.source.PredTree.{PredTree}
use Rattle.hs_tree.specs.declared.source.EntailTree.{EntailTree}
use Rattle.hs_tree.specs.declared.source.LemmaTree.{LemmaTree}
use Rattle.hs_tree.specs.declared.source.Source.{Source}
use Rattle.hs_tree.specs.declared.source.SourceItem.{SourceItem}
use Rattle.hs_tree.specs.declared.source.SourceItem.TheVariants as item_kind
use Rattle.hs_words.specs.declared.word.Keyword.TheVariants as key
use Rattle.hs_words.specs.declared.word.Word.TheVariants as word
use Rattle.hs_words.specs.Input.{Input, next_word, next, place}
use Rattle.hs_words.specs.Grammar.{IsSign, IsKey, Separated, Repeated}
use Rattle.hs_read_pure.specs.Grammar.{IsName, IsExpr, AreItems, IsFormula, IsDisjunct, AreNames}
use Rattle.hs_read.specs.Test.{test_relation}

-- ---- conditions

mutual
  pub data IsCond : ℕ → CondTree → Input → Input → Type 0 where
    cond : {n : ℕ} {cs : List (List TestTree)} {i j : Input} → AreCases n cs i j → IsCond n (roll-CondTree (record { cases = cs; at = place i })) i j

  pub data AreCases : ℕ → List (List TestTree) → Input → Input → Type 0 where
    last_case : {n : ℕ} {c : List TestTree} {i j : Input} → AreTests n c i j → AreCases n (c ∷ []) i j
    case : {n : ℕ} {c : List TestTree} {cs : List (List TestTree)} {i j k : Input}
        → AreTests n c i j → IsSign sign.OrOr j → AreCases n cs (next j) k → AreCases n (c ∷ cs) i k

  pub data AreTests : ℕ → List TestTree → Input → Input → Type 0 where
    last_test : {n : ℕ} {x : TestTree} {i j : Input} → IsTest n x i j → AreTests n (x ∷ []) i j
    another_test : {n : ℕ} {x : TestTree} {xs : List TestTree} {i j k : Input}
        → IsTest n x i j → IsSign sign.AndAnd j → AreTests n xs (next j) k → AreTests n (x ∷ xs) i k

  pub data IsTest : ℕ → TestTree → Input → Input → Type 0 where
    test : {n : ℕ} {k : TestKind} {i j : Input} → IsTestKind n k i j → IsTest n (record { kind = k; at = place i }) i j

  pub data IsTestKind : ℕ → TestKind → Input → Input → Type 0 where
    negation : {n : ℕ} {x : TestTree} {i j : Input} → IsSign sign.Bang i → IsTest n x (next i) j → IsTestKind (suc n) (test_kind.Not x) i j
    group : {n : ℕ} {c : CondTree} {i j : Input}
        → IsSign sign.OpenParen i → IsCond n c (next i) j → IsSign sign.CloseParen j → IsTestKind (suc n) (test_kind.Group c) i (next j)
    comparison : {n : ℕ} {r : RelTree} {x y : ExprTree} {i j k : Input} → IsExpr n x i j → test_relation (next_word j) ≡ Some r → IsExpr n y (next j) k
        → IsTestKind n (test_kind.Rel r x y) i k

-- ---- values

pub data IsType : TypeTree → Input → Input → Type 0 where
  int : {i : Input} → IsKey key.Int i → IsType (type_kind.Int (place i)) i (next i)
  type_name : {x : Ident} {i j : Input} → IsName x i j → IsType (type_kind.Named x) i j

-- expressions in parentheses
pub data AreArguments (n : ℕ) : List ExprTree → Input → Input → Type 0 where
  no_arguments : {i : Input} → IsSign sign.OpenParen i → IsSign sign.CloseParen (next i) → AreArguments n [] i (next (next i))
  arguments : {xs : List ExprTree} {i j : Input}
      → IsSign sign.OpenParen i → Separated (IsExpr n) (word.Sign sign.Comma) xs (next i) j → IsSign sign.CloseParen j → AreArguments n xs i (next j)

pub data IsCall (n : ℕ) : CallTree → Input → Input → Type 0 where
  call : {x : Ident} {xs : List ExprTree} {i j k : Input} → IsName x i j → AreArguments n xs j k → IsCall n (record { name = x; args = xs }) i k

pub data IsValue (n : ℕ) : ValueTree → Input → Input → Type 0 where
  new_node : {x : Ident} {xs : List ExprTree} {i j k : Input} → IsKey key.New i → IsName x (next i) j → AreArguments n xs j k → IsValue n (value_kind.New (place i) x xs) i k
  called_value : {c : CallTree} {i j : Input} → IsCall n c i j → IsValue n (value_kind.Call c) i j
  load : {x f : Ident} {i j k : Input} → IsName x i j → IsSign sign.Dot j → IsName f (next j) k → IsValue n (value_kind.Load x f) i k
  value : {e : ExprTree} {i j : Input} → IsExpr n e i j → IsValue n (value_kind.Value e) i j

-- what a local gets where it is declared
pub data IsInitial (n : ℕ) : Option ValueTree → Input → Input → Type 0 where
  unset : {i : Input} → IsInitial n None i i
  set : {v : ValueTree} {i j : Input} → IsSign sign.Equals i → IsValue n v (next i) j → IsInitial n (Some v) i j

-- ---- statements

mutual
  pub data IsBlock : ℕ → BlockTree → Input → Input → Type 0 where
    block : {n : ℕ} {xs : List StatementTree} {i j : Input}
        → IsSign sign.OpenBrace i → AreStatements n xs (next i) j → IsSign sign.CloseBrace j
        → IsBlock (suc n) (roll-BlockTree (record { statements = xs; at = place i; end = place j })) i (next j)

  pub data AreStatements : ℕ → List StatementTree → Input → Input → Type 0 where
    no_statement : {n : ℕ} {i : Input} → AreStatements n [] i i
    another_statement : {n : ℕ} {x : StatementTree} {xs : List StatementTree} {i j k : Input} → IsStatement n x i j → AreStatements n xs j k → AreStatements n (x ∷ xs) i k

  pub data IsStatement : ℕ → StatementTree → Input → Input → Type 0 where
    statement : {n : ℕ} {k : StatementKind} {i j : Input} → IsStatementKind n k i j → IsStatement n (record { kind = k; at = place i }) i j

  pub data IsStatementKind : ℕ → StatementKind → Input → Input → Type 0 where
    local : {n : ℕ} {t : TypeTree} {x : Ident} {v : Option ValueTree} {i j k l : Input} → IsType t i j → IsName x j k → IsInitial n v k l → IsSign sign.Semicolon l
        → IsStatementKind n (kind.Local t x v) i (next l)
    assign : {n : ℕ} {x : Ident} {v : ValueTree} {i j k : Input} → IsName x i j → IsSign sign.Equals j → IsValue n v (next j) k → IsSign sign.Semicolon k
        → IsStatementKind n (kind.Assign x v) i (next k)
    store : {n : ℕ} {x f : Ident} {e : ExprTree} {i j k l : Input} → IsName x i j → IsSign sign.Dot j → IsName f (next j) k → IsSign sign.Equals k → IsExpr n e (next k) l
        → IsSign sign.Semicolon l → IsStatementKind n (kind.Store x f e) i (next l)
    called : {n : ℕ} {c : CallTree} {i j : Input} → IsCall n c i j → IsSign sign.Semicolon j → IsStatementKind n (kind.Call c) i (next j)
    branch : {n : ℕ} {c : CondTree} {b : BlockTree} {i j k : Input} → IsKey key.If i → IsSign sign.OpenParen (next i) → IsCond n c (next (next i)) j
        → IsSign sign.CloseParen j → IsBlock n b (next j) k → IsStatementKind n (kind.Branch c b None) i k
    branch_else : {n : ℕ} {c : CondTree} {b d : BlockTree} {i j k l : Input} → IsKey key.If i → IsSign sign.OpenParen (next i) → IsCond n c (next (next i)) j
        → IsSign sign.CloseParen j → IsBlock n b (next j) k → IsKey key.Else k → IsBlock n d (next k) l → IsStatementKind n (kind.Branch c b (Some d)) i l
    return_none : {n : ℕ} {i : Input} → IsKey key.Return i → IsSign sign.Semicolon (next i) → IsStatementKind n (kind.Return None) i (next (next i))
    return_some : {n : ℕ} {e : ExprTree} {i j : Input} → IsKey key.Return i → IsExpr n e (next i) j → IsSign sign.Semicolon j → IsStatementKind n (kind.Return (Some e)) i (next j)

-- ---- declarations

pub data IsParam : ParamTree → Input → Input → Type 0 where
  param : {t : TypeTree} {x : Ident} {i j k : Input} → IsType t i j → IsName x j k → IsParam (record { kind = t; name = x; at = place i }) i k

pub data IsField : ParamTree → Input → Input → Type 0 where
  field : {p : ParamTree} {i j : Input} → IsParam p i j → IsSign sign.Semicolon j → IsField p i (next j)

pub data IsData : DataTree → Input → Input → Type 0 where
  data_type : {x : Ident} {fs : List ParamTree} {i j k : Input} → IsKey key.Data i → IsName x (next i) j → IsSign sign.OpenBrace j → Repeated IsField fs (next j) k
      → IsSign sign.CloseBrace k → IsData (record { name = x; fields = fs; at = place i }) i (next k)

-- names in angle brackets
pub data AreBracketed : List Ident → Input → Input → Type 0 where
  no_names : {i : Input} → IsSign sign.Less i → IsSign sign.Greater (next i) → AreBracketed [] i (next (next i))
  names : {xs : List Ident} {i j : Input} → IsSign sign.Less i → AreNames xs (next i) j → IsSign sign.Greater j → AreBracketed xs i (next j)

pub data IsInvariant (n : ℕ) : Option (List ItemTree) → Input → Input → Type 0 where
  no_invariant : {i : Input} → IsInvariant n None i i
  invariant : {xs : List ItemTree} {i j : Input} → IsKey key.Inv i → AreItems n xs (next i) j → IsInvariant n (Some xs) i j

pub data IsPred (n : ℕ) : PredTree → Input → Input → Type 0 where
  pred : {x : Ident} {xs : List Ident} {f : FormulaTree} {v : Option (List ItemTree)} {i j k l m : Input} → IsKey key.Pred i → IsName x (next i) j → AreBracketed xs j k
      → IsSign sign.EqEq k → IsFormula n f (next k) l → IsInvariant n v l m → IsSign sign.Semicolon m
      → IsPred n (record { name = x; params = xs; body = f; inv = v; at = place i }) i (next m)

pub data IsEntail (n : ℕ) : EntailTree → Input → Input → Type 0 where
  entail : {f g : FormulaTree} {i j k : Input} → IsKey key.Entail i → IsFormula n f (next i) j → IsSign sign.Turnstile j → IsFormula n g (next j) k → IsSign sign.Semicolon k
      → IsEntail n (record { left = f; right = g; at = place i }) i (next k)

pub data IsLemma (n : ℕ) : LemmaTree → Input → Input → Type 0 where
  lemma : {x y : Ident} {xs : List Ident} {d : DisjunctTree} {i j k l m : Input} → IsKey key.Lemma i → IsName x (next i) j → IsSign sign.Colon j → IsKey key.SelfWord (next j)
      → IsSign sign.ColonColon (next (next j)) → IsName y (next (next (next j))) k → AreBracketed xs k l → IsSign sign.Arrow l → IsDisjunct n d (next l) m → IsSign sign.Semicolon m
      → IsLemma n (record { name = x; pred = y; params = xs; right = d; at = place i }) i (next m)

-- ---- methods

pub data IsVariant (n : ℕ) : Option ExprTree → Input → Input → Type 0 where
  no_variant : {i : Input} → IsVariant n None i i
  variant : {e : ExprTree} {i j : Input} → IsKey key.Variant i → IsExpr n e (next i) j → IsVariant n (Some e) i j

pub data IsPairOf (n : ℕ) : PairSource → Input → Input → Type 0 where
  pair : {f g : FormulaTree} {v : Option ExprTree} {i j k l : Input} → IsKey key.Requires i → IsFormula n f (next i) j → IsVariant n v j k → IsKey key.Ensures k
      → IsFormula n g (next k) l → IsSign sign.Semicolon l → IsPairOf n (record { pre = f; variant = v; post = g; at = place i }) i (next l)

-- one or more
pub data ArePairs (n : ℕ) : List PairSource → Input → Input → Type 0 where
  pairs : {p : PairSource} {ps : List PairSource} {i j k : Input} → IsPairOf n p i j → Repeated (IsPairOf n) ps j k → ArePairs n (p ∷ ps) i k

pub data AreParams : List ParamTree → Input → Input → Type 0 where
  no_params : {i : Input} → IsSign sign.OpenParen i → IsSign sign.CloseParen (next i) → AreParams [] i (next (next i))
  params : {ps : List ParamTree} {i j : Input} → IsSign sign.OpenParen i → Separated IsParam (word.Sign sign.Comma) ps (next i) j → IsSign sign.CloseParen j → AreParams ps i (next j)

pub data IsResult : Option TypeTree → Input → Input → Type 0 where
  no_result : {i : Input} → IsResult None i i
  result_type : {t : TypeTree} {i j : Input} → IsSign sign.Colon i → IsType t (next i) j → IsResult (Some t) i j

pub data IsMethod (n : ℕ) : MethodSource → Input → Input → Type 0 where
  method : {x : Ident} {ps : List ParamTree} {t : Option TypeTree} {qs : List PairSource} {b : BlockTree} {i j k l m o : Input} → IsKey key.Method i → IsName x (next i) j
      → AreParams ps j k → IsResult t k l → ArePairs n qs l m → IsBlock n b m o
      → IsMethod n (record { name = x; params = ps; result = t; pairs = qs; block = b; at = place i }) i o

-- ---- sources

pub data IsSourceItem (n : ℕ) : SourceItem → Input → Input → Type 0 where
  node_item : {t : DataTree} {i j : Input} → IsData t i j → IsSourceItem n (item_kind.Node t) i j
  pred_item : {t : PredTree} {i j : Input} → IsPred n t i j → IsSourceItem n (item_kind.Pred t) i j
  entail_item : {t : EntailTree} {i j : Input} → IsEntail n t i j → IsSourceItem n (item_kind.Entail t) i j
  method_item : {t : MethodSource} {i j : Input} → IsMethod n t i j → IsSourceItem n (item_kind.Method t) i j
  lemma_item : {t : LemmaTree} {i j : Input} → IsLemma n t i j → IsSourceItem n (item_kind.Lemma t) i j

pub data IsSource (n : ℕ) : Source → Input → Input → Type 0 where
  source : {items : List SourceItem} {i j : Input} → Repeated (IsSourceItem n) items i j → IsSource n (record { items = items }) i j
