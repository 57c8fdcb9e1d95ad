-- What is read as a statement or a block is spelled so by the grammar.
use Rattle.std.proofs.Common.{◌≡◌, ℕ, zero, suc, List, [], ◌∷◌, ◌++◌, Bool, true, false, Option, Some, None, refl, sym, ap, subst, inl, inr}
use Rattle.std.proofs.lemmas.Bool.{cases_Bool}
use Rattle.hs_lex.specs.declared.token.Sign.TheVariants as sign
use Rattle.hs_tree.specs.declared.expr.ExprTree.{ExprTree}
use Rattle.hs_tree.specs.declared.method.BlockTree.{BlockTree}
use Rattle.hs_tree.specs.declared.method.CondTree.{CondTree}
use Rattle.hs_tree.specs.declared.method.StatementTree.{StatementTree}
use Rattle.hs_tree.specs.declared.method.StatementKind.TheVariants as kind
use Rattle.hs_words.specs.declared.word.Keyword.TheVariants as key
use Rattle.hs_words.specs.declared.word.Word.{Word}
use Rattle.hs_words.specs.declared.word.Word.TheVariants as word
use Rattle.hs_words.specs.Input.{Input, Parser, and_then, next_word, second_word, next, is_sign, inner, sees, turns, comes}
use Rattle.hs_words.specs.Grammar.{IsSign, IsKey, Repeated, none, another}
use Rattle.hs_words.proofs.Yields.{Yields, Accepts, yield, yields_none, ◌▷◌, ◌▸◌, choose, after_sign, seen, seen_key, sign_is, separated_accepts, repeat_yields}
use Rattle.hs_read_pure.specs.Expr.{expr}
use Rattle.hs_read_pure.specs.Grammar.{IsExpr, named}
use Rattle.hs_read_pure.proofs.ExprSound.{name_accepts, expr_accepts}
use Rattle.hs_read.specs.Statement.{type_by, type_tree, exprs, arguments, call, new_value, load, named_value, value_by, value, initial, local, assign, store, called, returned, return_statement, begins_statement, opening_brace, statements, block, otherwise, branch, named_statement, kind_by, statement_kind, level, levels_of, statement}
use Rattle.hs_read.specs.Grammar.{IsType, AreArguments, IsCall, IsValue, IsInitial, IsCond, IsBlock, AreStatements, no_statement, another_statement, IsStatement, IsStatementKind}
use Rattle.hs_read.specs.Grammar as grammar
use Rattle.hs_read.proofs.TestSound.{cond_accepts}

type_at : (w : Word) (i : Input) → next_word i ≡ w → Yields (type_by w i) (λ t j. IsType t i j)
type_at (word.Key key.Int) i is = yield (grammar.int is)
type_at word.Name i is = yield (grammar.type_name (named is))
type_at w i is = yields_none

pub type_accepts : Accepts type_tree IsType
unfolding type_tree
type_accepts i = type_at (next_word i) i refl

module _ (n : ℕ) where
  -- ---- values

  arguments_accept : Accepts (arguments n) (AreArguments n)
  unfolding arguments exprs
  arguments_accept i =
      after_sign _ _ (λ a. choose _ _ _ (λ e. yield (grammar.no_arguments a (seen sign.CloseParen (next i) e)))
      (λ e. separated_accepts (sees sign.Comma) (word.Sign sign.Comma) (seen sign.Comma) (expr n) (IsExpr n) (expr_accepts n) (next i) ▷ λ xs j h.
      after_sign _ _ (λ b. yield (grammar.arguments a h b))))

  call_accepts : Accepts (call n) (IsCall n)
  unfolding call
  call_accepts i = name_accepts i ▷ λ x j a. arguments_accept j ▷ λ xs k b. yield (grammar.call a b)

  new_yields : (i : Input) → IsKey key.New i → Yields (new_value n i) (λ v j. IsValue n v i j)
  unfolding new_value
  new_yields i is = name_accepts (next i) ▷ λ x j a. arguments_accept j ▷ λ xs k b. yield (grammar.new_node is a b)

  load_accepts : Accepts load (IsValue n)
  unfolding load
  load_accepts i = name_accepts i ▷ λ x j a. after_sign _ _ (λ d. name_accepts (next j) ▷ λ f k b. yield (grammar.load a d b))

  named_at : (w : Word) (i : Input) → Yields (named_value n w i) (λ v j. IsValue n v i j)
  named_at (word.Sign sign.OpenParen) i = call_accepts i ▷ λ c j h. yield (grammar.called_value h)
  named_at (word.Sign sign.Dot) i = load_accepts i
  named_at w i = expr_accepts n i ▷ λ e j h. yield (grammar.value h)

  value_at : (w v : Word) (i : Input) → next_word i ≡ w → Yields (value_by n w v i) (λ v j. IsValue n v i j)
  value_at (word.Key key.New) v i is = new_yields i is
  value_at word.Name v i is = named_at v i
  value_at w v i is = expr_accepts n i ▷ λ e j h. yield (grammar.value h)

  value_accepts : Accepts (value n) (IsValue n)
  unfolding value
  value_accepts i = value_at (next_word i) (second_word i) i refl

  initial_accepts : Accepts (initial n) (IsInitial n)
  unfolding initial
  initial_accepts i =
      choose _ _ _ (λ e. value_accepts (next i) ▷ λ v j h. yield (grammar.set (seen sign.Equals i e) h)) (λ e. yield grammar.unset)

  -- ---- statements that hold no block

  local_accepts : Accepts (local n) (IsStatementKind n)
  unfolding local
  local_accepts i =
      type_accepts i ▷ λ t j a. name_accepts j ▷ λ x k b. initial_accepts k ▷ λ v l c. after_sign _ _ (λ d. yield (grammar.local a b c d))

  assign_accepts : Accepts (assign n) (IsStatementKind n)
  unfolding assign
  assign_accepts i = name_accepts i ▷ λ x j a. after_sign _ _ (λ b. value_accepts (next j) ▷ λ v k c. after_sign _ _ (λ d. yield (grammar.assign a b c d)))

  store_accepts : Accepts (store n) (IsStatementKind n)
  unfolding store
  store_accepts i =
      name_accepts i ▷ λ x j a. after_sign _ _ (λ b. name_accepts (next j) ▷ λ f k c. after_sign _ _ (λ d. expr_accepts n (next k) ▷ λ e l g.
      after_sign _ _ (λ o. yield (grammar.store a b c d g o))))

  called_accepts : Accepts (called n) (IsStatementKind n)
  unfolding called
  called_accepts i = call_accepts i ▷ λ c j a. after_sign _ _ (λ b. yield (grammar.called a b))

  -- what stands behind `return`
  abbrev Returned : Option ExprTree → Input → Input → Type 0
  Returned None i j = (IsSign sign.Semicolon i) × (j ≡ i)
  Returned (Some e) i j = IsExpr n e i j

  returned_yields : (i : Input) → Yields (returned n i) (λ r j. Returned r i j)
  unfolding returned
  returned_yields i =
      choose _ _ _ (λ e. let none : Returned None i i = (seen sign.Semicolon i e, refl) in yield {a = None} {j = i} none) (λ e. expr_accepts n i ▷ λ x j h. yield {a = Some x} {j = j} h)

  return_from : (r : Option ExprTree) (i j : Input) → IsKey key.Return i → Returned r (next i) j → IsSign sign.Semicolon j → IsStatementKind n (kind.Return r) i (next j)
  return_from None i j is h o =
      let back : next (next i) ≡ next j = ap next (sym h.1) in
      subst (λ (k : Input). IsStatementKind n (kind.Return None) i k) back (grammar.return_none is h.0)
  return_from (Some e) i j is h o = grammar.return_some is h o

  return_yields : (i : Input) → IsKey key.Return i → Yields (return_statement n i) (λ k j. IsStatementKind n k i j)
  unfolding return_statement
  return_yields i is = returned_yields (next i) ▷ λ r j h. after_sign _ _ (λ o. yield (return_from r i j is h o))

  named_statement_at : (w : Word) (i : Input) → Yields (named_statement n w i) (λ k j. IsStatementKind n k i j)
  named_statement_at word.Name i = local_accepts i
  named_statement_at (word.Sign sign.Equals) i = assign_accepts i
  named_statement_at (word.Sign sign.Dot) i = store_accepts i
  named_statement_at (word.Sign sign.OpenParen) i = called_accepts i
  named_statement_at w i = yields_none

-- ---- blocks

to_statements : (n : ℕ) (xs : List StatementTree) (i j : Input) → Repeated (IsStatement n) xs i j → AreStatements n xs i j
to_statements n _ i _ none = no_statement
to_statements n _ i k (another r others) = another_statement r (to_statements n _ _ k others)

statements_of : (n : ℕ) → Accepts (statement n) (IsStatement n) → Accepts (statements (statement n)) (AreStatements n)
unfolding statements
statements_of n accepts i =
    repeat_yields (comes begins_statement) (statement n) (IsStatement n) (λ j e. accepts j) (turns i) [] i ▸ λ all j xs.
    subst (λ (v : List StatementTree). AreStatements n v i j) (sym xs.1) (to_statements n xs.0 i j xs.2)

-- at the level below
abbrev Below : ℕ → Type 0
Below zero = Unit {0}
Below (suc n) = Accepts (statement n) (IsStatement n)

-- behind an opening brace, where a level is left
after_brace : {A : Type 0} {S : A → Input → Type 0} (n : ℕ) (f : Unit {0} → Parser A) (i : Input)
    → (IsSign sign.OpenBrace i → Yields (f tt (next i)) S) → Yields (and_then (opening_brace (levels_of (suc n)) i) f) S
unfolding opening_brace levels_of
after_brace n f i g = elim (cases_Bool (sees sign.OpenBrace i)) [ inl e ↦ rw e (g (seen sign.OpenBrace i e)) | inr e ↦ rw e yields_none ]

no_brace : {A : Type 0} {S : A → Input → Type 0} (f : Unit {0} → Parser A) (i : Input) → Yields (and_then (opening_brace (levels_of zero) i) f) S
unfolding opening_brace levels_of
no_brace f i = elim (cases_Bool (sees sign.OpenBrace i)) [ inl e ↦ rw e yields_none | inr e ↦ rw e yields_none ]

inner_statements : (n : ℕ) → Below (suc n) → (i : Input) → Yields (statements (inner (levels_of (suc n))) i) (λ xs j. AreStatements n xs i j)
unfolding levels_of
inner_statements n below i = statements_of n below i

block_of : (n : ℕ) → Below n → Accepts (block (levels_of n)) (IsBlock n)
unfolding block
block_of zero below i = no_brace _ i
block_of (suc n) below i = after_brace n _ i (λ a. inner_statements n below (next i) ▷ λ xs j h. after_sign _ _ (λ b. yield (grammar.block a h b)))

-- the block of an `else`
abbrev Otherwise : ℕ → Option BlockTree → Input → Input → Type 0
Otherwise n None i j = j ≡ i
Otherwise n (Some b) i j = IsKey key.Else i × IsBlock n b (next i) j

otherwise_of : (n : ℕ) → Below n → (i : Input) → Yields (otherwise (levels_of n) i) (λ b j. Otherwise n b i j)
unfolding otherwise
otherwise_of n below i =
    choose _ _ _ (λ e. block_of n below (next i) ▷ λ b j h. let some : Otherwise n (Some b) i j = (seen_key key.Else i e, h) in yield {a = Some b} {j = j} some)
    (λ e. let same : Otherwise n None i i = refl in yield {a = None} {j = i} same)

branch_from : (n : ℕ) (c : CondTree) (b : BlockTree) (d : Option BlockTree) (i j k l : Input) → IsKey key.If i → IsSign sign.OpenParen (next i) → IsCond n c (next (next i)) j
    → IsSign sign.CloseParen j → IsBlock n b (next j) k → Otherwise n d k l → IsStatementKind n (kind.Branch c b d) i l
branch_from n c b None i j k l is o h p g same = subst (λ (m : Input). IsStatementKind n (kind.Branch c b None) i m) (sym same) (grammar.branch is o h p g)
branch_from n c b (Some d) i j k l is o h p g other = grammar.branch_else is o h p g other.0 other.1

branch_yields : (n : ℕ) → Below n → (i : Input) → IsKey key.If i → Yields (branch n (levels_of n) i) (λ k j. IsStatementKind n k i j)
unfolding branch
branch_yields n below i is =
    after_sign _ _ (λ o. cond_accepts n (next (next i)) ▷ λ c j h. after_sign _ _ (λ p. block_of n below (next j) ▷ λ b k g. otherwise_of n below k ▷ λ d l other.
    yield (branch_from n c b d i j k l is o h p g other)))

kind_at : (n : ℕ) → Below n → (w v : Word) (i : Input) → next_word i ≡ w → Yields (kind_by n (levels_of n) w v i) (λ k j. IsStatementKind n k i j)
kind_at n below (word.Key key.Int) v i is = local_accepts n i
kind_at n below (word.Key key.If) v i is = branch_yields n below i is
kind_at n below (word.Key key.Return) v i is = return_yields n i is
kind_at n below word.Name v i is = named_statement_at n v i
kind_at n below w v i is = yields_none

level_accepts : (n : ℕ) → Below n → Accepts (statement n) (IsStatement n)
unfolding level statement_kind
level_accepts n below i = kind_at n below (next_word i) (second_word i) i refl ▷ λ k j h. yield (grammar.statement h)

below_accepts : (n : ℕ) → Below n
below_accepts zero = tt
below_accepts (suc n) = level_accepts n (below_accepts n)

-- what is read as a block is spelled so
pub block_accepts : (n : ℕ) → Accepts (block (levels_of n)) (IsBlock n)
block_accepts n = block_of n (below_accepts n)
