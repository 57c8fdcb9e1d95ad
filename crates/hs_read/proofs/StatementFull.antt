-- What the grammar has as a statement or a block is read.
use Rattle.std.proofs.Common.{◌≡◌, ℕ, zero, suc, Bool, true, false, List, [], ◌∷◌, Option, Some, None, Ok, refl, sym, ap, ◌∙◌, arith}
use Rattle.hs_lex.specs.declared.token.Sign.TheVariants as sign
use Rattle.hs_tree.specs.declared.ident.Ident.{Ident}
use Rattle.hs_tree.specs.declared.expr.ExprTree.{ExprTree}
use Rattle.hs_tree.specs.declared.method.TypeTree.{TypeTree}
use Rattle.hs_tree.specs.declared.method.CallTree.{CallTree}
use Rattle.hs_tree.specs.declared.method.CondTree.{CondTree}
use Rattle.hs_tree.specs.declared.method.ValueTree.{ValueTree}
use Rattle.hs_tree.specs.declared.method.ValueTree.TheVariants as value_kind
use Rattle.hs_tree.specs.declared.method.BlockTree.{BlockTree}
use Rattle.hs_tree.specs.declared.method.StatementTree.{StatementTree}
use Rattle.hs_tree.specs.declared.method.StatementKind.{StatementKind}
use Rattle.hs_tree.specs.declared.method.StatementKind.TheVariants as kind
use Rattle.hs_words.specs.declared.word.Keyword.TheVariants as key
use Rattle.hs_words.specs.declared.word.Word.{Word}
use Rattle.hs_words.specs.declared.word.Word.TheVariants as word
use Rattle.hs_words.specs.Input.{Input, ◌<$>◌, next_word, second_word, next, sees, comes, turns}
use Rattle.hs_words.specs.Grammar.{IsSign, IsKey, Separated, one, more, Repeated, none, another}
use Rattle.hs_words.proofs.Yields.{seen}
use Rattle.hs_words.proofs.Full.{sees_sign, sees_none, sees_key_there, sees_no_key, takes, mapped, sign_less, separated_full, repeat_full}
use Rattle.hs_read_pure.specs.Expr.{begins_var, expr}
use Rattle.hs_read_pure.specs.Grammar.{IsName, named, IsExpr}
use Rattle.hs_read_pure.proofs.Ends.{ends_expr, begins_expr}
use Rattle.hs_read_pure.proofs.Less.{expr_less}
use Rattle.hs_read_pure.proofs.ExprFull.{name_full, expr_begins, second_of_expr, expr_full}
use Rattle.hs_read.specs.Statement.{type_tree, exprs, arguments, call, new_value, load, value_by, value, initial, local, assign, store, called, returned, return_statement, begins_statement, opening_brace, statements, block, otherwise, branch, named_statement, kind_by, statement_kind, level, levels_of, statement}
use Rattle.hs_read.specs.Grammar.{IsCond, IsType, AreArguments, IsCall, IsValue, IsInitial, IsBlock, AreStatements, IsStatement, IsStatementKind}
use Rattle.hs_read.specs.Grammar as grammar
use Rattle.hs_read.proofs.Less.{statement_less}
use Rattle.hs_read.proofs.TestFull.{ends_cond, cond_full}

-- ---- single words

abbrev pub is_close_paren : Word → Bool
is_close_paren (word.Sign sign.CloseParen) = true
is_close_paren _ = false

abbrev is_semicolon : Word → Bool
is_semicolon (word.Sign sign.Semicolon) = true
is_semicolon _ = false

-- neither an opening parenthesis nor a dot
abbrev is_plain : Word → Bool
is_plain (word.Sign sign.OpenParen) = false
is_plain (word.Sign sign.Dot) = false
is_plain _ = true

-- ---- values

pub type_full : (t : TypeTree) (i j : Input) → IsType t i j → type_tree i ≡ Ok (t, j)
unfolding type_tree
type_full _ i _ (grammar.int is) = rw is refl
type_full _ i _ (grammar.type_name (named is)) = rw is refl

module _ (n : ℕ) where
  exprs_begin : (xs : List ExprTree) (i j : Input) → Separated (IsExpr n) (word.Sign sign.Comma) xs i j → begins_expr (next_word i) ≡ true
  exprs_begin _ i j (one {x = x} h) = expr_begins n x i j h
  exprs_begin _ i k (more {x = x} {j = j} h is others) = expr_begins n x i j h

  arguments_full : (xs : List ExprTree) (i j : Input) → AreArguments n xs i j → arguments n i ≡ Ok (xs, j)
  unfolding arguments exprs
  arguments_full _ i _ (grammar.no_arguments a b) =
      let paren = takes sign.OpenParen i a in
      let close = sees_sign sign.CloseParen (next i) b in
      rw (paren, close) refl
  arguments_full _ i _ (grammar.arguments {xs = xs} {j = j} a h b) =
      let paren = takes sign.OpenParen i a in
      let some = sees_none begins_expr sign.CloseParen (next i) (exprs_begin xs (next i) j h) refl in
      let read = separated_full (sees sign.Comma) ends_expr (word.Sign sign.Comma) (sees_sign sign.Comma) (expr n) (IsExpr n) (expr_less n) (sign_less sign.Comma)
      (λ k h. ap ends_expr (seen sign.Comma k h)) (expr_full n) xs (next i) j h (sees_none is_close_paren sign.Comma j (ap is_close_paren b) refl) (ap ends_expr b) in
      let close = takes sign.CloseParen j b in
      rw (paren, some, read, close) refl

  arguments_open : (xs : List ExprTree) (i j : Input) → AreArguments n xs i j → IsSign sign.OpenParen i
  arguments_open _ i _ (grammar.no_arguments a b) = a
  arguments_open _ i _ (grammar.arguments a h b) = a

  call_full : (c : CallTree) (i j : Input) → IsCall n c i j → call n i ≡ Ok (c, j)
  unfolding call
  call_full _ i k (grammar.call {x = x} {xs = xs} {j = j} a b) =
      let name = name_full x i j a in
      let given = arguments_full xs j k b in
      rw (name, given) refl

  -- a call begins with a name and an opening parenthesis
  call_begins : (c : CallTree) (i j : Input) → IsCall n c i j → next_word i ≡ word.Name
  call_begins _ i k (grammar.call (named is) b) = is

  called_second : (c : CallTree) (i j : Input) → IsCall n c i j → next_word (next i) ≡ word.Sign sign.OpenParen
  called_second _ i k (grammar.call {xs = xs} (named is) b) = arguments_open xs (next i) k b

  value_by_expr : (w v : Word) (i : Input) → begins_expr w ≡ true → (w ≡ word.Name → is_plain v ≡ true) → value_by n w v i ≡ (value_kind.Value <$> expr n) i
  value_by_expr (word.Key key.New) v i e f = absurd cc
  value_by_expr word.Name (word.Sign sign.OpenParen) i e f = let clash : false ≡ true = f refl in absurd cc
  value_by_expr word.Name (word.Sign sign.Dot) i e f = let clash : false ≡ true = f refl in absurd cc
  value_by_expr word.Name v i e f = refl
  value_by_expr w v i e f = refl

  value_full : (v : ValueTree) (i j : Input) → IsValue n v i j → IsSign sign.Semicolon j → value n i ≡ Ok (v, j)
  unfolding value new_value load second_word
  value_full _ i k (grammar.new_node {x = x} {xs = xs} {j = j} is a b) end =
      let name = name_full x (next i) j a in
      let given = arguments_full xs j k b in
      rw (is, name, given) refl
  value_full _ i j (grammar.called_value {c = c} h) end =
      let first = call_begins c i j h in
      let second = called_second c i j h in
      let read = call_full c i j h in
      rw (first, second, read) refl
  value_full _ i k (grammar.load {x = x} {f = f} (named is) d b) end =
      let from = name_full x i (next i) (named is) in
      let dot = takes sign.Dot (next i) d in
      let field = name_full f (next (next i)) k b in
      rw (is, d, from, dot, field) refl
  value_full _ i j (grammar.value {e = x} h) end =
      value_by_expr (next_word i) (second_word i) i (expr_begins n x i j h)
      (λ at_name. second_of_expr is_plain true refl refl n x i j h (ap is_plain end) (ap begins_var at_name))
      ∙ mapped value_kind.Value (expr n) x i j (expr_full n x i j h (ap ends_expr end))

  initial_full : (v : Option ValueTree) (i j : Input) → IsInitial n v i j → IsSign sign.Semicolon j → initial n i ≡ Ok (v, j)
  unfolding initial
  initial_full _ i _ grammar.unset end = let stop = sees_none is_semicolon sign.Equals i (ap is_semicolon end) refl in rw stop refl
  initial_full _ i j (grammar.set {v = v} is h) end =
      let go = sees_sign sign.Equals i is in
      let read = value_full v (next i) j h end in
      rw (go, read) refl

  -- ---- statements that hold no block

  local_full : (t : TypeTree) (x : Ident) (v : Option ValueTree) (i j k l : Input) → IsType t i j → IsName x j k → IsInitial n v k l → IsSign sign.Semicolon l
      → local n i ≡ Ok (kind.Local t x v, next l)
  unfolding local
  local_full t x v i j k l a b c d =
      let of = type_full t i j a in
      let name = name_full x j k b in
      let first = initial_full v k l c d in
      let end = takes sign.Semicolon l d in
      rw (of, name, first, end) refl

  assign_full : (x : Ident) (v : ValueTree) (i j k : Input) → IsName x i j → IsSign sign.Equals j → IsValue n v (next j) k → IsSign sign.Semicolon k
      → assign n i ≡ Ok (kind.Assign x v, next k)
  unfolding assign
  assign_full x v i j k a b c d =
      let to = name_full x i j a in
      let equals = takes sign.Equals j b in
      let given = value_full v (next j) k c d in
      let end = takes sign.Semicolon k d in
      rw (to, equals, given, end) refl

  store_full : (x f : Ident) (e : ExprTree) (i j k l : Input) → IsName x i j → IsSign sign.Dot j → IsName f (next j) k → IsSign sign.Equals k → IsExpr n e (next k) l
      → IsSign sign.Semicolon l → store n i ≡ Ok (kind.Store x f e, next l)
  unfolding store
  store_full x f e i j k l a b c d g o =
      let at = name_full x i j a in
      let dot = takes sign.Dot j b in
      let field = name_full f (next j) k c in
      let equals = takes sign.Equals k d in
      let from = expr_full n e (next k) l g (ap ends_expr o) in
      let end = takes sign.Semicolon l o in
      rw (at, dot, field, equals, from, end) refl

  called_full : (c : CallTree) (i j : Input) → IsCall n c i j → IsSign sign.Semicolon j → called n i ≡ Ok (kind.Call c, next j)
  unfolding called
  called_full c i j a b =
      let read = call_full c i j a in
      let end = takes sign.Semicolon j b in
      rw (read, end) refl

  return_none_full : (i : Input) → IsSign sign.Semicolon (next i) → return_statement n i ≡ Ok (kind.Return None, next (next i))
  unfolding return_statement returned
  return_none_full i o =
      let none = sees_sign sign.Semicolon (next i) o in
      let end = takes sign.Semicolon (next i) o in
      rw (none, end) refl

  return_some_full : (x : ExprTree) (i j : Input) → IsExpr n x (next i) j → IsSign sign.Semicolon j → return_statement n i ≡ Ok (kind.Return (Some x), next j)
  unfolding return_statement returned
  return_some_full x i j h o =
      let some = sees_none begins_expr sign.Semicolon (next i) (expr_begins n x (next i) j h) refl in
      let read = expr_full n x (next i) j h (ap ends_expr o) in
      let end = takes sign.Semicolon j o in
      rw (some, read, end) refl

-- ---- blocks

-- no `else`
abbrev ends_statement : Word → Bool
ends_statement (word.Key key.Else) = false
ends_statement _ = true

begins_ends : (w : Word) → begins_statement w ≡ true → ends_statement w ≡ true
begins_ends (word.Key key.Else) e = absurd cc
begins_ends w e = refl

type_begins : (t : TypeTree) (i j : Input) → IsType t i j → begins_statement (next_word i) ≡ true
type_begins _ i _ (grammar.int is) = ap begins_statement is
type_begins _ i _ (grammar.type_name (named is)) = ap begins_statement is

name_begins : (x : Ident) (i j : Input) → IsName x i j → begins_statement (next_word i) ≡ true
name_begins _ i _ (named is) = ap begins_statement is

kind_begins : (n : ℕ) (k : StatementKind) (i j : Input) → IsStatementKind n k i j → begins_statement (next_word i) ≡ true
kind_begins n _ i _ (grammar.local {t = t} {j = j} a b c d) = type_begins t i j a
kind_begins n _ i _ (grammar.assign {x = x} {j = j} a b c d) = name_begins x i j a
kind_begins n _ i _ (grammar.store {x = x} {j = j} a b c d g o) = name_begins x i j a
kind_begins n _ i _ (grammar.called {c = c} {j = j} a b) = ap begins_statement (call_begins n c i j a)
kind_begins n _ i k (grammar.branch is o h p g) = ap begins_statement is
kind_begins n _ i l (grammar.branch_else is o h p g e f) = ap begins_statement is
kind_begins n _ i _ (grammar.return_none is o) = ap begins_statement is
kind_begins n _ i _ (grammar.return_some is h o) = ap begins_statement is

statement_begins : (n : ℕ) (x : StatementTree) (i j : Input) → IsStatement n x i j → begins_statement (next_word i) ≡ true
statement_begins n _ i j (grammar.statement {k = k} h) = kind_begins n k i j h

from_statements : (n : ℕ) (xs : List StatementTree) (i j : Input) → AreStatements n xs i j → Repeated (IsStatement n) xs i j
from_statements n _ i _ grammar.no_statement = none
from_statements n _ i k (grammar.another_statement {xs = xs} {j = j} h others) = another h (from_statements n xs j k others)

-- so with this many levels left
abbrev StatementFull : ℕ → Type 0
StatementFull n = (x : StatementTree) (i j : Input) → IsStatement n x i j → ends_statement (next_word j) ≡ true → statement n i ≡ Ok (x, j)

statements_of : (n : ℕ) → StatementFull n → (xs : List StatementTree) (i j : Input) → AreStatements n xs i j → IsSign sign.CloseBrace j
    → statements (statement n) i ≡ Ok (xs, j)
unfolding statements
statements_of n full xs i j h close =
    repeat_full (comes begins_statement) ends_statement (statement n) (IsStatement n) (statement_begins n) (statement_less n) (λ k h. begins_ends (next_word k) h) full
    xs i j (from_statements n xs i j h) (turns i) [] (omega arith) (ap begins_statement close) (ap ends_statement close)

-- so at the level below
abbrev Below : ℕ → Type 0
Below zero = Unit {0}
Below (suc n) = StatementFull n

block_of : (n : ℕ) → Below n → (b : BlockTree) (i j : Input) → IsBlock n b i j → block (levels_of n) i ≡ Ok (b, j)
unfolding block opening_brace levels_of
block_of _ below _ i _ (grammar.block {n = n} {xs = xs} {j = j} a h b) =
    let paren = sees_sign sign.OpenBrace i a in
    let read = statements_of n below xs (next i) j h b in
    let close = takes sign.CloseBrace j b in
    rw (paren, read, close) refl

branch_of : (n : ℕ) → Below n → (c : CondTree) (b : BlockTree) (i j k : Input) → IsSign sign.OpenParen (next i) → IsCond n c (next (next i)) j
    → IsSign sign.CloseParen j → IsBlock n b (next j) k → ends_statement (next_word k) ≡ true → branch n (levels_of n) i ≡ Ok (kind.Branch c b None, k)
unfolding branch otherwise
branch_of n below c b i j k o h p g e =
    let paren = takes sign.OpenParen (next i) o in
    let read = cond_full n c (next (next i)) j h (ap ends_cond p) in
    let close = takes sign.CloseParen j p in
    let first = block_of n below b (next j) k g in
    let stop = sees_no_key ends_statement key.Else k e refl in
    rw (paren, read, close, first, stop) refl

branch_else_of : (n : ℕ) → Below n → (c : CondTree) (b d : BlockTree) (i j k l : Input) → IsSign sign.OpenParen (next i) → IsCond n c (next (next i)) j
    → IsSign sign.CloseParen j → IsBlock n b (next j) k → IsKey key.Else k → IsBlock n d (next k) l → branch n (levels_of n) i ≡ Ok (kind.Branch c b (Some d), l)
unfolding branch otherwise
branch_else_of n below c b d i j k l o h p g e f =
    let paren = takes sign.OpenParen (next i) o in
    let read = cond_full n c (next (next i)) j h (ap ends_cond p) in
    let close = takes sign.CloseParen j p in
    let first = block_of n below b (next j) k g in
    let go = sees_key_there key.Else k e in
    let second = block_of n below d (next k) l f in
    rw (paren, read, close, first, go, second) refl

kind_full : (n : ℕ) → Below n → (k : StatementKind) (i j : Input) → IsStatementKind n k i j → ends_statement (next_word j) ≡ true
    → statement_kind n (levels_of n) i ≡ Ok (k, j)
unfolding statement_kind second_word
kind_full n below _ i _ (grammar.local {x = x} {v = v} {j = j} {k = k} {l = l} (grammar.int is) b c d) e =
    let read = local_full n _ x v i j k l (grammar.int is) b c d in rw (is, read) refl
kind_full n below _ i _ (grammar.local {x = x} {v = v} {k = k} {l = l} (grammar.type_name (named is)) (named b) c d) e =
    let read = local_full n _ x v i (next i) (next (next i)) l (grammar.type_name (named is)) (named b) c d in rw (is, b, read) refl
kind_full n below _ i _ (grammar.assign {x = x} {v = v} {k = k} (named is) b c d) e =
    let read = assign_full n x v i (next i) k (named is) b c d in rw (is, b, read) refl
kind_full n below _ i _ (grammar.store {x = x} {f = f} {e = y} {k = k} {l = l} (named is) b c d g o) e =
    let read = store_full n x f y i (next i) k l (named is) b c d g o in rw (is, b, read) refl
kind_full n below _ i _ (grammar.called {c = c} {j = j} a b) e =
    let first = (call_begins n c i j a) in
    let second = called_second n c i j a in
    let read = called_full n c i j a b in
    rw (first, second, read) refl
kind_full n below _ i k (grammar.branch {c = c} {b = b} {j = j} is o h p g) e =
    let read = branch_of n below c b i j k o h p g e in rw (is, read) refl
kind_full n below _ i l (grammar.branch_else {c = c} {b = b} {d = d} {j = j} {k = k} is o h p g f q) e =
    let read = branch_else_of n below c b d i j k l o h p g f q in rw (is, read) refl
kind_full n below _ i _ (grammar.return_none is o) e = let read = return_none_full n i o in rw (is, read) refl
kind_full n below _ i _ (grammar.return_some {e = x} {j = j} is h o) e = let read = return_some_full n x i j h o in rw (is, read) refl

level_full : (n : ℕ) → Below n → StatementFull n
unfolding level
level_full n below _ i j (grammar.statement {k = k} h) e = let read = kind_full n below k i j h e in rw read refl

below_full : (n : ℕ) → Below n
below_full zero = tt
below_full (suc n) = level_full n (below_full n)

-- what the grammar has as a block is read
pub block_full : (n : ℕ) (b : BlockTree) (i j : Input) → IsBlock n b i j → block (levels_of n) i ≡ Ok (b, j)
block_full n = block_of n (below_full n)
