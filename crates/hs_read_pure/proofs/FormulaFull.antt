-- What the grammar has as a formula is read.
use Rattle.std.proofs.Common.{◌≡◌, ℕ, Bool, true, false, List, [], ◌∷◌, Ok, Some, refl, sym, ap, ◌∙◌}
use Rattle.hs_lex.specs.declared.token.Sign.TheVariants as sign
use Rattle.hs_tree.specs.declared.ident.Ident.{Ident}
use Rattle.hs_tree.specs.declared.expr.ExprTree.{ExprTree}
use Rattle.hs_tree.specs.declared.item.RelTree.{RelTree}
use Rattle.hs_tree.specs.declared.item.ItemTree.{ItemTree}
use Rattle.hs_tree.specs.declared.item.ItemKind.{ItemKind}
use Rattle.hs_tree.specs.declared.formula.ArgTree.{ArgTree}
use Rattle.hs_tree.specs.declared.formula.ArgTree.TheVariants as arg_kind
use Rattle.hs_tree.specs.declared.formula.AtomTree.{AtomTree}
use Rattle.hs_tree.specs.declared.formula.DisjunctTree.{DisjunctTree}
use Rattle.hs_tree.specs.declared.formula.FormulaTree.{FormulaTree}
use Rattle.hs_words.specs.declared.word.Keyword.TheVariants as key
use Rattle.hs_words.specs.declared.word.Word.{Word}
use Rattle.hs_words.specs.declared.word.Word.TheVariants as word
use Rattle.hs_words.specs.Input.{Input, ◌<$>◌, next_word, second_word, next, sees, sees_key}
use Rattle.hs_words.specs.Grammar.{IsSign, Separated, one, more}
use Rattle.hs_words.proofs.Yields.{seen, seen_key}
use Rattle.hs_words.proofs.Full.{sees_sign, sees_none, sees_key_there, sees_no_key, takes, mapped, sign_less, key_less, separated_full}
use Rattle.hs_read_pure.specs.Expr.{name, begins_var, expr}
use Rattle.hs_read_pure.specs.Item.{relation, conj, item}
use Rattle.hs_read_pure.specs.Formula.{names, arg_by, arg, args, arguments, atom, atoms, heap_by, heap, conjuncts, spatial, is_colons, begins_heap, body, bound, disjunct, formula}
use Rattle.hs_read_pure.specs.Grammar.{IsName, IsExpr, AreItems, last_item, another_item, IsItem, IsItemKind, AreNames, IsArg, AreArguments, IsAtom, IsHeap, IsBody, AreBound, IsDisjunct, IsFormula}
use Rattle.hs_read_pure.specs.Grammar as grammar
use Rattle.hs_read_pure.proofs.Ends.{ends_part, ends_expr, ends_conj, ends_formula, formula_ends_conj, begins_expr, begins_item}
use Rattle.hs_read_pure.proofs.Less.{name_less, arg_less, atom_less, disjunct_less}
use Rattle.hs_read_pure.proofs.ExprFull.{name_full, variable_full, var_begins, expr_begins, second_of_expr, expr_full}
use Rattle.hs_read_pure.proofs.ItemFull.{items_begin, conj_full}

-- ---- single signs

abbrev pub is_greater : Word → Bool
is_greater (word.Sign sign.Greater) = true
is_greater _ = false

abbrev pub is_dot : Word → Bool
is_dot (word.Sign sign.Dot) = true
is_dot _ = false

-- ends anywhere
abbrev always : Word → Bool
always _ = true

pub names_full : (xs : List Ident) (i j : Input) → AreNames xs i j → sees sign.Comma j ≡ false → names i ≡ Ok (xs, j)
unfolding names
names_full xs i j h stop =
    separated_full (sees sign.Comma) always (word.Sign sign.Comma) (sees_sign sign.Comma) name IsName name_less (sign_less sign.Comma)
    (λ k h. refl) (λ x k l h e. name_full x k l h) xs i j h stop refl

-- ---- atoms

begins_arg : Word → Bool
begins_arg word.Hole = true
begins_arg w = begins_expr w

expr_begins_arg : (w : Word) → begins_expr w ≡ true → begins_arg w ≡ true
unfolding begins_arg
expr_begins_arg word.Hole e = refl
expr_begins_arg w e = e

-- neither `exists` nor `forall` begins a heap
begins_body : Word → Bool
begins_body (word.Key key.Exists) = false
begins_body _ = true

var_begins_body : (w : Word) → begins_var w ≡ true → begins_body w ≡ true
unfolding begins_body
var_begins_body (word.Key key.Exists) e = absurd cc
var_begins_body w e = refl

item_begins_body : (w : Word) → begins_item w ≡ true → begins_body w ≡ true
unfolding begins_body
item_begins_body (word.Key key.Exists) e = absurd cc
item_begins_body w e = refl

-- ---- a conjunction begins with no heap

-- whether no heap begins there
abbrev NoHeap : Input → Type 0
NoHeap i = begins_heap (next_word i) (second_word i) ≡ false

no_heap_by : (w v : Word) → begins_expr w ≡ true → (begins_var w ≡ true → is_colons v ≡ false) → begins_heap w v ≡ false
no_heap_by word.Name v e f = f refl
no_heap_by (word.Key key.SelfWord) v e f = f refl
no_heap_by (word.Key key.Res) v e f = f refl
no_heap_by (word.Key key.Emp) v e f = absurd cc
no_heap_by w v e f = refl

related_no_colons : (w : Word) (r : RelTree) → relation w ≡ Some r → is_colons w ≡ false
related_no_colons (word.Sign sign.ColonColon) r e = absurd cc
related_no_colons w r e = refl

kind_no_heap : (n : ℕ) (k : ItemKind) (i j : Input) → IsItemKind n k i j → NoHeap i
kind_no_heap n _ i _ (grammar.holds is) = ap (λ w. begins_heap w (second_word i)) is
kind_no_heap n _ i _ (grammar.fails is) = ap (λ w. begins_heap w (second_word i)) is
kind_no_heap _ _ i j (grammar.negation is h) = ap (λ w. begins_heap w (second_word i)) is
kind_no_heap _ _ i _ (grammar.group is h b) = ap (λ w. begins_heap w (second_word i)) is
kind_no_heap _ _ i _ (grammar.exists is b c d h o) = ap (λ w. begins_heap w (second_word i)) is
kind_no_heap _ _ i _ (grammar.forall is b c d h o) = ap (λ w. begins_heap w (second_word i)) is
kind_no_heap _ _ i _ (grammar.all is b c d f g h o) = ap (λ w. begins_heap w (second_word i)) is
kind_no_heap _ _ i _ (grammar.divides is b c f h o) = ap (λ w. begins_heap w (second_word i)) is
kind_no_heap n _ i k (grammar.rel {r = r} {x = x} {j = j} h is g) =
    no_heap_by (next_word i) (second_word i) (expr_begins n x i j h) (second_of_expr is_colons false refl refl n x i j h (related_no_colons (next_word j) r is))

items_no_heap : (n : ℕ) (xs : List ItemTree) (i j : Input) → AreItems n xs i j → NoHeap i
items_no_heap n _ i j (last_item (grammar.item {k = k} h)) = kind_no_heap n k i j h
items_no_heap n _ i k (another_item {j = j} (grammar.item {k = m} h) is others) = kind_no_heap n m i j h

module _ (n : ℕ) where
  arg_by_expr : (w : Word) (i : Input) → begins_expr w ≡ true → arg_by n w i ≡ (arg_kind.Value <$> expr n) i
  arg_by_expr word.Hole i e = absurd cc
  arg_by_expr w i e = refl

  arg_full : (x : ArgTree) (i j : Input) → IsArg n x i j → ends_expr (next_word j) ≡ true → arg n i ≡ Ok (x, j)
  unfolding arg
  arg_full _ i _ (grammar.hole is) e = rw is refl
  arg_full _ i j (grammar.value {e = x} h) e =
      arg_by_expr (next_word i) i (expr_begins n x i j h) ∙ mapped arg_kind.Value (expr n) x i j (expr_full n x i j h e)

  arg_begins : (x : ArgTree) (i j : Input) → IsArg n x i j → begins_arg (next_word i) ≡ true
  unfolding begins_arg
  arg_begins _ i _ (grammar.hole is) = ap begins_arg is
  arg_begins _ i j (grammar.value {e = x} h) = expr_begins_arg (next_word i) (expr_begins n x i j h)

  args_begin : (xs : List ArgTree) (i j : Input) → Separated (IsArg n) (word.Sign sign.Comma) xs i j → begins_arg (next_word i) ≡ true
  args_begin _ i j (one {x = x} h) = arg_begins x i j h
  args_begin _ i k (more {x = x} {j = j} h is others) = arg_begins x i j h

  arguments_full : (xs : List ArgTree) (i j : Input) → AreArguments n xs i j → arguments n i ≡ Ok (xs, j)
  unfolding arguments args begins_arg
  arguments_full _ i _ (grammar.no_args a b) =
      let paren = takes sign.Less i a in
      let close = sees_sign sign.Greater (next i) b in
      rw (paren, close) refl
  arguments_full _ i _ (grammar.args {xs = xs} {j = j} a h b) =
      let paren = takes sign.Less i a in
      let some = sees_none begins_arg sign.Greater (next i) (args_begin xs (next i) j h) refl in
      let read = separated_full (sees sign.Comma) ends_expr (word.Sign sign.Comma) (sees_sign sign.Comma) (arg n) (IsArg n) (arg_less n) (sign_less sign.Comma)
      (λ k h. ap ends_expr (seen sign.Comma k h)) arg_full xs (next i) j h (sees_none is_greater sign.Comma j (ap is_greater b) refl) (ap ends_expr b) in
      let close = takes sign.Greater j b in
      rw (paren, some, read, close) refl

  atom_full : (x : AtomTree) (i j : Input) → IsAtom n x i j → atom n i ≡ Ok (x, j)
  unfolding atom
  atom_full _ i l (grammar.atom {x = x} {y = y} {args = xs} {j = j} {k = k} a b c h) =
      let root = variable_full x i j a in
      let colons = takes sign.ColonColon j b in
      let of = name_full y (next j) k c in
      let given = arguments_full xs k l h in
      rw (root, colons, of, given) refl

  -- ---- heaps

  atom_begins : (x : AtomTree) (i j : Input) → IsAtom n x i j → (begins_var (next_word i) ≡ true) × (is_colons (second_word i) ≡ true)
  unfolding second_word
  atom_begins _ i l (grammar.atom {x = x} {j = j} (grammar.var is) b c h) = (is, ap is_colons b)

  atoms_begin : (xs : List AtomTree) (i j : Input) → Separated (IsAtom n) (word.Sign sign.Star) xs i j → (begins_var (next_word i) ≡ true) × (is_colons (second_word i) ≡ true)
  atoms_begin _ i j (one {x = x} h) = atom_begins x i j h
  atoms_begin _ i k (more {x = x} {j = j} h is others) = atom_begins x i j h

  heap_by_var : (w : Word) (i : Input) → begins_var w ≡ true → heap_by n w i ≡ atoms n i
  heap_by_var (word.Key key.Emp) i e = absurd cc
  heap_by_var w i e = refl

  heap_full : (xs : List AtomTree) (i j : Input) → IsHeap n xs i j → ends_part (next_word j) ≡ true → heap n i ≡ Ok (xs, j)
  unfolding heap atoms
  heap_full _ i _ (grammar.emp is) e = rw is refl
  heap_full _ i j (grammar.atoms {ats = xs} h) e =
      heap_by_var (next_word i) i (atoms_begin xs i j h).0 ∙
      separated_full (sees sign.Star) always (word.Sign sign.Star) (sees_sign sign.Star) (atom n) (IsAtom n) (atom_less n) (sign_less sign.Star)
      (λ k h. refl) (λ x k l h e. atom_full x k l h) xs i j h (sees_none ends_part sign.Star j e refl) refl

  begins_heap_by : (w v : Word) → begins_var w ≡ true → is_colons v ≡ true → begins_heap w v ≡ true
  begins_heap_by word.Name v e f = f
  begins_heap_by (word.Key key.SelfWord) v e f = f
  begins_heap_by (word.Key key.Res) v e f = f
  begins_heap_by w v e f = absurd cc

  heap_begins : (xs : List AtomTree) (i j : Input) → IsHeap n xs i j → begins_heap (next_word i) (second_word i) ≡ true
  heap_begins _ i _ (grammar.emp is) = ap (λ w. begins_heap w (second_word i)) is
  heap_begins _ i j (grammar.atoms {ats = xs} h) = let b = atoms_begin xs i j h in begins_heap_by (next_word i) (second_word i) b.0 b.1

  -- ---- disjuncts

  conj_ends_part : (w : Word) → ends_conj w ≡ true → ends_part w ≡ true
  conj_ends_part (word.Sign sign.Star) e = absurd cc
  conj_ends_part w e = refl

  spatial_full : (ats : List AtomTree) (i j : Input) → IsHeap n ats i j → ends_conj (next_word j) ≡ true → spatial n i ≡ Ok ((ats, []), j)
  unfolding spatial conjuncts
  spatial_full ats i j h e =
      let read = heap_full ats i j h (conj_ends_part (next_word j) e) in
      let stop = sees_none ends_conj sign.Amp j e refl in
      rw (read, stop) refl

  spatial_and : (ats : List AtomTree) (xs : List ItemTree) (i j k : Input) → IsHeap n ats i j → IsSign sign.Amp j → AreItems n xs (next j) k → ends_conj (next_word k) ≡ true
      → spatial n i ≡ Ok ((ats, xs), k)
  unfolding spatial conjuncts
  spatial_and ats xs i j k h is g e =
      let read = heap_full ats i j h (ap ends_part is) in
      let go = sees_sign sign.Amp j is in
      let items = conj_full n xs (next j) k g e in
      rw (read, go, items) refl

  body_full : (ats : List AtomTree) (xs : List ItemTree) (i j : Input) → IsBody n ats xs i j → ends_conj (next_word j) ≡ true → body n i ≡ Ok ((ats, xs), j)
  unfolding body
  body_full _ _ i j (grammar.heap {ats = ats} h) e = let is_heap = heap_begins ats i j h in rw is_heap (spatial_full ats i j h e)
  body_full _ _ i k (grammar.heap_and {ats = ats} {xs = xs} {j = j} h is g) e = let is_heap = heap_begins ats i j h in rw is_heap (spatial_and ats xs i j k h is g e)
  body_full _ _ i j (grammar.conj {xs = xs} h) e =
      let is_none = items_no_heap n xs i j h in
      rw is_none (mapped (λ (items : List ItemTree). ([], items)) (conj (item n)) xs i j (conj_full n xs i j h e))

  heap_begins_body : (ats : List AtomTree) (i j : Input) → IsHeap n ats i j → begins_body (next_word i) ≡ true
  unfolding begins_body
  heap_begins_body _ i _ (grammar.emp is) = ap begins_body is
  heap_begins_body _ i j (grammar.atoms {ats = xs} h) = var_begins_body (next_word i) (atoms_begin xs i j h).0

  body_begins : (ats : List AtomTree) (xs : List ItemTree) (i j : Input) → IsBody n ats xs i j → begins_body (next_word i) ≡ true
  body_begins _ _ i j (grammar.heap {ats = ats} h) = heap_begins_body ats i j h
  body_begins _ _ i k (grammar.heap_and {ats = ats} {j = j} h is g) = heap_begins_body ats i j h
  body_begins _ _ i j (grammar.conj {xs = xs} h) = item_begins_body (next_word i) (items_begin n xs i j h)

  bound_full : (bs : List Ident) (i j : Input) → AreBound bs i j → begins_body (next_word j) ≡ true → bound i ≡ Ok (bs, j)
  unfolding bound begins_body
  bound_full _ i _ grammar.unbound e = let stop = sees_no_key begins_body key.Exists i e refl in rw stop refl
  bound_full _ i _ (grammar.bound {xs = xs} {j = j} is h d) e =
      let go = sees_key_there key.Exists i is in
      let read = names_full xs (next i) j h (sees_none is_dot sign.Comma j (ap is_dot d) refl) in
      let dot = takes sign.Dot j d in
      rw (go, read, dot) refl

  pub disjunct_full : (x : DisjunctTree) (i j : Input) → IsDisjunct n x i j → ends_conj (next_word j) ≡ true → disjunct n i ≡ Ok (x, j)
  unfolding disjunct
  disjunct_full _ i k (grammar.disjunct {bs = bs} {ats = ats} {xs = xs} {j = j} b h) e =
      let binds = bound_full bs i j b (body_begins ats xs j k h) in
      let inside = body_full ats xs j k h e in
      rw (binds, inside) refl

  pub formula_full : (x : FormulaTree) (i j : Input) → IsFormula n x i j → ends_formula (next_word j) ≡ true → formula n i ≡ Ok (x, j)
  unfolding formula
  formula_full _ i j (grammar.formula {cs = cs} h) e =
      let read = separated_full (sees_key key.Or) ends_conj (word.Key key.Or) (sees_key_there key.Or) (disjunct n) (IsDisjunct n) (disjunct_less n) (key_less key.Or)
      (λ k h. ap ends_conj (seen_key key.Or k h)) disjunct_full cs i j h (sees_no_key ends_formula key.Or j e refl) (formula_ends_conj (next_word j) e) in
      rw read refl
