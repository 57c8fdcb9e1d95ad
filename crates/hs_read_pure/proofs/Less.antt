-- What the grammar has takes tokens.
use Rattle.std.proofs.Common.{◌≡◌, ◌≢◌, ℕ, suc, ◌<◌, ◌≤◌, Bool, true, List, Some, refl, arith}
use Rattle.hs_lex.specs.declared.token.Sign.TheVariants as sign
use Rattle.hs_tree.specs.declared.ident.Ident.{Ident}
use Rattle.hs_tree.specs.declared.expr.PartTree.{PartTree}
use Rattle.hs_tree.specs.declared.expr.ExprTree.{ExprTree}
use Rattle.hs_tree.specs.declared.expr.ExprKind.{ExprKind}
use Rattle.hs_tree.specs.declared.item.RelTree.{RelTree}
use Rattle.hs_tree.specs.declared.item.PureTree.{PureTree}
use Rattle.hs_tree.specs.declared.item.ItemTree.{ItemTree}
use Rattle.hs_tree.specs.declared.item.ItemKind.{ItemKind}
use Rattle.hs_tree.specs.declared.formula.ArgTree.{ArgTree}
use Rattle.hs_tree.specs.declared.formula.AtomTree.{AtomTree}
use Rattle.hs_tree.specs.declared.formula.DisjunctTree.{DisjunctTree}
use Rattle.hs_tree.specs.declared.formula.FormulaTree.{FormulaTree}
use Rattle.hs_words.specs.declared.word.Keyword.TheVariants as key
use Rattle.hs_words.specs.declared.word.Word.{Word}
use Rattle.hs_words.specs.declared.word.Word.TheVariants as word
use Rattle.hs_words.specs.Input.{Input, next_word, next, turns}
use Rattle.hs_words.specs.Grammar.{Separated, one, more, Repeated, none, another}
use Rattle.hs_words.proofs.Full.{next_less, sign_less, key_less}
use Rattle.hs_read_pure.specs.Expr.{begins_var}
use Rattle.hs_read_pure.specs.Item.{relation}
use Rattle.hs_read_pure.specs.Grammar.{IsName, named, IsVar, var, IsPart, number, times, null, IsSigned, added, taken, IsSum, plain, negative, IsExpr, IsKind, IsPair, AreElements, last, element, IsPure, AreCases, last_case, case, AreItems, last_item, another_item, IsItem, IsItemKind, AreNames, IsArg, AreArguments, IsAtom, IsHeap, IsBody, AreBound, IsDisjunct, IsFormula}
use Rattle.hs_read_pure.specs.Grammar as grammar

pub name_less : (x : Ident) (i j : Input) → IsName x i j → turns j < turns i
name_less _ i _ (named is) = next_less i word.Name is (λ e. cc)

var_not_end : (w : Word) → begins_var w ≡ true → w ≢ word.End
var_not_end word.End e is = absurd cc
var_not_end w e is = cc

var_less : (x : Ident) (i j : Input) → IsVar x i j → turns j < turns i
var_less _ i _ (var is) = next_less i (next_word i) refl (var_not_end (next_word i) is)

part_less : (p : PartTree) (i j : Input) → IsPart p i j → turns j < turns i
part_less _ i _ (number {n = n} is) = next_less i (word.Number n) is (λ e. cc)
part_less _ i j (times {n = n} {x = x} is star h) = omega (arith, next_less i (word.Number n) is (λ e. cc), sign_less sign.Star (next i) star, var_less x (next (next i)) j h)
part_less _ i j (grammar.variable {x = x} h) = var_less x i j h
part_less _ i _ (null is) = key_less key.Null i is

pub signed_less : (x : Bool × PartTree) (i j : Input) → IsSigned x i j → turns j < turns i
signed_less _ i j (added {p = p} is h) = omega (arith, sign_less sign.Plus i is, part_less p (next i) j h)
signed_less _ i j (taken {p = p} is h) = omega (arith, sign_less sign.Minus i is, part_less p (next i) j h)

-- lists of what takes tokens
module _ {A : Type 0} (R : A → Input → Input → Type 0) (less : (a : A) (i j : Input) → R a i j → turns j < turns i) where
  pub repeated_less : (xs : List A) (i j : Input) → Repeated R xs i j → turns j ≤ turns i
  repeated_less _ i _ none = omega arith
  repeated_less _ i k (another {x = x} {xs = xs} {j = j} r others) = omega (arith, less x i j r, repeated_less xs j k others)

  module _ (w : Word) (word_less : (i : Input) → next_word i ≡ w → turns (next i) < turns i) where
    pub separated_less : (xs : List A) (i j : Input) → Separated R w xs i j → turns j < turns i
    separated_less _ i j (one {x = x} r) = less x i j r
    separated_less _ i k (more {x = x} {xs = xs} {j = j} r is others) = omega (arith, less x i j r, word_less j is, separated_less xs (next j) k others)

sum_less : (ps : List (Bool × PartTree)) (i j : Input) → IsSum ps i j → turns j < turns i
sum_less _ i k (plain {p = p} {ps = ps} {j = j} h others) = omega (arith, part_less p i j h, repeated_less IsSigned signed_less ps j k others)
sum_less _ i k (negative {p = p} {ps = ps} {j = j} is h others) =
    omega (arith, sign_less sign.Minus i is, part_less p (next i) j h, repeated_less IsSigned signed_less ps j k others)

mutual
  pub expr_less : (n : ℕ) (e : ExprTree) (i j : Input) → IsExpr n e i j → turns j < turns i
  expr_less n _ i j (grammar.expr {k = k} h) = kind_less n k i j h

  kind_less : (n : ℕ) (k : ExprKind) (i j : Input) → IsKind n k i j → turns j < turns i
  kind_less n _ i j (grammar.sum {ps = ps} h) = sum_less ps i j h
  kind_less _ _ i _ (grammar.empty a b) = omega (arith, sign_less sign.OpenBrace i a, sign_less sign.CloseBrace (next i) b)
  kind_less _ _ i _ (grammar.braces {n = n} {es = es} {j = j} a h b) = omega (arith, sign_less sign.OpenBrace i a, elements_less n es (next i) j h, sign_less sign.CloseBrace j b)
  kind_less _ _ i j (grammar.union {n = n} {l = l} {r = r} is h) = omega (arith, key_less key.Union i is, pair_less n l r (next i) j h)
  kind_less _ _ i j (grammar.inter {n = n} {l = l} {r = r} is h) = omega (arith, key_less key.Inter i is, pair_less n l r (next i) j h)
  kind_less _ _ i j (grammar.diff {n = n} {l = l} {r = r} is h) = omega (arith, key_less key.Diff i is, pair_less n l r (next i) j h)

  pair_less : (n : ℕ) (l r : ExprTree) (i j : Input) → IsPair n l r i j → turns j < turns i
  pair_less n l r i _ (grammar.pair {j = j} {k = k} a is_l b is_r c) =
      omega (arith, sign_less sign.OpenParen i a, expr_less n l (next i) j is_l, sign_less sign.Comma j b, expr_less n r (next j) k is_r, sign_less sign.CloseParen k c)

  elements_less : (n : ℕ) (es : List ExprTree) (i j : Input) → AreElements n es i j → turns j < turns i
  elements_less n _ i j (last {e = e} h) = expr_less n e i j h
  elements_less _ _ i k (element {n = n} {e = e} {es = es} {j = j} h is others) =
      omega (arith, expr_less (suc n) e i j h, sign_less sign.Comma j is, elements_less n es (next j) k others)

relation_not_end : (w : Word) (r : RelTree) → relation w ≡ Some r → w ≢ word.End
relation_not_end word.End r e is = absurd cc
relation_not_end w r e is = cc

mutual
  pub pure_less : (n : ℕ) (p : PureTree) (i j : Input) → IsPure n p i j → turns j < turns i
  pure_less n _ i j (grammar.pure {cs = cs} h) = cases_less n cs i j h

  cases_less : (n : ℕ) (cs : List (List ItemTree)) (i j : Input) → AreCases n cs i j → turns j < turns i
  cases_less n _ i j (last_case {c = c} h) = items_less n c i j h
  cases_less n _ i k (case {c = c} {cs = cs} {j = j} h is others) = omega (arith, items_less n c i j h, sign_less sign.Bar j is, cases_less n cs (next j) k others)

  pub items_less : (n : ℕ) (xs : List ItemTree) (i j : Input) → AreItems n xs i j → turns j < turns i
  items_less n _ i j (last_item {x = x} h) = item_less n x i j h
  items_less n _ i k (another_item {x = x} {xs = xs} {j = j} h is others) =
      omega (arith, item_less n x i j h, sign_less sign.Amp j is, items_less n xs (next j) k others)

  pub item_less : (n : ℕ) (x : ItemTree) (i j : Input) → IsItem n x i j → turns j < turns i
  item_less n _ i j (grammar.item {k = k} h) = item_kind_less n k i j h

  item_kind_less : (n : ℕ) (k : ItemKind) (i j : Input) → IsItemKind n k i j → turns j < turns i
  item_kind_less n _ i _ (grammar.holds is) = key_less key.True i is
  item_kind_less n _ i _ (grammar.fails is) = key_less key.False i is
  item_kind_less _ _ i j (grammar.negation {n = n} {x = x} is h) = omega (arith, sign_less sign.Bang i is, item_less n x (next i) j h)
  item_kind_less _ _ i _ (grammar.group {n = n} {p = p} {j = j} a h b) = omega (arith, sign_less sign.OpenParen i a, pure_less n p (next i) j h, sign_less sign.CloseParen j b)
  item_kind_less _ _ i _ (grammar.exists {n = n} {x = x} {p = p} {j = j} {k = k} a b c d h o) =
      omega (arith, sign_less sign.OpenParen i a, key_less key.Exists (next i) b, name_less x (next (next i)) j c, sign_less sign.Dot j d, pure_less n p (next j) k h, sign_less sign.CloseParen k o)
  item_kind_less _ _ i _ (grammar.forall {n = n} {x = x} {p = p} {j = j} {k = k} a b c d h o) =
      omega (arith, sign_less sign.OpenParen i a, key_less key.Forall (next i) b, name_less x (next (next i)) j c, sign_less sign.Dot j d, pure_less n p (next j) k h, sign_less sign.CloseParen k o)
  item_kind_less _ _ i _ (grammar.all {n = n} {x = x} {e = e} {p = p} {j = j} {k = k} {l = l} a b c d f g h o) =
      omega (
        arith,
        key_less key.All i a,
        name_less x (next i) j b,
        key_less key.In j c,
        expr_less (suc n) e (next j) k d,
        sign_less sign.Colon k f,
        sign_less sign.OpenParen (next k) g,
        pure_less n p (next (next k)) l h,
        sign_less sign.CloseParen l o,
      )
  item_kind_less _ _ i _ (grammar.divides {n = n} {d = d} {e = e} {j = j} a b c f h o) =
      omega (
        arith,
        key_less key.Divides i a,
        sign_less sign.OpenParen (next i) b,
        next_less (next (next i)) (word.Number d) c (λ e. cc),
        sign_less sign.Comma (next (next (next i))) f,
        expr_less n e (next (next (next (next i)))) j h,
        sign_less sign.CloseParen j o,
      )
  item_kind_less n _ i k (grammar.rel {r = r} {x = x} {y = y} {j = j} is_x is is_y) =
      omega (arith, expr_less n x i j is_x, next_less j (next_word j) refl (relation_not_end (next_word j) r is), expr_less n y (next j) k is_y)

-- ---- formulas

pub names_less : (xs : List Ident) (i j : Input) → AreNames xs i j → turns j < turns i
names_less = separated_less IsName name_less (word.Sign sign.Comma) (sign_less sign.Comma)

module _ (n : ℕ) where
  pub arg_less : (x : ArgTree) (i j : Input) → IsArg n x i j → turns j < turns i
  arg_less _ i _ (grammar.hole is) = next_less i word.Hole is (λ e. cc)
  arg_less _ i j (grammar.value {e = e} h) = expr_less n e i j h

  arguments_less : (xs : List ArgTree) (i j : Input) → AreArguments n xs i j → turns j < turns i
  arguments_less _ i _ (grammar.no_args a b) = omega (arith, sign_less sign.Less i a, sign_less sign.Greater (next i) b)
  arguments_less _ i _ (grammar.args {xs = xs} {j = j} a h b) =
      omega (arith, sign_less sign.Less i a, separated_less (IsArg n) arg_less (word.Sign sign.Comma) (sign_less sign.Comma) xs (next i) j h, sign_less sign.Greater j b)

  pub atom_less : (x : AtomTree) (i j : Input) → IsAtom n x i j → turns j < turns i
  atom_less _ i l (grammar.atom {x = x} {y = y} {args = xs} {j = j} {k = k} a b c h) =
      omega (arith, var_less x i j a, sign_less sign.ColonColon j b, name_less y (next j) k c, arguments_less xs k l h)

  heap_less : (xs : List AtomTree) (i j : Input) → IsHeap n xs i j → turns j < turns i
  heap_less _ i _ (grammar.emp is) = key_less key.Emp i is
  heap_less _ i j (grammar.atoms {ats = xs} h) = separated_less (IsAtom n) atom_less (word.Sign sign.Star) (sign_less sign.Star) xs i j h

  body_less : (ats : List AtomTree) (xs : List ItemTree) (i j : Input) → IsBody n ats xs i j → turns j < turns i
  body_less _ _ i j (grammar.heap {ats = ats} h) = heap_less ats i j h
  body_less _ _ i k (grammar.heap_and {ats = ats} {xs = xs} {j = j} h is g) = omega (arith, heap_less ats i j h, sign_less sign.Amp j is, items_less n xs (next j) k g)
  body_less _ _ i j (grammar.conj {xs = xs} h) = items_less n xs i j h

  bound_less : (xs : List Ident) (i j : Input) → AreBound xs i j → turns j ≤ turns i
  bound_less _ i _ grammar.unbound = omega arith
  bound_less _ i _ (grammar.bound {xs = xs} {j = j} is h d) = omega (arith, key_less key.Exists i is, names_less xs (next i) j h, sign_less sign.Dot j d)

  pub disjunct_less : (x : DisjunctTree) (i j : Input) → IsDisjunct n x i j → turns j < turns i
  disjunct_less _ i k (grammar.disjunct {bs = bs} {ats = ats} {xs = xs} {j = j} b h) = omega (arith, bound_less bs i j b, body_less ats xs j k h)

  pub formula_less : (x : FormulaTree) (i j : Input) → IsFormula n x i j → turns j < turns i
  formula_less _ i j (grammar.formula {cs = cs} h) = separated_less (IsDisjunct n) disjunct_less (word.Key key.Or) (key_less key.Or) cs i j h
