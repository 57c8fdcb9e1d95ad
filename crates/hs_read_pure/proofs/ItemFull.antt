-- What the grammar has as a conjunction is read.
use Rattle.std.proofs.Common.{◌≡◌, ℕ, zero, suc, ◌-◌, Bool, true, false, List, [], ◌∷◌, Ok, Some, refl, ap, subst, ◌∙◌, arith}
use Rattle.hs_lex.specs.declared.token.Sign.TheVariants as sign
use Rattle.hs_tree.specs.declared.ident.Ident.{Ident}
use Rattle.hs_tree.specs.declared.expr.ExprTree.{ExprTree}
use Rattle.hs_tree.specs.declared.item.RelTree.{RelTree}
use Rattle.hs_tree.specs.declared.item.PureTree.{PureTree}
use Rattle.hs_tree.specs.declared.item.ItemTree.{ItemTree}
use Rattle.hs_tree.specs.declared.item.ItemKind.{ItemKind}
use Rattle.hs_tree.specs.declared.item.ItemKind.TheVariants as kind
use Rattle.hs_words.specs.declared.word.Keyword.TheVariants as key
use Rattle.hs_words.specs.declared.word.Word.{Word}
use Rattle.hs_words.specs.declared.word.Word.TheVariants as word
use Rattle.hs_words.specs.Input.{Input, ◌<$>◌, next_word, next, sees, inner}
use Rattle.hs_words.specs.Grammar.{IsSign, Separated, one, more}
use Rattle.hs_words.proofs.Yields.{seen}
use Rattle.hs_words.proofs.Full.{sees_sign, sees_none, takes, takes_key, mapped, sign_less, separated_full}
use Rattle.hs_read_pure.specs.Expr.{name, expr}
use Rattle.hs_read_pure.specs.Item.{relation, related, comparison, number, opening_paren, conj, disjunction, closed, binder, Levels, negation, group_by, group, all, divides, kind_by, item_kind, level, levels_of, item}
use Rattle.hs_read_pure.specs.Grammar.{IsName, IsExpr, IsPure, AreCases, last_case, case, AreItems, last_item, another_item, IsItem, IsItemKind}
use Rattle.hs_read_pure.specs.Grammar as grammar
use Rattle.hs_read_pure.proofs.Ends.{ends_expr, ends_conj, ends_pure, conj_ends_expr, pure_ends_conj, relation_ends_expr, begins_expr, begins_item, expr_begins_item}
use Rattle.hs_read_pure.proofs.Less.{item_less, items_less}
use Rattle.hs_read_pure.proofs.ExprFull.{name_full, expr_begins, expr_full}

-- ---- what an item begins with

kind_begins : (n : ℕ) (k : ItemKind) (i j : Input) → IsItemKind n k i j → begins_item (next_word i) ≡ true
kind_begins n _ i _ (grammar.holds is) = ap begins_item is
kind_begins n _ i _ (grammar.fails is) = ap begins_item is
kind_begins _ _ i j (grammar.negation is h) = ap begins_item is
kind_begins _ _ i _ (grammar.group a h b) = ap begins_item a
kind_begins _ _ i _ (grammar.exists a b c d h o) = ap begins_item a
kind_begins _ _ i _ (grammar.forall a b c d h o) = ap begins_item a
kind_begins _ _ i _ (grammar.all a b c d f g h o) = ap begins_item a
kind_begins _ _ i _ (grammar.divides a b c f h o) = ap begins_item a
kind_begins n _ i k (grammar.rel {x = x} {j = j} is_x is is_y) = expr_begins_item (next_word i) (expr_begins n x i j is_x)

item_begins : (n : ℕ) (x : ItemTree) (i j : Input) → IsItem n x i j → begins_item (next_word i) ≡ true
item_begins n _ i j (grammar.item {k = k} h) = kind_begins n k i j h

pub items_begin : (n : ℕ) (xs : List ItemTree) (i j : Input) → AreItems n xs i j → begins_item (next_word i) ≡ true
items_begin n _ i j (last_item {x = x} h) = item_begins n x i j h
items_begin n _ i k (another_item {x = x} {j = j} h is others) = item_begins n x i j h

cases_begin : (n : ℕ) (cs : List (List ItemTree)) (i j : Input) → AreCases n cs i j → begins_item (next_word i) ≡ true
cases_begin n _ i j (last_case {c = c} h) = items_begin n c i j h
cases_begin n _ i k (case {c = c} {j = j} h is others) = items_begin n c i j h

pure_begins : (n : ℕ) (p : PureTree) (i j : Input) → IsPure n p i j → begins_item (next_word i) ≡ true
pure_begins n _ i j (grammar.pure {cs = cs} h) = cases_begin n cs i j h

-- ---- choices by a word

group_by_item : (n : ℕ) (levels : Levels) (w : Word) (i : Input) → begins_item w ≡ true → group_by n levels w i ≡ (kind.Group <$> closed (inner levels)) i
group_by_item n levels (word.Key key.Exists) i e = absurd cc
group_by_item n levels (word.Key key.Forall) i e = absurd cc
group_by_item n levels w i e = refl

kind_by_expr : (n : ℕ) (levels : Levels) (w : Word) (i : Input) → begins_expr w ≡ true → kind_by n levels w i ≡ comparison n i
kind_by_expr n levels (word.Key key.True) i e = absurd cc
kind_by_expr n levels (word.Key key.False) i e = absurd cc
kind_by_expr n levels (word.Sign sign.Bang) i e = absurd cc
kind_by_expr n levels (word.Sign sign.OpenParen) i e = absurd cc
kind_by_expr n levels (word.Key key.All) i e = absurd cc
kind_by_expr n levels (word.Key key.Divides) i e = absurd cc
kind_by_expr n levels w i e = refl

-- ---- lists of items

from_items : (n : ℕ) (xs : List ItemTree) (i j : Input) → AreItems n xs i j → Separated (IsItem n) (word.Sign sign.Amp) xs i j
from_items n _ i j (last_item h) = one h
from_items n _ i k (another_item {xs = xs} {j = j} h is others) = more h is (from_items n xs (next j) k others)

from_cases : (n : ℕ) (cs : List (List ItemTree)) (i j : Input) → AreCases n cs i j → Separated (AreItems n) (word.Sign sign.Bar) cs i j
from_cases n _ i j (last_case h) = one h
from_cases n _ i k (case {cs = cs} {j = j} h is others) = more h is (from_cases n cs (next j) k others)

-- so with this many levels left
abbrev pub ItemFull : ℕ → Type 0
ItemFull n = (x : ItemTree) (i j : Input) → IsItem n x i j → ends_expr (next_word j) ≡ true → item n i ≡ Ok (x, j)

module _ (n : ℕ) (full : ItemFull n) where
  pub conj_of : (xs : List ItemTree) (i j : Input) → AreItems n xs i j → ends_conj (next_word j) ≡ true → conj (item n) i ≡ Ok (xs, j)
  unfolding conj
  conj_of xs i j h e =
      separated_full (sees sign.Amp) ends_expr (word.Sign sign.Amp) (sees_sign sign.Amp) (item n) (IsItem n) (item_less n) (sign_less sign.Amp)
      (λ k h. ap ends_expr (seen sign.Amp k h)) full xs i j (from_items n xs i j h) (sees_none ends_conj sign.Amp j e refl) (conj_ends_expr (next_word j) e)

  pub pure_of : (p : PureTree) (i j : Input) → IsPure n p i j → ends_pure (next_word j) ≡ true → disjunction (item n) i ≡ Ok (p, j)
  unfolding disjunction
  pure_of _ i j (grammar.pure {cs = cs} h) e =
      let read = separated_full (sees sign.Bar) ends_conj (word.Sign sign.Bar) (sees_sign sign.Bar) (conj (item n)) (AreItems n) (items_less n) (sign_less sign.Bar)
      (λ k h. ap ends_conj (seen sign.Bar k h)) conj_of cs i j (from_cases n cs i j h) (sees_none ends_pure sign.Bar j e refl) (pure_ends_conj (next_word j) e) in
      rw read refl

  closed_of : (p : PureTree) (i j : Input) → IsPure n p i j → IsSign sign.CloseParen j → closed (item n) i ≡ Ok (p, next j)
  unfolding closed
  closed_of p i j h c =
      let read = pure_of p i j h (ap ends_pure c) in
      let close = takes sign.CloseParen j c in
      rw (read, close) refl

  binder_of : (x : Ident) (p : PureTree) (i j k : Input) → IsName x (next i) j → IsSign sign.Dot j → IsPure n p (next j) k → IsSign sign.CloseParen k
      → binder (item n) i ≡ Ok ((x, p), next k)
  unfolding binder
  binder_of x p i j k a d h c =
      let bound = name_full x (next i) j a in
      let dot = takes sign.Dot j d in
      let body = closed_of p (next j) k h c in
      rw (bound, dot, body) refl

-- ---- items

-- so at the level below
abbrev Below : ℕ → Type 0
Below zero = Unit {0}
Below (suc n) = ItemFull n

lower_full : (n : ℕ) (x : ExprTree) (i j : Input) → IsExpr n x i j → ends_expr (next_word j) ≡ true → expr (suc n - 1) i ≡ Ok (x, j)
lower_full n x i j h e = let same : n ≡ suc n - 1 = omega arith in subst (λ m. expr m i ≡ Ok (x, j)) same (expr_full n x i j h e)

comparison_full : (n : ℕ) (r : RelTree) (x y : ExprTree) (i j k : Input) → IsExpr n x i j → relation (next_word j) ≡ Some r → IsExpr n y (next j) k
    → ends_expr (next_word k) ≡ true → comparison n i ≡ Ok (kind.Rel r x y, k)
unfolding comparison
comparison_full n r x y i j k is_x is is_y e =
    let left = expr_full n x i j is_x (relation_ends_expr (next_word j) r is) in
    let right = expr_full n y (next j) k is_y e in
    rw (left, is, right) refl

kind_full : (n : ℕ) → Below n → (k : ItemKind) (i j : Input) → IsItemKind n k i j → ends_expr (next_word j) ≡ true → item_kind n (levels_of n) i ≡ Ok (k, j)
unfolding item_kind levels_of negation group all divides number opening_paren
kind_full n below _ i _ (grammar.holds is) e = rw is refl
kind_full n below _ i _ (grammar.fails is) e = rw is refl
kind_full _ below _ i j (grammar.negation {n = n} {x = x} is h) e = let read = below x (next i) j h e in rw (is, read) refl
kind_full _ below _ i _ (grammar.group {n = n} {p = p} {j = j} a h b) e =
    let inside = group_by_item (suc n) (levels_of (suc n)) (next_word (next i)) (next i) (pure_begins n p (next i) j h)
    ∙ mapped kind.Group (closed (item n)) p (next i) (next j) (closed_of n below p (next i) j h b) in
    rw a inside
kind_full _ below _ i _ (grammar.exists {n = n} {x = x} {p = p} {j = j} {k = k} a b c d h o) e =
    let read = binder_of n below x p (next i) j k c d h o in rw (a, b, read) refl
kind_full _ below _ i _ (grammar.forall {n = n} {x = x} {p = p} {j = j} {k = k} a b c d h o) e =
    let read = binder_of n below x p (next i) j k c d h o in rw (a, b, read) refl
kind_full _ below _ i _ (grammar.all {n = n} {x = x} {e = y} {p = p} {j = j} {k = k} {l = l} a b c d f g h o) e =
    let bound = name_full x (next i) j b in
    let within = takes_key key.In j c in
    let bag = expr_full (suc n) y (next j) k d (ap ends_expr f) in
    let colon = takes sign.Colon k f in
    let paren = sees_sign sign.OpenParen (next k) g in
    let body = closed_of n below p (next (next k)) l h o in
    rw (a, bound, within, bag, colon, paren, body) refl
kind_full _ below _ i _ (grammar.divides {n = n} {d = d} {e = y} {j = j} a b c f h o) e =
    let paren = sees_sign sign.OpenParen (next i) b in
    let comma = takes sign.Comma (next (next (next i))) f in
    let of = lower_full n y (next (next (next (next i)))) j h (ap ends_expr o) in
    let close = takes sign.CloseParen j o in
    rw (a, paren, c, comma, of, close) refl
kind_full n below _ i k (grammar.rel {r = r} {x = x} {y = y} {j = j} is_x is is_y) e =
    kind_by_expr n (levels_of n) (next_word i) i (expr_begins n x i j is_x) ∙ comparison_full n r x y i j k is_x is is_y e

level_full : (n : ℕ) → Below n → ItemFull n
unfolding level
level_full n below _ i j (grammar.item {k = k} h) e = let read = kind_full n below k i j h e in rw read refl

-- what the grammar has as an item is read
pub item_full : (n : ℕ) → ItemFull n
item_full zero = level_full zero tt
item_full (suc n) = level_full (suc n) (item_full n)

pub conj_full : (n : ℕ) (xs : List ItemTree) (i j : Input) → AreItems n xs i j → ends_conj (next_word j) ≡ true → conj (item n) i ≡ Ok (xs, j)
conj_full n = conj_of n (item_full n)

pub pure_full : (n : ℕ) (p : PureTree) (i j : Input) → IsPure n p i j → ends_pure (next_word j) ≡ true → disjunction (item n) i ≡ Ok (p, j)
pure_full n = pure_of n (item_full n)
