-- What the grammar has as an expression is read.
use Rattle.std.proofs.Common.{◌≡◌, ℕ, zero, suc, Bool, true, false, List, [], ◌∷◌, ◌++◌, Ok, refl, sym, ap, ◌∙◌, append_assoc, arith}
use Rattle.hs_lex.specs.declared.token.Sign.TheVariants as sign
use Rattle.hs_tree.specs.declared.ident.Ident.{Ident}
use Rattle.hs_tree.specs.declared.expr.PartTree.{PartTree}
use Rattle.hs_tree.specs.declared.expr.PartTree.TheVariants as part
use Rattle.hs_tree.specs.declared.expr.ExprTree.{ExprTree}
use Rattle.hs_tree.specs.declared.expr.ExprKind.{ExprKind}
use Rattle.hs_tree.specs.declared.expr.ExprKind.TheVariants as kind
use Rattle.hs_words.specs.declared.word.Keyword.TheVariants as key
use Rattle.hs_words.specs.declared.word.Word.{Word}
use Rattle.hs_words.specs.declared.word.Word.TheVariants as word
use Rattle.hs_words.specs.Input.{Input, ◌<$>◌, next_word, second_word, next, comes, turns, repeat}
use Rattle.hs_words.specs.Grammar.{IsSign, Repeated, none, another}
use Rattle.hs_words.proofs.Full.{fine, sees_sign, sees_other, sees_none, takes, mapped, ends_at, repeat_full}
use Rattle.hs_read_pure.specs.Expr.{name, begins_var, variable, part_by, read_part, first_part, is_signed, signed_part, parts, elements, braces, both_by, pair, Levels, kind_by, expr_kind, level, levels_of, expr}
use Rattle.hs_read_pure.specs.Grammar.{IsName, named, IsVar, var, IsPart, number, times, null, IsSigned, added, taken, IsSum, plain, negative, IsExpr, IsKind, IsPair, AreElements, last, element}
use Rattle.hs_read_pure.specs.Grammar as grammar
use Rattle.hs_read_pure.proofs.Ends.{ends_part, ends_expr, expr_ends_part, expr_unsigned, signed_ends_part, begins_part, begins_sum, begins_expr, var_begins_part, part_begins_sum, sum_begins_expr}
use Rattle.hs_read_pure.proofs.Less.{signed_less}

pub name_full : (x : Ident) (i j : Input) → IsName x i j → name i ≡ Ok (x, j)
unfolding name
name_full _ i _ (named is) = rw is refl

pub variable_full : (x : Ident) (i j : Input) → IsVar x i j → variable i ≡ Ok (x, j)
unfolding variable
variable_full _ i _ (var is) = rw is refl

pub var_begins : (x : Ident) (i j : Input) → IsVar x i j → begins_var (next_word i) ≡ true
var_begins _ i _ (var is) = is

-- ---- sums

part_by_var : (w : Word) (i : Input) → begins_var w ≡ true → part_by w i ≡ (part.Name <$> variable) i
part_by_var word.Name i e = refl
part_by_var (word.Key key.SelfWord) i e = refl
part_by_var (word.Key key.Res) i e = refl
part_by_var w i e = absurd cc

part_full : (p : PartTree) (i j : Input) → IsPart p i j → ends_part (next_word j) ≡ true → read_part i ≡ Ok (p, j)
unfolding read_part
part_full _ i _ (number is) e = let stop = sees_none ends_part sign.Star (next i) e refl in rw (is, stop) refl
part_full _ i j (times {x = x} is star h) e =
    let go = sees_sign sign.Star (next i) star in
    let read = variable_full x (next (next i)) j h in
    rw (is, go, read) refl
part_full _ i j (grammar.variable {x = x} h) e = part_by_var (next_word i) i (var_begins x i j h) ∙ mapped part.Name variable x i j (variable_full x i j h)
part_full _ i _ (null is) e = rw is refl

part_begins : (p : PartTree) (i j : Input) → IsPart p i j → begins_part (next_word i) ≡ true
part_begins _ i _ (number is) = ap begins_part is
part_begins _ i j (times is star h) = ap begins_part is
part_begins _ i j (grammar.variable {x = x} h) = var_begins_part (next_word i) (var_begins x i j h)
part_begins _ i _ (null is) = ap begins_part is

signed_full : (x : Bool × PartTree) (i j : Input) → IsSigned x i j → ends_part (next_word j) ≡ true → signed_part i ≡ Ok (x, j)
unfolding signed_part
signed_full _ i j (added {p = p} is h) e =
    let plus = sees_other sign.Minus i (λ m. let clash : word.Sign sign.Plus ≡ word.Sign sign.Minus = sym is ∙ m in cc) in
    let read = part_full p (next i) j h e in
    rw (read, plus) refl
signed_full _ i j (taken {p = p} is h) e =
    let minus = sees_sign sign.Minus i is in
    let read = part_full p (next i) j h e in
    rw (read, minus) refl

signed_starts : (x : Bool × PartTree) (i j : Input) → IsSigned x i j → is_signed (next_word i) ≡ true
signed_starts _ i j (added is h) = ap is_signed is
signed_starts _ i j (taken is h) = ap is_signed is

module _ (ps : List (Bool × PartTree)) (j k : Input) (others : Repeated IsSigned ps j k) (e : ends_expr (next_word k) ≡ true) where
  part_ended : ends_part (next_word j) ≡ true
  part_ended =
      ends_at (comes is_signed) ends_part signed_part IsSigned signed_starts signed_less (λ m h. signed_ends_part (next_word m) h) signed_full ps j k others (expr_ends_part (next_word k) e)

  others_full : (x : Bool × PartTree) → repeat (comes is_signed) signed_part (turns j) (x ∷ []) j ≡ Ok (x ∷ ps, k)
  others_full x =
      repeat_full (comes is_signed) ends_part signed_part IsSigned signed_starts signed_less (λ m h. signed_ends_part (next_word m) h) signed_full ps j k others (turns j) (x ∷ [])
      (omega arith) (expr_unsigned (next_word k) e) (expr_ends_part (next_word k) e)

sum_full : (ps : List (Bool × PartTree)) (i j : Input) → IsSum ps i j → ends_expr (next_word j) ≡ true → parts i ≡ Ok (ps, j)
unfolding parts first_part
sum_full _ i k (plain {p = p} {ps = ps} {j = j} h others) e =
    let unsigned = sees_none begins_part sign.Minus i (part_begins p i j h) refl in
    let first = part_full p i j h (part_ended ps j k others e) in
    let rest = others_full ps j k others e (false, p) in
    rw (unsigned, first) rest
sum_full _ i k (negative {p = p} {ps = ps} {j = j} is h others) e =
    let minus = sees_sign sign.Minus i is in
    let first = part_full p (next i) j h (part_ended ps j k others e) in
    let rest = others_full ps j k others e (true, p) in
    rw (minus, first) rest

sum_begins : (ps : List (Bool × PartTree)) (i j : Input) → IsSum ps i j → begins_sum (next_word i) ≡ true
sum_begins _ i k (plain {p = p} {j = j} h others) = part_begins_sum (next_word i) (part_begins p i j h)
sum_begins _ i k (negative is h others) = ap begins_sum is

-- ---- what an expression begins with

kind_begins : (n : ℕ) (k : ExprKind) (i j : Input) → IsKind n k i j → begins_expr (next_word i) ≡ true
kind_begins n _ i j (grammar.sum {ps = ps} h) = sum_begins_expr (next_word i) (sum_begins ps i j h)
kind_begins _ _ i _ (grammar.empty a b) = ap begins_expr a
kind_begins _ _ i _ (grammar.braces a h b) = ap begins_expr a
kind_begins _ _ i j (grammar.union is h) = ap begins_expr is
kind_begins _ _ i j (grammar.inter is h) = ap begins_expr is
kind_begins _ _ i j (grammar.diff is h) = ap begins_expr is

pub expr_begins : (n : ℕ) (x : ExprTree) (i j : Input) → IsExpr n x i j → begins_expr (next_word i) ≡ true
expr_begins n _ i j (grammar.expr {k = k} h) = kind_begins n k i j h

elements_begin : (n : ℕ) (es : List ExprTree) (i j : Input) → AreElements n es i j → begins_expr (next_word i) ≡ true
elements_begin n _ i j (last {e = e} h) = expr_begins n e i j h
elements_begin _ _ i k (element {n = n} {e = e} {j = j} h is others) = expr_begins (suc n) e i j h

-- ---- what stands behind a variable that an expression begins with

-- no expression that begins with another word begins with a variable
not_var : {A : Type 0} (i : Input) (w : Word) → next_word i ≡ w → begins_var w ≡ false → begins_var (next_word i) ≡ true → A
not_var i w is other b = let clash : true ≡ false = sym b ∙ ap begins_var is ∙ other in absurd cc

module _ (test : Word → Bool) (b : Bool) (plus : test (word.Sign sign.Plus) ≡ b) (minus : test (word.Sign sign.Minus) ≡ b) where
  second_of_part : (p : PartTree) (i j : Input) → IsPart p i j → begins_var (next_word i) ≡ true → test (next_word j) ≡ b → test (next_word (next i)) ≡ b
  second_of_part _ i _ (number {n = n} is) v e = not_var i (word.Number n) is refl v
  second_of_part _ i j (times {n = n} is star h) v e = not_var i (word.Number n) is refl v
  second_of_part _ i _ (grammar.variable (var is)) v e = e
  second_of_part _ i _ (null is) v e = not_var i (word.Key key.Null) is refl v

  signed_first : (ps : List (Bool × PartTree)) (i j : Input) → Repeated IsSigned ps i j → test (next_word j) ≡ b → test (next_word i) ≡ b
  signed_first _ i _ none e = e
  signed_first _ i k (another (added is h) others) e = ap test is ∙ plus
  signed_first _ i k (another (taken is h) others) e = ap test is ∙ minus

  -- it is a sign, or what stands behind the expression
  pub second_of_expr : (n : ℕ) (x : ExprTree) (i j : Input) → IsExpr n x i j → test (next_word j) ≡ b → begins_var (next_word i) ≡ true → test (second_word i) ≡ b
  unfolding second_word
  second_of_expr n _ i k (grammar.expr (grammar.sum (plain {p = p} {ps = ps} {j = j} h others))) e v = second_of_part p i j h v (signed_first ps j k others e)
  second_of_expr n _ i k (grammar.expr (grammar.sum (negative is h others))) e v = not_var i (word.Sign sign.Minus) is refl v
  second_of_expr _ _ i _ (grammar.expr (grammar.empty is c)) e v = not_var i (word.Sign sign.OpenBrace) is refl v
  second_of_expr _ _ i _ (grammar.expr (grammar.braces is h c)) e v = not_var i (word.Sign sign.OpenBrace) is refl v
  second_of_expr _ _ i _ (grammar.expr (grammar.union is h)) e v = not_var i (word.Key key.Union) is refl v
  second_of_expr _ _ i _ (grammar.expr (grammar.inter is h)) e v = not_var i (word.Key key.Inter) is refl v
  second_of_expr _ _ i _ (grammar.expr (grammar.diff is h)) e v = not_var i (word.Key key.Diff) is refl v

-- ---- expressions

kind_by_sum : (levels : Levels) (w : Word) (i : Input) → begins_sum w ≡ true → kind_by levels w i ≡ (kind.Sum <$> parts) i
kind_by_sum levels (word.Sign sign.OpenBrace) i e = absurd cc
kind_by_sum levels (word.Key key.Union) i e = absurd cc
kind_by_sum levels (word.Key key.Inter) i e = absurd cc
kind_by_sum levels (word.Key key.Diff) i e = absurd cc
kind_by_sum levels w i e = refl

-- so with this many levels left
abbrev pub ExprFull : ℕ → Type 0
ExprFull n = (x : ExprTree) (i j : Input) → IsExpr n x i j → ends_expr (next_word j) ≡ true → expr n i ≡ Ok (x, j)

-- so at all lower levels
abbrev AllFull : ℕ → Type 0
AllFull zero = Unit {0}
AllFull (suc n) = ExprFull n × AllFull n

elements_full : (n : ℕ) → AllFull (suc n) → (es : List ExprTree) (i j : Input) → AreElements n es i j → IsSign sign.CloseBrace j → (found : List ExprTree)
    → elements (levels_of (suc n)) found i ≡ Ok (found ++ es, j)
unfolding levels_of elements
elements_full n all _ i j (last {e = x} h) close found =
    let first = all.0 x i j h (ap ends_expr close) in
    let stop = sees_other sign.Comma j (λ m. let clash : word.Sign sign.CloseBrace ≡ word.Sign sign.Comma = sym close ∙ m in cc) in
    rw (first, stop) refl
elements_full _ all _ i k (element {n = n} {e = x} {es = es} {j = j} h is others) close found =
    let first = all.0 x i j h (ap ends_expr is) in
    let go = sees_sign sign.Comma j is in
    let rest = elements_full n all.1 es (next j) k others close (found ++ x ∷ []) in
    rw (first, go) (rest ∙ ap (λ (v : List ExprTree). fine (v, k)) (append_assoc found (x ∷ []) es))

both_full : (n : ℕ) → AllFull (suc n) → (l r : ExprTree) (i j : Input) → IsPair n l r i j → both_by (levels_of (suc n)) i ≡ Ok ((l, r), j)
unfolding levels_of
both_full n all l r i _ (grammar.pair {j = j} {k = k} a is_l b is_r c) =
    let paren = takes sign.OpenParen i a in
    let left = all.0 l (next i) j is_l (ap ends_expr b) in
    let comma = takes sign.Comma j b in
    let right = all.0 r (next j) k is_r (ap ends_expr c) in
    let close = takes sign.CloseParen k c in
    rw (paren, left, comma, right, close) refl

kind_full : (n : ℕ) → AllFull n → (k : ExprKind) (i j : Input) → IsKind n k i j → ends_expr (next_word j) ≡ true → expr_kind (levels_of n) i ≡ Ok (k, j)
unfolding expr_kind levels_of braces pair
kind_full n all _ i j (grammar.sum {ps = ps} h) e =
    kind_by_sum (levels_of n) (next_word i) i (sum_begins ps i j h) ∙ mapped kind.Sum parts ps i j (sum_full ps i j h e)
kind_full _ all _ i _ (grammar.empty a b) e = let close = sees_sign sign.CloseBrace (next i) b in rw (a, close) refl
kind_full _ all _ i _ (grammar.braces {n = n} {es = es} {j = j} a h b) e =
    let paren = sees_none begins_expr sign.CloseBrace (next i) (elements_begin n es (next i) j h) refl in
    let read = elements_full n all es (next i) j h b [] in
    let close = takes sign.CloseBrace j b in
    rw (a, paren, read, close) refl
kind_full _ all _ i j (grammar.union {n = n} {l = l} {r = r} is h) e = let read = both_full n all l r (next i) j h in rw (is, read) refl
kind_full _ all _ i j (grammar.inter {n = n} {l = l} {r = r} is h) e = let read = both_full n all l r (next i) j h in rw (is, read) refl
kind_full _ all _ i j (grammar.diff {n = n} {l = l} {r = r} is h) e = let read = both_full n all l r (next i) j h in rw (is, read) refl

level_full : (n : ℕ) → AllFull n → ExprFull n
unfolding level
level_full n all _ i j (grammar.expr {k = k} h) e = let read = kind_full n all k i j h e in rw read refl

all_full : (n : ℕ) → AllFull n
all_full zero = tt
all_full (suc n) = (level_full n (all_full n), all_full n)

-- what the grammar has as an expression is read
pub expr_full : (n : ℕ) → ExprFull n
expr_full n = level_full n (all_full n)
