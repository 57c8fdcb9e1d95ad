-- What is read as an expression is spelled so by the grammar.
use Rattle.std.proofs.Common.{◌≡◌, ℕ, zero, suc, Bool, true, false, List, [], ◌∷◌, ◌++◌, refl, sym, ap, subst, ◌∙◌, append_assoc, Ok, Err}
use Rattle.hs_lex.specs.declared.token.Sign.TheVariants as sign
use Rattle.hs_tree.specs.declared.expr.PartTree.{PartTree}
use Rattle.hs_tree.specs.declared.expr.ExprTree.{ExprTree}
use Rattle.hs_tree.specs.declared.expr.ExprKind.{ExprKind}
use Rattle.hs_tree.specs.declared.expr.ExprKind.TheVariants as kind
use Rattle.hs_words.specs.declared.error.ReadError.TheVariants.{TooDeep}
use Rattle.hs_words.specs.declared.word.Keyword.TheVariants as key
use Rattle.hs_words.specs.declared.word.Word.{Word}
use Rattle.hs_words.specs.declared.word.Word.TheVariants as word
use Rattle.hs_words.specs.Word.{same_sign}
use Rattle.hs_words.specs.Input.{Input, ◌<$>◌, next_word, next, place, comes, is_sign, sees, turns}
use Rattle.hs_words.specs.Grammar.{IsSign, Repeated}
use Rattle.hs_words.proofs.Yields.{Yields, Accepts, yield, yields_none, ◌▷◌, ◌▸◌, choose, after_sign, seen, repeat_yields}
use Rattle.hs_read_pure.specs.Expr.{name_by, name, variable, part_by, read_part, first_part, is_signed, signed_part, parts, elements, braces, both_by, pair, kind_by, expr_kind, level, levels_of, expr}
use Rattle.hs_read_pure.specs.Grammar.{IsName, named, IsVar, var, IsPart, number, times, null, IsSigned, added, taken, IsSum, plain, negative, IsExpr, IsKind, IsPair, AreElements, last, element}
use Rattle.hs_read_pure.specs.Grammar as grammar

name_at : (w : Word) (i : Input) → next_word i ≡ w → Yields (name_by w i) (λ x j. IsName x i j)
name_at word.Name i is = yield (named is)
name_at w i is = yields_none

pub name_accepts : Accepts name IsName
unfolding name
name_accepts i = name_at (next_word i) i refl

pub variable_accepts : Accepts variable IsVar
unfolding variable
variable_accepts i = choose _ _ _ (λ e. yield (var e)) (λ e. yields_none)

-- ---- sums

part_at : (w : Word) (i : Input) → next_word i ≡ w → Yields (part_by w i) (λ p j. IsPart p i j)
part_at (word.Number n) i is =
    choose _ _ _ (λ e. variable_accepts (next (next i)) ▷ λ x j v. yield (times is (seen sign.Star (next i) e) v)) (λ e. yield (number is))
part_at (word.Key key.Null) i is = yield (null is)
part_at w i is = variable_accepts i ▷ λ x j v. yield (grammar.variable v)

part_accepts : Accepts read_part IsPart
unfolding read_part
part_accepts i = part_at (next_word i) i refl

-- a first part, and then others
first_yields : (i : Input) → Yields (first_part i) (λ x j. (ps : List (Bool × PartTree)) (k : Input) → Repeated IsSigned ps j k → IsSum (x ∷ ps) i k)
unfolding first_part
first_yields i =
    choose _ _ _ (λ e. part_accepts (next i) ▷ λ p j is. yield (λ ps k others. negative (seen sign.Minus i e) is others))
    (λ e. part_accepts i ▷ λ p j is. yield (λ ps k others. plain is others))

sees_at : (i : Input) (w : Word) → next_word i ≡ w → is_sign sign.Minus w ≡ sees sign.Minus i
unfolding sees
sees_at i w is = sym (ap (is_sign sign.Minus) is)

signed_at : (w : Word) (i : Input) → next_word i ≡ w → is_signed w ≡ true → Yields (signed_part i) (λ p j. IsSigned p i j)
unfolding signed_part same_sign
signed_at (word.Sign sign.Plus) i is e = part_accepts (next i) ▷ λ p j h. yield (subst (λ m. IsSigned (m, p) i j) (sees_at i (word.Sign sign.Plus) is) (added is h))
signed_at (word.Sign sign.Minus) i is e = part_accepts (next i) ▷ λ p j h. yield (subst (λ m. IsSigned (m, p) i j) (sees_at i (word.Sign sign.Minus) is) (taken is h))
signed_at w i is e = absurd cc

signed_yields : (i : Input) → is_signed (next_word i) ≡ true → Yields (signed_part i) (λ p j. IsSigned p i j)
signed_yields i e = signed_at (next_word i) i refl e

sum_accepts : Accepts parts IsSum
unfolding parts
sum_accepts i =
    first_yields i ▷ λ x j make. repeat_yields (comes is_signed) signed_part IsSigned signed_yields (turns j) (x ∷ []) j ▸ λ all k ps.
    subst (λ (v : List (Bool × PartTree)). IsSum v i k) (sym ps.1) (make ps.0 k ps.2)

-- ---- expressions

-- at all lower levels
abbrev AllAccept : ℕ → Type 0
AllAccept zero = Unit {0}
AllAccept (suc n) = Accepts (expr n) (IsExpr n) × AllAccept n

elements_yield : (n : ℕ) → AllAccept (suc n) → (found : List ExprTree) (i : Input)
    → Yields (elements (levels_of (suc n)) found i) (λ all j. (es : List ExprTree) × (all ≡ found ++ es) × AreElements n es i j)
unfolding levels_of elements
elements_yield zero all found i =
    all.0 i ▷ λ e j is. choose {b = sees sign.Comma j} (λ k. Err (TooDeep (place k))) (λ k. Ok (found ++ e ∷ [], k)) j (λ c. yields_none) (λ c. yield (e ∷ [], refl, last is))
elements_yield (suc n) all found i =
    all.0 i ▷ λ e j is.
    choose _ _ _ (λ c. elements_yield n all.1 (found ++ e ∷ []) (next j) ▸ λ every k es. (e ∷ es.0, es.1 ∙ append_assoc found (e ∷ []) es.0, element is (seen sign.Comma j c) es.2))
    (λ c. yield (e ∷ [], refl, last is))

braces_yield : (n : ℕ) → AllAccept n → (i : Input) → IsSign sign.OpenBrace i → Yields (braces (levels_of n) i) (λ es j. IsKind n (kind.Braces es) i j)
unfolding levels_of braces
braces_yield zero all i first = yields_none
braces_yield (suc n) all i first =
    choose _ _ _ (λ c. yield (grammar.empty first (seen sign.CloseBrace (next i) c)))
    (λ c. elements_yield n all [] (next i) ▷ λ every j es. after_sign _ _ (λ last.
    yield (subst (λ (v : List ExprTree). IsKind (suc n) (kind.Braces v) i (next j)) (sym es.1) (grammar.braces first es.2 last))))

both_yield : (n : ℕ) → AllAccept (suc n) → (i : Input) → Yields (both_by (levels_of (suc n)) i) (λ p j. IsPair n p.0 p.1 i j)
unfolding levels_of
both_yield n all i =
    after_sign _ _ (λ a. all.0 (next i) ▷ λ l j is_l. after_sign _ _ (λ b. all.0 (next j) ▷ λ r k is_r. after_sign _ _ (λ c. yield (grammar.pair a is_l b is_r c))))

pair_yields : (n : ℕ) → AllAccept n → (make : ExprTree → ExprTree → ExprKind) (i : Input)
    → ((m : ℕ) (l r : ExprTree) (j : Input) → IsPair m l r (next i) j → IsKind (suc m) (make l r) i j)
    → Yields (((λ p. make p.0 p.1) <$> pair (levels_of n)) i) (λ k j. IsKind n k i j)
unfolding levels_of pair
pair_yields zero all make i is_kind = yields_none
pair_yields (suc n) all make i is_kind = both_yield n all (next i) ▷ λ p j is. yield (is_kind n p.0 p.1 j is)

kind_at : (n : ℕ) → AllAccept n → (w : Word) (i : Input) → next_word i ≡ w → Yields (kind_by (levels_of n) w i) (λ k j. IsKind n k i j)
kind_at n all (word.Sign sign.OpenBrace) i is = braces_yield n all i is ▷ λ es j h. yield h
kind_at n all (word.Key key.Union) i is = pair_yields n all kind.Union i (λ m l r j h. grammar.union is h)
kind_at n all (word.Key key.Inter) i is = pair_yields n all kind.Inter i (λ m l r j h. grammar.inter is h)
kind_at n all (word.Key key.Diff) i is = pair_yields n all kind.Diff i (λ m l r j h. grammar.diff is h)
kind_at n all w i is = sum_accepts i ▷ λ ps j h. yield (grammar.sum h)

level_accepts : (n : ℕ) → AllAccept n → Accepts (expr n) (IsExpr n)
unfolding level expr_kind
level_accepts n all i = kind_at n all (next_word i) i refl ▷ λ k j is. yield (grammar.expr is)

levels_accept : (n : ℕ) → AllAccept n
levels_accept zero = tt
levels_accept (suc n) = (level_accepts n (levels_accept n), levels_accept n)

-- what is read as an expression is spelled so
pub expr_accepts : (n : ℕ) → Accepts (expr n) (IsExpr n)
expr_accepts n = level_accepts n (levels_accept n)
