-- What the grammar has as a condition is read.
use Rattle.std.proofs.Common.{◌≡◌, ℕ, zero, suc, Bool, true, false, List, [], ◌∷◌, Ok, Some, refl, ap, ◌∙◌}
use Rattle.hs_lex.specs.declared.token.Sign.TheVariants as sign
use Rattle.hs_tree.specs.declared.expr.ExprTree.{ExprTree}
use Rattle.hs_tree.specs.declared.item.RelTree.{RelTree}
use Rattle.hs_tree.specs.declared.method.CondTree.{CondTree}
use Rattle.hs_tree.specs.declared.method.TestTree.{TestTree}
use Rattle.hs_tree.specs.declared.method.TestKind.{TestKind}
use Rattle.hs_tree.specs.declared.method.TestKind.TheVariants as kind
use Rattle.hs_words.specs.declared.word.Word.{Word}
use Rattle.hs_words.specs.declared.word.Word.TheVariants as word
use Rattle.hs_words.specs.Input.{Input, next_word, next, sees}
use Rattle.hs_words.specs.Grammar.{IsSign, Separated, one, more}
use Rattle.hs_words.proofs.Yields.{seen}
use Rattle.hs_words.proofs.Full.{sees_sign, sees_none, takes, sign_less, separated_full}
use Rattle.hs_read_pure.specs.Grammar.{IsExpr}
use Rattle.hs_read_pure.proofs.Ends.{ends_expr, begins_expr}
use Rattle.hs_read_pure.proofs.ExprFull.{expr_begins, expr_full}
use Rattle.hs_read.specs.Test.{test_relation, comparison, both, condition, Levels, negation, group, kind_by, test_kind, level, levels_of, test}
use Rattle.hs_read.specs.Grammar.{IsCond, AreCases, AreTests, IsTest, IsTestKind}
use Rattle.hs_read.specs.Grammar as grammar
use Rattle.hs_read.proofs.Less.{test_less, tests_less}

-- ---- ends

abbrev ends_both : Word → Bool
ends_both (word.Sign sign.Plus) = false
ends_both (word.Sign sign.Minus) = false
ends_both (word.Sign sign.Star) = false
ends_both (word.Sign sign.AndAnd) = false
ends_both _ = true

abbrev pub ends_cond : Word → Bool
ends_cond (word.Sign sign.Plus) = false
ends_cond (word.Sign sign.Minus) = false
ends_cond (word.Sign sign.Star) = false
ends_cond (word.Sign sign.AndAnd) = false
ends_cond (word.Sign sign.OrOr) = false
ends_cond _ = true

both_ends_expr : (w : Word) → ends_both w ≡ true → ends_expr w ≡ true
both_ends_expr (word.Sign sign.Plus) e = absurd cc
both_ends_expr (word.Sign sign.Minus) e = absurd cc
both_ends_expr (word.Sign sign.Star) e = absurd cc
both_ends_expr w e = refl

cond_ends_both : (w : Word) → ends_cond w ≡ true → ends_both w ≡ true
cond_ends_both (word.Sign sign.Plus) e = absurd cc
cond_ends_both (word.Sign sign.Minus) e = absurd cc
cond_ends_both (word.Sign sign.Star) e = absurd cc
cond_ends_both (word.Sign sign.AndAnd) e = absurd cc
cond_ends_both w e = refl

relation_ends_expr : (w : Word) (r : RelTree) → test_relation w ≡ Some r → ends_expr w ≡ true
relation_ends_expr (word.Sign sign.Plus) r e = absurd cc
relation_ends_expr (word.Sign sign.Minus) r e = absurd cc
relation_ends_expr (word.Sign sign.Star) r e = absurd cc
relation_ends_expr w r e = refl

kind_by_expr : (n : ℕ) (levels : Levels) (w : Word) (i : Input) → begins_expr w ≡ true → kind_by n levels w i ≡ comparison n i
kind_by_expr n levels (word.Sign sign.Bang) i e = absurd cc
kind_by_expr n levels (word.Sign sign.OpenParen) i e = absurd cc
kind_by_expr n levels w i e = refl

-- ---- lists of tests

from_tests : (n : ℕ) (xs : List TestTree) (i j : Input) → AreTests n xs i j → Separated (IsTest n) (word.Sign sign.AndAnd) xs i j
from_tests n _ i j (grammar.last_test h) = one h
from_tests n _ i k (grammar.another_test {xs = xs} {j = j} h is others) = more h is (from_tests n xs (next j) k others)

from_cases : (n : ℕ) (cs : List (List TestTree)) (i j : Input) → AreCases n cs i j → Separated (AreTests n) (word.Sign sign.OrOr) cs i j
from_cases n _ i j (grammar.last_case h) = one h
from_cases n _ i k (grammar.case {cs = cs} {j = j} h is others) = more h is (from_cases n cs (next j) k others)

-- so with this many levels left
abbrev TestFull : ℕ → Type 0
TestFull n = (x : TestTree) (i j : Input) → IsTest n x i j → ends_expr (next_word j) ≡ true → test n i ≡ Ok (x, j)

module _ (n : ℕ) (full : TestFull n) where
  both_of : (xs : List TestTree) (i j : Input) → AreTests n xs i j → ends_both (next_word j) ≡ true → both (test n) i ≡ Ok (xs, j)
  unfolding both
  both_of xs i j h e =
      separated_full (sees sign.AndAnd) ends_expr (word.Sign sign.AndAnd) (sees_sign sign.AndAnd) (test n) (IsTest n) (test_less n) (sign_less sign.AndAnd)
      (λ k h. ap ends_expr (seen sign.AndAnd k h)) full xs i j (from_tests n xs i j h) (sees_none ends_both sign.AndAnd j e refl) (both_ends_expr (next_word j) e)

  cond_of : (c : CondTree) (i j : Input) → IsCond n c i j → ends_cond (next_word j) ≡ true → condition (test n) i ≡ Ok (c, j)
  unfolding condition
  cond_of _ i j (grammar.cond {cs = cs} h) e =
      let read = separated_full (sees sign.OrOr) ends_both (word.Sign sign.OrOr) (sees_sign sign.OrOr) (both (test n)) (AreTests n) (tests_less n) (sign_less sign.OrOr)
      (λ k h. ap ends_both (seen sign.OrOr k h)) both_of cs i j (from_cases n cs i j h) (sees_none ends_cond sign.OrOr j e refl) (cond_ends_both (next_word j) e) in
      rw read refl

-- so at the level below
abbrev Below : ℕ → Type 0
Below zero = Unit {0}
Below (suc n) = TestFull n

comparison_full : (n : ℕ) (r : RelTree) (x y : ExprTree) (i j k : Input) → IsExpr n x i j → test_relation (next_word j) ≡ Some r → IsExpr n y (next j) k
    → ends_expr (next_word k) ≡ true → comparison n i ≡ Ok (kind.Rel r x y, k)
unfolding comparison
comparison_full n r x y i j k is_x is is_y e =
    let left = expr_full n x i j is_x (relation_ends_expr (next_word j) r is) in
    let right = expr_full n y (next j) k is_y e in
    rw (left, is, right) refl

kind_full : (n : ℕ) → Below n → (k : TestKind) (i j : Input) → IsTestKind n k i j → ends_expr (next_word j) ≡ true → test_kind n (levels_of n) i ≡ Ok (k, j)
unfolding test_kind levels_of negation group
kind_full _ below _ i j (grammar.negation {n = n} {x = x} is h) e = let read = below x (next i) j h e in rw (is, read) refl
kind_full _ below _ i _ (grammar.group {n = n} {c = c} {j = j} a h b) e =
    let read = cond_of n below c (next i) j h (ap ends_cond b) in
    let close = takes sign.CloseParen j b in
    rw (a, read, close) refl
kind_full n below _ i k (grammar.comparison {r = r} {x = x} {y = y} {j = j} is_x is is_y) e =
    kind_by_expr n (levels_of n) (next_word i) i (expr_begins n x i j is_x) ∙ comparison_full n r x y i j k is_x is is_y e

level_full : (n : ℕ) → Below n → TestFull n
unfolding level
level_full n below _ i j (grammar.test {k = k} h) e = let read = kind_full n below k i j h e in rw read refl

test_full : (n : ℕ) → TestFull n
test_full zero = level_full zero tt
test_full (suc n) = level_full (suc n) (test_full n)

-- what the grammar has as a condition is read
pub cond_full : (n : ℕ) (c : CondTree) (i j : Input) → IsCond n c i j → ends_cond (next_word j) ≡ true → condition (test n) i ≡ Ok (c, j)
cond_full n = cond_of n (test_full n)
