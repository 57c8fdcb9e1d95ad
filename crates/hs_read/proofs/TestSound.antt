-- What is read as a condition is spelled so by the grammar.
use Rattle.std.proofs.Common.{◌≡◌, ℕ, zero, suc, List, [], ◌∷◌, Option, Some, None, refl}
use Rattle.hs_lex.specs.declared.token.Sign.TheVariants as sign
use Rattle.hs_tree.specs.declared.expr.ExprTree.{ExprTree}
use Rattle.hs_tree.specs.declared.item.RelTree.{RelTree}
use Rattle.hs_tree.specs.declared.method.TestTree.{TestTree}
use Rattle.hs_tree.specs.declared.method.TestKind.{TestKind}
use Rattle.hs_words.specs.declared.word.Word.{Word}
use Rattle.hs_words.specs.declared.word.Word.TheVariants as word
use Rattle.hs_words.specs.Input.{Input, next_word, next, is_sign, sees}
use Rattle.hs_words.specs.Grammar.{IsSign, Separated, one, more}
use Rattle.hs_words.proofs.Yields.{Yields, Accepts, yield, yields_none, ◌▷◌, ◌▸◌, after_sign, seen, separated_accepts}
use Rattle.hs_read_pure.specs.Grammar.{IsExpr}
use Rattle.hs_read_pure.proofs.ExprSound.{expr_accepts}
use Rattle.hs_read.specs.Test.{test_relation, related, comparison, both, condition, negation, group, kind_by, test_kind, level, levels_of, test}
use Rattle.hs_read.specs.Grammar.{IsCond, AreCases, last_case, case, AreTests, last_test, another_test, IsTest, IsTestKind}
use Rattle.hs_read.specs.Grammar as grammar

related_yields : (n : ℕ) (x : ExprTree) (i j : Input) → IsExpr n x i j → (r : Option RelTree) → test_relation (next_word j) ≡ r
    → Yields (related n x r j) (λ k l. IsTestKind n k i l)
related_yields n x i j is_x None e = yields_none
related_yields n x i j is_x (Some r) e = expr_accepts n (next j) ▷ λ y k is_y. yield (grammar.comparison is_x e is_y)

comparison_accepts : (n : ℕ) → Accepts (comparison n) (IsTestKind n)
unfolding comparison
comparison_accepts n i = expr_accepts n i ▷ λ x j is. related_yields n x i j is (test_relation (next_word j)) refl

to_tests : (n : ℕ) (xs : List TestTree) (i j : Input) → Separated (IsTest n) (word.Sign sign.AndAnd) xs i j → AreTests n xs i j
to_tests n _ i j (one r) = last_test r
to_tests n _ i k (more r is others) = another_test r is (to_tests n _ _ k others)

to_cases : (n : ℕ) (cs : List (List TestTree)) (i j : Input) → Separated (AreTests n) (word.Sign sign.OrOr) cs i j → AreCases n cs i j
to_cases n _ i j (one r) = last_case r
to_cases n _ i k (more r is others) = case r is (to_cases n _ _ k others)

module _ (n : ℕ) (accepts : Accepts (test n) (IsTest n)) where
  both_of : Accepts (both (test n)) (AreTests n)
  unfolding both
  both_of i = separated_accepts (sees sign.AndAnd) (word.Sign sign.AndAnd) (seen sign.AndAnd) (test n) (IsTest n) accepts i ▸ λ xs j h. to_tests n xs i j h

  condition_of : Accepts (condition (test n)) (IsCond n)
  unfolding condition
  condition_of i =
      separated_accepts (sees sign.OrOr) (word.Sign sign.OrOr) (seen sign.OrOr) (both (test n)) (AreTests n) both_of i ▷ λ cs j h.
      yield (grammar.cond (to_cases n cs i j h))

-- at the level below
abbrev Below : ℕ → Type 0
Below zero = Unit {0}
Below (suc n) = Accepts (test n) (IsTest n)

negation_yields : (n : ℕ) → Below n → (i : Input) → IsSign sign.Bang i → Yields (negation n (levels_of n) i) (λ k j. IsTestKind n k i j)
unfolding levels_of negation
negation_yields zero below i is = yields_none
negation_yields (suc n) below i is = below (next i) ▷ λ x j h. yield (grammar.negation is h)

group_yields : (n : ℕ) → Below n → (i : Input) → IsSign sign.OpenParen i → Yields (group n (levels_of n) i) (λ k j. IsTestKind n k i j)
unfolding levels_of group
group_yields zero below i is = yields_none
group_yields (suc n) below i is = condition_of n below (next i) ▷ λ c j h. after_sign _ _ (λ o. yield (grammar.group is h o))

kind_at : (n : ℕ) → Below n → (w : Word) (i : Input) → next_word i ≡ w → Yields (kind_by n (levels_of n) w i) (λ k j. IsTestKind n k i j)
kind_at n below (word.Sign sign.Bang) i is = negation_yields n below i is
kind_at n below (word.Sign sign.OpenParen) i is = group_yields n below i is
kind_at n below w i is = comparison_accepts n i

level_accepts : (n : ℕ) → Below n → Accepts (test n) (IsTest n)
unfolding level test_kind
level_accepts n below i = kind_at n below (next_word i) i refl ▷ λ k j h. yield (grammar.test h)

test_accepts : (n : ℕ) → Accepts (test n) (IsTest n)
test_accepts zero = level_accepts zero tt
test_accepts (suc n) = level_accepts (suc n) (test_accepts n)

-- what is read as a condition is spelled so
pub cond_accepts : (n : ℕ) → Accepts (condition (test n)) (IsCond n)
cond_accepts n = condition_of n (test_accepts n)
