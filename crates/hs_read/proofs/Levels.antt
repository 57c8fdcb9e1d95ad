-- The parsers that are left, by how many levels are.
use Rattle.std.proofs.Common.{◌≡◌, ℕ, zero, suc, ◌+◌, ◌<◌, ◌∷◌, Ok, Err, refl, ap, arith}
use Rattle.hs_words.specs.declared.error.ReadError.TheVariants.{TooDeep}
use Rattle.hs_words.specs.Input.{Input, place, next, opening}
use Rattle.hs_read.specs.Test as tests
use Rattle.hs_read.specs.Statement as statements

pub test_levels_first : (depth left : ℕ) → left + 1 ≡ depth → tests.levels_of depth ≡ tests.level left (tests.levels_of left) ∷ tests.levels_of left
unfolding tests.levels_of
test_levels_first zero left e = absurd (omega arith)
test_levels_first (suc depth) left e = ap (λ n. tests.level n (tests.levels_of n) ∷ tests.levels_of n) (omega arith)

pub test_opening_none : (depth : ℕ) (i : Input) → depth ≡ 0 → opening (tests.levels_of depth) i ≡ Err (TooDeep (place i))
unfolding tests.levels_of
test_opening_none zero i none = refl
test_opening_none (suc depth) i none = absurd (omega arith)

pub test_opening_first : (depth : ℕ) (i : Input) → 0 < depth → opening (tests.levels_of depth) i ≡ Ok (tt, next i)
unfolding tests.levels_of
test_opening_first zero i some = absurd (omega arith)
test_opening_first (suc depth) i some = refl

pub statement_levels_first : (depth left : ℕ) → left + 1 ≡ depth
    → statements.levels_of depth ≡ statements.level left (statements.levels_of left) ∷ statements.levels_of left
unfolding statements.levels_of
statement_levels_first zero left e = absurd (omega arith)
statement_levels_first (suc depth) left e = ap (λ n. statements.level n (statements.levels_of n) ∷ statements.levels_of n) (omega arith)

pub statement_opening_none : (depth : ℕ) (i : Input) → depth ≡ 0 → opening (statements.levels_of depth) i ≡ Err (TooDeep (place i))
unfolding statements.levels_of
statement_opening_none zero i none = refl
statement_opening_none (suc depth) i none = absurd (omega arith)

pub statement_opening_first : (depth : ℕ) (i : Input) → 0 < depth → opening (statements.levels_of depth) i ≡ Ok (tt, next i)
unfolding statements.levels_of
statement_opening_first zero i some = absurd (omega arith)
statement_opening_first (suc depth) i some = refl
