-- The parsers that are left, by how many levels are.
use Rattle.std.proofs.Common.{◌≡◌, ℕ, zero, suc, ◌+◌, ◌-◌, ◌<◌, List, [], ◌∷◌, Ok, Err, refl, ap, arith}
use Rattle.hs_words.specs.declared.error.ReadError.TheVariants.{TooDeep}
use Rattle.hs_words.specs.Input.{Input, place, next, opening}
use Rattle.hs_read_pure.specs.Expr.{level, levels_of}
use Rattle.hs_read_pure.specs.Item as items

pub levels_first : (depth left : ℕ) → left + 1 ≡ depth → levels_of depth ≡ level (levels_of left) ∷ levels_of left
unfolding levels_of
levels_first zero left e = absurd (omega arith)
levels_first (suc depth) left e = ap (λ n. level (levels_of n) ∷ levels_of n) (omega arith)

pub opening_none : (depth : ℕ) (i : Input) → depth ≡ 0 → opening (levels_of depth) i ≡ Err (TooDeep (place i))
unfolding levels_of
opening_none zero i none = refl
opening_none (suc depth) i none = absurd (omega arith)

pub opening_first : (depth : ℕ) (i : Input) → 0 < depth → opening (levels_of depth) i ≡ Ok (tt, next i)
unfolding levels_of
opening_first zero i some = absurd (omega arith)
opening_first (suc depth) i some = refl

pub item_levels_first : (depth left : ℕ) → left + 1 ≡ depth → items.levels_of depth ≡ items.level left (items.levels_of left) ∷ items.levels_of left
unfolding items.levels_of
item_levels_first zero left e = absurd (omega arith)
item_levels_first (suc depth) left e = ap (λ n. items.level n (items.levels_of n) ∷ items.levels_of n) (omega arith)

pub item_opening_none : (depth : ℕ) (i : Input) → depth ≡ 0 → opening (items.levels_of depth) i ≡ Err (TooDeep (place i))
unfolding items.levels_of
item_opening_none zero i none = refl
item_opening_none (suc depth) i none = absurd (omega arith)

pub item_opening_first : (depth : ℕ) (i : Input) → 0 < depth → opening (items.levels_of depth) i ≡ Ok (tt, next i)
unfolding items.levels_of
item_opening_first zero i some = absurd (omega arith)
item_opening_first (suc depth) i some = refl
