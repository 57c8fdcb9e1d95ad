use Rattle.std.proofs.Common.{◌≡◌, ◌-◌}
use Rattle.hs_words.specs.declared.word.Keyword.TheVariants.{Requires}
use Rattle.hs_words.specs.Input.{repeat, sees_key}
use Rattle.hs_read.specs.Declare.{pair, pairs}
use Rattle.hs_read.proofs.declarations.pairs.Given as goal

abbrev pub invariant-loop-turn : goal.invariant-loop-turn
invariant-loop-turn l = pairs l.depth l.fn.tokens ≡ repeat (sees_key Requires) (pair l.depth) (l._turn-end - l._turn) l.found l.tokens
