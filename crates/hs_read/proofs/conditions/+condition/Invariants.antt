use Rattle.std.proofs.Common.{◌≡◌, ◌+◌, ◌-◌, ◌*◌}
use Rattle.hs_lex.specs.declared.token.Sign.TheVariants.{AndAnd, OrOr}
use Rattle.hs_tree.specs.declared.method.CondTree.{roll-CondTree}
use Rattle.hs_words.specs.Input.{and_then, pure, repeat, skip, ◌>>◌, sees}
use Rattle.hs_read.specs.Test.{both, condition, test}
use Rattle.hs_read.proofs.conditions.+condition.Given as goal

abbrev pub decreases-condition : goal.decreases-condition
decreases-condition l = 8 * l.depth + 4

abbrev pub decreases-both : goal.decreases-both
decreases-both l = 8 * l.depth + 3

abbrev pub decreases-test : goal.decreases-test
decreases-test l = 8 * l.depth + 2

abbrev pub decreases-test_kind : goal.decreases-test_kind
decreases-test_kind l = 8 * l.depth + 1

abbrev pub decreases-negation : goal.decreases-negation
decreases-negation l = 8 * l.depth

abbrev pub decreases-group : goal.decreases-group
decreases-group l = 8 * l.depth

abbrev pub invariant-both-loop-turn : goal.invariant-both-loop-turn
invariant-both-loop-turn l = both (test l.depth) l.fn.tokens ≡ repeat (sees AndAnd) (skip >> test l.depth) (l._turn-end - l._turn) l.found l.tokens

abbrev pub invariant-condition-loop-turn : goal.invariant-condition-loop-turn
invariant-condition-loop-turn l =
    condition (test l.depth) l.fn.tokens ≡ and_then (repeat (sees OrOr) (skip >> both (test l.depth)) (l._turn-end - l._turn) l.cases l.tokens) (λ cases. pure (roll-CondTree (record { cases = cases; at = l.at })))
