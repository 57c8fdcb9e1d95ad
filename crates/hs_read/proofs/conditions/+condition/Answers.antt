use Rattle.std.proofs.Common.{rules, arith}
use Rattle.std.proofs.lemmas.Grind.{common_steps}
use Rattle.hs_lex.specs.declared.token.Sign.TheVariants.{AndAnd, OrOr}
use Rattle.hs_tree.specs.declared.method.CondTree.{roll-CondTree}
use Rattle.hs_words.specs.Input.{and_then, pure, repeat, skip, ◌>>◌, sees}
use Rattle.hs_read.specs.Test.{both, test}
use Rattle.hs_words.proofs.Turns.{one_more}
use Rattle.hs_read.proofs.conditions.+condition.Goals as goal

pub both-loop-turn-preserved : goal.both-loop-turn-preserved
unfolding repeat
both-loop-turn-preserved t c =
    let e = one_more (λ n. repeat (sees AndAnd) (skip >> test c.args.depth) n c.loop-turn.found c.loop-turn.tokens) _ c.loop-turn._turn c.loop-turn-test.true c.loop-turn.invariant in
    first_of (search rules, grind (arith, common_steps))

pub condition-loop-turn-preserved : goal.condition-loop-turn-preserved
unfolding repeat
condition-loop-turn-preserved t c =
    let e = one_more (λ n. and_then (repeat (sees OrOr) (skip >> both (test c.args.depth)) n c.loop-turn.cases c.loop-turn.tokens) (λ cases. pure (roll-CondTree (record { cases = cases; at = c.place-at.result })))) _ c.loop-turn._turn c.loop-turn-test.true c.loop-turn.invariant in
    first_of (search rules, grind (arith, common_steps))
