use Rattle.std.proofs.Common.{rules, arith}
use Rattle.std.proofs.lemmas.Grind.{common_steps}
use Rattle.hs_words.specs.Input.{and_then, pure, comes, repeat}
use Rattle.hs_read.specs.Declare.{begins_item, source_item}
use Rattle.hs_words.proofs.Turns.{one_more}
use Rattle.hs_read.proofs.sources.source.Goals as goal

pub loop-turn-preserved : goal.loop-turn-preserved
unfolding repeat
loop-turn-preserved c =
    let e = one_more (λ n. and_then (repeat (comes begins_item) (source_item c.args.depth) n c.loop-turn.items c.loop-turn.tokens) (λ items. pure (record { items = items }))) _ c.loop-turn._turn c.loop-turn-test.true c.loop-turn.invariant in
    first_of (search rules, grind (arith, common_steps))
