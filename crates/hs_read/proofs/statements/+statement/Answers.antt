use Rattle.std.proofs.Common.{rules, arith}
use Rattle.std.proofs.lemmas.Grind.{common_steps}
use Rattle.hs_words.specs.Input.{comes, repeat}
use Rattle.hs_read.specs.Statement.{begins_statement, statement}
use Rattle.hs_words.proofs.Turns.{one_more}
use Rattle.hs_read.proofs.statements.+statement.Goals as goal

pub statements-loop-turn-preserved : goal.statements-loop-turn-preserved
unfolding repeat
statements-loop-turn-preserved t c =
    let e = one_more (λ n. repeat (comes begins_statement) (statement c.args.depth) n c.loop-turn.found c.loop-turn.tokens) _ c.loop-turn._turn c.loop-turn-test.true c.loop-turn.invariant in
    first_of (search rules, grind (arith, common_steps))
