use Rattle.std.proofs.Common.{rules, arith}
use Rattle.std.proofs.lemmas.Grind.{common_steps}
use Rattle.hs_words.specs.declared.word.Keyword.TheVariants.{Requires}
use Rattle.hs_words.specs.Input.{repeat, sees_key}
use Rattle.hs_read.specs.Declare.{pair}
use Rattle.hs_words.proofs.Turns.{one_more}
use Rattle.hs_read.proofs.declarations.pairs.Goals as goal

pub loop-turn-preserved : goal.loop-turn-preserved
unfolding repeat
loop-turn-preserved c =
    let e = one_more (λ n. repeat (sees_key Requires) (pair c.args.depth) n c.loop-turn.found c.loop-turn.tokens) _ c.loop-turn._turn c.loop-turn-test.true c.loop-turn.invariant in
    first_of (search rules, grind (arith, common_steps))
