use Rattle.std.proofs.Common.{rules, arith}
use Rattle.std.proofs.lemmas.Grind.{common_steps}
use Rattle.hs_words.specs.declared.word.Keyword.TheVariants.{Or}
use Rattle.hs_words.specs.Input.{and_then, pure, repeat, skip, ◌>>◌, sees_key}
use Rattle.hs_read_pure.specs.Formula.{disjunct}
use Rattle.hs_words.proofs.Turns.{one_more}
use Rattle.hs_read_pure.proofs.formulas.formula.Goals as goal

pub loop-turn-preserved : goal.loop-turn-preserved
unfolding repeat
loop-turn-preserved c =
    let e = one_more (λ n. and_then (repeat (sees_key Or) (skip >> disjunct c.args.depth) n c.loop-turn.cases c.loop-turn.tokens) (λ cases. pure (record { cases = cases; at = c.place-at.result }))) _ c.loop-turn._turn c.loop-turn-test.true c.loop-turn.invariant in
    first_of (search rules, grind (arith, common_steps))
