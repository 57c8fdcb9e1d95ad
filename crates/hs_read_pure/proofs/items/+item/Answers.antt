use Rattle.std.proofs.Common.{rules, arith}
use Rattle.std.proofs.lemmas.Grind.{common_steps}
use Rattle.hs_lex.specs.declared.token.Sign.TheVariants.{Amp, Bar}
use Rattle.hs_tree.specs.declared.item.PureTree.{roll-PureTree}
use Rattle.hs_words.specs.Input.{and_then, pure, repeat, skip, ◌>>◌, sees}
use Rattle.hs_read_pure.specs.Item.{conj, item}
use Rattle.hs_words.proofs.Turns.{one_more}
use Rattle.hs_read_pure.proofs.items.+item.Goals as goal

pub conj-loop-turn-preserved : goal.conj-loop-turn-preserved
unfolding repeat
conj-loop-turn-preserved t c =
    let e = one_more (λ n. repeat (sees Amp) (skip >> item c.args.depth) n c.loop-turn.found c.loop-turn.tokens) _ c.loop-turn._turn c.loop-turn-test.true c.loop-turn.invariant in
    first_of (search rules, grind (arith, common_steps))

pub disjunction-loop-turn-preserved : goal.disjunction-loop-turn-preserved
unfolding repeat
disjunction-loop-turn-preserved t c =
    let e = one_more (λ n. and_then (repeat (sees Bar) (skip >> conj (item c.args.depth)) n c.loop-turn.cases c.loop-turn.tokens) (λ cases. pure (roll-PureTree (record { cases = cases; at = c.place-at.result })))) _ c.loop-turn._turn c.loop-turn-test.true c.loop-turn.invariant in
    first_of (search rules, grind (arith, common_steps))
