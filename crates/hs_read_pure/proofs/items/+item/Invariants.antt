use Rattle.std.proofs.Common.{◌≡◌, ◌+◌, ◌-◌, ◌*◌}
use Rattle.hs_lex.specs.declared.token.Sign.TheVariants.{Amp, Bar}
use Rattle.hs_tree.specs.declared.item.PureTree.{roll-PureTree}
use Rattle.hs_words.specs.Input.{and_then, pure, repeat, skip, ◌>>◌, sees}
use Rattle.hs_read_pure.specs.Item.{conj, disjunction, item}
use Rattle.hs_read_pure.proofs.items.+item.Given as goal

abbrev pub decreases-binder : goal.decreases-binder
decreases-binder l = 8 * l.depth + 6

abbrev pub decreases-closed : goal.decreases-closed
decreases-closed l = 8 * l.depth + 5

abbrev pub decreases-disjunction : goal.decreases-disjunction
decreases-disjunction l = 8 * l.depth + 4

abbrev pub decreases-conj : goal.decreases-conj
decreases-conj l = 8 * l.depth + 3

abbrev pub decreases-item : goal.decreases-item
decreases-item l = 8 * l.depth + 2

abbrev pub decreases-item_kind : goal.decreases-item_kind
decreases-item_kind l = 8 * l.depth + 1

abbrev pub decreases-negation : goal.decreases-negation
decreases-negation l = 8 * l.depth

abbrev pub decreases-group : goal.decreases-group
decreases-group l = 8 * l.depth

abbrev pub decreases-all : goal.decreases-all
decreases-all l = 8 * l.depth

abbrev pub invariant-conj-loop-turn : goal.invariant-conj-loop-turn
invariant-conj-loop-turn l = conj (item l.depth) l.fn.tokens ≡ repeat (sees Amp) (skip >> item l.depth) (l._turn-end - l._turn) l.found l.tokens

abbrev pub invariant-disjunction-loop-turn : goal.invariant-disjunction-loop-turn
invariant-disjunction-loop-turn l =
    disjunction (item l.depth) l.fn.tokens ≡ and_then (repeat (sees Bar) (skip >> conj (item l.depth)) (l._turn-end - l._turn) l.cases l.tokens) (λ cases. pure (roll-PureTree (record { cases = cases; at = l.at })))
