use Rattle.std.proofs.Common.{◌≡◌, ◌-◌}
use Rattle.hs_words.specs.declared.word.Keyword.TheVariants.{Or}
use Rattle.hs_words.specs.Input.{and_then, pure, repeat, skip, ◌>>◌, sees_key}
use Rattle.hs_read_pure.specs.Formula.{disjunct, formula}
use Rattle.hs_read_pure.proofs.formulas.formula.Given as goal

abbrev pub invariant-loop-turn : goal.invariant-loop-turn
invariant-loop-turn l =
    formula l.depth l.fn.tokens ≡ and_then (repeat (sees_key Or) (skip >> disjunct l.depth) (l._turn-end - l._turn) l.cases l.tokens) (λ cases. pure (record { cases = cases; at = l.at }))
