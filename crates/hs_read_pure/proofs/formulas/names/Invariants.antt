use Rattle.std.proofs.Common.{◌≡◌, ◌-◌}
use Rattle.hs_lex.specs.declared.token.Sign.TheVariants.{Comma}
use Rattle.hs_words.specs.Input.{repeat, skip, ◌>>◌, sees}
use Rattle.hs_read_pure.specs.Expr.{name}
use Rattle.hs_read_pure.specs.Formula.{names}
use Rattle.hs_read_pure.proofs.formulas.names.Given as goal

abbrev pub invariant-loop-turn : goal.invariant-loop-turn
invariant-loop-turn l = names l.fn.tokens ≡ repeat (sees Comma) (skip >> name) (l._turn-end - l._turn) l.found l.tokens
