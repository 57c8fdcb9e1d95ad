use Rattle.std.proofs.Common.{◌≡◌, ◌-◌}
use Rattle.hs_lex.specs.declared.token.Sign.TheVariants.{Comma}
use Rattle.hs_words.specs.Input.{repeat, skip, ◌>>◌, sees}
use Rattle.hs_read.specs.Declare.{param, param_list}
use Rattle.hs_read.proofs.declarations.param_list.Given as goal

abbrev pub invariant-loop-turn : goal.invariant-loop-turn
invariant-loop-turn l = param_list l.fn.tokens ≡ repeat (sees Comma) (skip >> param) (l._turn-end - l._turn) l.found l.tokens
