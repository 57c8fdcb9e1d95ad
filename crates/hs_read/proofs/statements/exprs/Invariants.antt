use Rattle.std.proofs.Common.{◌≡◌, ◌-◌}
use Rattle.hs_lex.specs.declared.token.Sign.TheVariants.{Comma}
use Rattle.hs_words.specs.Input.{repeat, skip, ◌>>◌, sees}
use Rattle.hs_read_pure.specs.Expr.{expr}
use Rattle.hs_read.specs.Statement.{exprs}
use Rattle.hs_read.proofs.statements.exprs.Given as goal

abbrev pub invariant-loop-turn : goal.invariant-loop-turn
invariant-loop-turn l = exprs l.depth l.fn.tokens ≡ repeat (sees Comma) (skip >> expr l.depth) (l._turn-end - l._turn) l.found l.tokens
