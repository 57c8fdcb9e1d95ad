use Rattle.std.proofs.Common.{◌≡◌, ◌-◌}
use Rattle.hs_words.specs.Input.{comes, repeat}
use Rattle.hs_read_pure.specs.Expr.{parts, is_signed, signed_part}
use Rattle.hs_read_pure.proofs.expressions.parts.Given as goal

abbrev pub invariant-loop-turn : goal.invariant-loop-turn
invariant-loop-turn l = parts l.fn.tokens ≡ repeat (comes is_signed) signed_part (l._turn-end - l._turn) l.found l.tokens
