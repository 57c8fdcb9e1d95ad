use Rattle.std.proofs.Common.{◌≡◌, ◌-◌}
use Rattle.hs_words.specs.Input.{comes, repeat}
use Rattle.hs_read.specs.Declare.{begins_type, field, fields}
use Rattle.hs_read.proofs.declarations.fields.Given as goal

abbrev pub invariant-loop-turn : goal.invariant-loop-turn
invariant-loop-turn l = fields l.fn.tokens ≡ repeat (comes begins_type) field (l._turn-end - l._turn) l.found l.tokens
