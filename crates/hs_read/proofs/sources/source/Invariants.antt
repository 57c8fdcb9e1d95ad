use Rattle.std.proofs.Common.{◌≡◌, ◌-◌}
use Rattle.hs_words.specs.Input.{and_then, pure, comes, repeat}
use Rattle.hs_read.specs.Declare.{begins_item, source, source_item}
use Rattle.hs_read.proofs.sources.source.Given as goal

abbrev pub invariant-loop-turn : goal.invariant-loop-turn
invariant-loop-turn l = source l.depth l.fn.tokens ≡ and_then (repeat (comes begins_item) (source_item l.depth) (l._turn-end - l._turn) l.items l.tokens) (λ items. pure (record { items = items }))
