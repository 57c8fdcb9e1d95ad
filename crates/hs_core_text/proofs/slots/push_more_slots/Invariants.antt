use Rattle.std.proofs.Common.{◌≡◌, ◌++◌, drop}
use Rattle.std.specs.Prelude.{codes}
use Rattle.std.specs.String.{string_bytes}
use Rattle.hs_print.specs.Lists.{each_after}
use Rattle.hs_core_text.specs.Slots.{slot_text}
use Rattle.hs_core_text.proofs.slots.push_more_slots.Given as goal

abbrev pub invariant-loop-slot : goal.invariant-loop-slot
invariant-loop-slot l =
    string_bytes l.out ++ each_after (codes ", ") slot_text (drop l.slot-index l.slots)
    ≡ string_bytes l.initial.out ++ each_after (codes ", ") slot_text l.slots
