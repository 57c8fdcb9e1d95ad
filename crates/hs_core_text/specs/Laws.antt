-- The law of slots.
use Rattle.std.specs.Prelude.{◌≡◌, ℕ, ◌<◌, ◌≤◌, ◌^◌, false, Some}
use Rattle.hs_print.specs.Variable.{variable_text}
use Rattle.hs_core_text.specs.Slots.{slot_text, slot_names}

-- the variable of a slot prints as that slot
abbrev pub SlotsPrintAsSlots : Type 0
SlotsPrintAsSlots = (n k : ℕ) → n < 2 ^ 32 → 1 ≤ k → k ≤ n → variable_text (Some (slot_names n)) (record { number = k; bag = false }) ≡ slot_text k
