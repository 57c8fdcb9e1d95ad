use Rattle.hs_core_text.proofs.Shown.{slots_print_as_slots}
use Rattle.hs_core_text.proofs.laws.slots_print_as_slots.Goals as goal

pub returns : goal.returns
returns c = slots_print_as_slots
