-- What the code keeps while it goes through a block.
use Rattle.std.specs.Prelude.{slice_index_or}
use Rattle.hs_lower_faults.specs.declared.set.SetTable.{SetTable}
use Rattle.hs_lower_faults.specs.declared.setting.Run.{Run}
use Rattle.hs_lower_faults.specs.Setting.{SetSlots, State}

-- a list of slots from 0, and what holds of all others
abbrev pub set_of : SetTable → SetSlots
set_of t k = slice_index_or t.bits k t.rest

abbrev pub state_of : Run → State
state_of r = record { found = r.found; set = set_of r.set; ends = r.ends }
