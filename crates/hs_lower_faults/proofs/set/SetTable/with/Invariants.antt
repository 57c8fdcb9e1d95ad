use Rattle.std.proofs.Common.{◌≡◌, map}
use Rattle.std.specs.List.{range_with_len}
use Rattle.hs_lower_faults.specs.Setting.{with_slot}
use Rattle.hs_lower_faults.specs.View.{set_of}
use Rattle.hs_lower_faults.proofs.set.SetTable.with.Given as goal

abbrev pub invariant-loop-i : goal.invariant-loop-i
invariant-loop-i l = l.bits ≡ map (with_slot l.k (set_of l.self)) (range_with_len 0 l.i)
