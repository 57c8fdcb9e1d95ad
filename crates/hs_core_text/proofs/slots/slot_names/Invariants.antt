use Rattle.std.proofs.Common.{◌≡◌, ◌++◌, ◌-◌, suc}
use Rattle.hs_core_text.specs.Slots.{names_from}
use Rattle.hs_core_text.proofs.slots.slot_names.Given as goal

abbrev pub invariant-loop-k : goal.invariant-loop-k
invariant-loop-k l = l.list ++ names_from (suc l.k) (l.count - l.k) ≡ names_from 1 l.count
