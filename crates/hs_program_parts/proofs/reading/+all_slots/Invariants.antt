use Rattle.std.proofs.Common.{◌≡◌, take, true, map}
use Rattle.std.specs.List.{list_all}
use Rattle.hs_program_parts.specs.Reading.{all_slots}
use Rattle.hs_program_parts.proofs.reading.+all_slots.Given as goal

abbrev pub invariant-each_slots-loop-p : goal.invariant-each_slots-loop-p
invariant-each_slots-loop-p l = list_all (λ b. b) (map (all_slots l.held) (take l.p-index l.ps)) ≡ true
