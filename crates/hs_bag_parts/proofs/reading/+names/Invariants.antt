use Rattle.std.proofs.Common.{◌≡◌, drop}
use Rattle.hs_bag_parts.specs.Reading.{all_names}
use Rattle.hs_bag_parts.proofs.reading.+names.Given as goal

abbrev pub invariant-add_all_names-loop-p : goal.invariant-add_all_names-loop-p
invariant-add_all_names-loop-p l = all_names (drop l.p-index l.ps) l.names.items ≡ all_names l.ps l.initial.names.items
