use Rattle.std.proofs.Common.{◌≡◌, take}
use Rattle.std.specs.List.{filter_map}
use Rattle.hs_declared.specs.Declaring.{method_name}
use Rattle.hs_declared.proofs.declared.method_names.Given as goal

abbrev pub invariant-loop-item : goal.invariant-loop-item
invariant-loop-item l = l.names ≡ filter_map method_name (take l.item-index l.items)
