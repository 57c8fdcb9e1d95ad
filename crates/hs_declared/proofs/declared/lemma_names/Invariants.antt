use Rattle.std.proofs.Common.{◌≡◌, take}
use Rattle.std.specs.List.{filter_map}
use Rattle.hs_declared.specs.Declaring.{lemma_name}
use Rattle.hs_declared.proofs.declared.lemma_names.Given as goal

abbrev pub invariant-loop-item : goal.invariant-loop-item
invariant-loop-item l = l.names ≡ filter_map lemma_name (take l.item-index l.items)
