use Rattle.std.proofs.Common.{◌≡◌, ◌++◌, drop}
use Rattle.std.specs.String.{string_bytes}
use Rattle.hs_heaptext.specs.Values.{values_text}
use Rattle.hs_heaptext.proofs.writing.push_values.Given as goal

abbrev pub invariant-loop-value : goal.invariant-loop-value
invariant-loop-value l = string_bytes l.out ++ values_text (drop l.value-index l.values) ≡ string_bytes l.initial.out ++ values_text l.values
