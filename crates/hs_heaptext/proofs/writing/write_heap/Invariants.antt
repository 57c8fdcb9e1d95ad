use Rattle.std.proofs.Common.{◌≡◌, ◌++◌}
use Rattle.std.specs.String.{string_bytes}
use Rattle.hs_heaptext.specs.Text.{entries_text, heap_text}
use Rattle.hs_heaptext.proofs.writing.write_heap.Given as goal

abbrev pub invariant-loop-place : goal.invariant-loop-place
invariant-loop-place l = string_bytes l.out ++ entries_text l.defs l.place-iterator ≡ heap_text l.defs l.args l.heap
