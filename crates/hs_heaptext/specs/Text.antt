-- The text of arguments and a heap.
use Rattle.std.specs.Prelude.{ℕ, ℤ, List, [], ◌∷◌, ◌++◌, codes, Option, Some, None}
use Rattle.std.specs.List.{flat_map}
use Rattle.std.specs.Fmt.{signed_decimal}
use Rattle.hs_heap.specs.declared.definitions.NodeDef.{NodeDef}
use Rattle.hs_heap.specs.declared.definitions.Defs.{Defs}
use Rattle.hs_heap.specs.Heap.{Entry, Heap}
use Rattle.hs_heap.specs.Sound.{node_at}
use Rattle.hs_heaptext.specs.Values.{values_text}

-- a text and the end of its line
abbrev pub ended : List ℕ → List ℕ
ended text = text ++ 10 ∷ []

abbrev pub name_of : Option NodeDef → List ℕ
name_of None = []
name_of (Some d) = d.name

abbrev pub args_text : List ℤ → List ℕ
args_text args = codes "args" ++ values_text args

module _ (defs : Defs) where
  -- a location, the data type at it and the values of its fields
  abbrev pub entry_text : Entry → List ℕ
  entry_text e = signed_decimal e.0 ++ 32 ∷ (name_of (node_at defs e.1.of) ++ values_text e.1.values)

  -- a line for each node
  abbrev pub entries_text : Heap → List ℕ
  entries_text h = flat_map (λ e. ended (entry_text e)) h

  abbrev pub heap_text : List ℤ → Heap → List ℕ
  heap_text args h = ended (codes "heap 1") ++ (ended (args_text args) ++ entries_text h)
