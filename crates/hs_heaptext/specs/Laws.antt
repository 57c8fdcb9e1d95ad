-- The laws of heap texts.
use Rattle.std.specs.Prelude.{◌≡◌, ℕ, ℤ, List, Some}
use Rattle.hs_heap.specs.declared.definitions.NodeDef.{NodeDef}
use Rattle.hs_heap.specs.declared.definitions.Defs.{Defs}
use Rattle.hs_heap.specs.Heap.{Heap}
use Rattle.hs_heap.specs.Sound.{node_at}
use Rattle.hs_heaptext.specs.Lines.{Lacks}
use Rattle.hs_heaptext.specs.Reading.{States, IsBadLine}

-- the names of the data types hold neither a blank nor a line feed
abbrev pub NamesAreWords : Defs → Type 0
NamesAreWords defs = (k : ℕ) (d : NodeDef) → node_at defs k ≡ Some d → Lacks 32 d.name × Lacks 10 d.name

-- and they are pairwise different
abbrev pub NamesDiffer : Defs → Type 0
NamesDiffer defs = (j k : ℕ) (a b : NodeDef) → node_at defs j ≡ Some a → node_at defs k ≡ Some b → a.name ≡ b.name → j ≡ k

-- a text states at most one list of arguments and one heap
abbrev pub TextsStateOnce : Type 0
TextsStateOnce = (defs : Defs) (bytes : List ℕ) (args others : List ℤ) (h k : Heap) → NamesAreWords defs → NamesDiffer defs
    → States defs bytes args h → States defs bytes others k → (args ≡ others) × (h ≡ k)

-- what states arguments and a heap has no bad line
abbrev pub HeapTextsHaveNoBadLine : Type 0
HeapTextsHaveNoBadLine = (defs : Defs) (bytes : List ℕ) (args : List ℤ) (h : Heap) (n : ℕ) → NamesAreWords defs
    → States defs bytes args h → ¬ (IsBadLine defs bytes n)

-- a text has at most one first bad line
abbrev pub BadLinesAreUnique : Type 0
BadLinesAreUnique = (defs : Defs) (bytes : List ℕ) (m n : ℕ) → IsBadLine defs bytes m → IsBadLine defs bytes n → m ≡ n
