-- What a text states, and its first bad line.
use Rattle.std.specs.Prelude.{◌≡◌, ℕ, suc, ℤ, pos, ◌<ℤ◌, List, [], ◌∷◌, ◌++◌, length, codes}
use Rattle.std.specs.List.{AllByRecursion}
use Rattle.hs_heap.specs.declared.node.HeapNode.{HeapNode}
use Rattle.hs_heap.specs.declared.definitions.NodeDef.{NodeDef}
use Rattle.hs_heap.specs.declared.definitions.Defs.{Defs}
use Rattle.hs_heap.specs.Heap.{Entry, Heap, IsHeap}
use Rattle.hs_heap.specs.Sound.{node_at, NodeFits, HeapFits}
use Rattle.hs_heaptext.specs.Lines.{FirstLine, HasNoLine}
use Rattle.hs_heaptext.specs.Values.{IsSmall, AreSmall, values_text}
use Rattle.hs_heaptext.specs.Text.{name_of, args_text, entry_text, heap_text}
use Rattle.hs_heaptext.specs.declared.error.HeapTextError.{HeapTextError}
use Rattle.hs_heaptext.specs.declared.error.HeapTextError.TheVariants.{Line, Memory}

abbrev pub EntryIsSmall : Entry → Type 0
EntryIsSmall e = IsSmall e.0 × AreSmall e.1.values

-- arguments and a heap that have a text: within 2^126, and each node fits its data type
pub record AreWritable (defs : Defs) (values : List ℤ) (h : Heap) : Type 0 where
  pub args : AreSmall values
  pub heap : IsHeap h
  pub entries : AllByRecursion EntryIsSmall h
  pub fits : HeapFits defs h

-- the text states these arguments and this heap: it is their text
pub record States (defs : Defs) (bytes : List ℕ) (args : List ℤ) (h : Heap) : Type 0 where
  pub writable : AreWritable defs args h
  pub text : bytes ≡ heap_text defs args h

-- ---- the lines

abbrev pub IsArgsLine : List ℕ → Type 0
IsArgsLine line = (args : List ℤ) × AreSmall args × (line ≡ args_text args)

-- a data type's name and a value for each field
pub record StatesFields (def : NodeDef) (text : List ℕ) (xs : List ℤ) : Type 0 where
  pub is : text ≡ def.name ++ values_text xs
  pub small : AreSmall xs
  pub count : length def.fields ≡ length xs

module _ (defs : Defs) where
  -- a node without its location
  pub record StatesNode (text : List ℕ) (n : HeapNode) : Type 0 where
    pub is : text ≡ name_of (node_at defs n.of) ++ values_text n.values
    pub small : AreSmall n.values
    pub fits : NodeFits defs n

  -- the line is that of a node at a location above low
  pub record StatesEntry (low : ℤ) (line : List ℕ) (e : Entry) : Type 0 where
    pub is : line ≡ entry_text defs e
    pub rises : low <ℤ e.0
    pub small : EntryIsSmall e
    pub fits : NodeFits defs e.1

  abbrev pub IsEntryLine : ℤ → List ℕ → Type 0
  IsEntryLine low line = (e : Entry) × StatesEntry low line e

  -- behind so many lines of nodes, which rise from above low, stands something that begins with no further one
  pub data HasBadEntry : ℤ → List ℕ → ℕ → Type 0 where
    here : {low : ℤ} {text : List ℕ} → ¬ (text ≡ []) → HasNoLine (IsEntryLine low) text → HasBadEntry low text 0
    later : {low : ℤ} {text line rest : List ℕ} {k : ℕ} (e : Entry) → FirstLine text line rest → StatesEntry low line e → HasBadEntry e.0 rest k → HasBadEntry low text (suc k)

  -- the line of a number from 1 is the first that is not of its form
  pub data IsBadLine (bytes : List ℕ) : ℕ → Type 0 where
    version : HasNoLine (λ line. line ≡ codes "heap 1") bytes → IsBadLine bytes 1
    arguments : {text : List ℕ} → FirstLine bytes (codes "heap 1") text → HasNoLine IsArgsLine text → IsBadLine bytes 2
    entry : {text line rest : List ℕ} {k : ℕ} → FirstLine bytes (codes "heap 1") text → FirstLine text line rest → IsArgsLine line → HasBadEntry (pos 0) rest k → IsBadLine bytes (suc (suc (suc k)))

-- what an error says, also of the lines of nodes alone
abbrev pub IsAnswer : Defs → List ℕ → HeapTextError → Type 0
IsAnswer defs bytes (Line n) = IsBadLine defs bytes n
IsAnswer defs bytes Memory = Unit {0}

abbrev pub IsEntriesAnswer : Defs → List ℕ → HeapTextError → Type 0
IsEntriesAnswer defs text (Line n) = (k : ℕ) × (n ≡ suc (suc (suc k))) × HasBadEntry defs (pos 0) text k
IsEntriesAnswer defs text Memory = Unit {0}

-- the lines of nodes above low
abbrev pub EntriesFit : Defs → ℤ → Heap → Type 0
EntriesFit defs low [] = Unit {0}
EntriesFit defs low (e ∷ h) = (low <ℤ e.0) × (EntryIsSmall e) × NodeFits defs e.1 × EntriesFit defs e.0 h
