-- The set of variables that two tables hold.
use Rattle.std.specs.Prelude.{Bool, false, if◌then◌else◌, List, [], ◌∷◌, Option, Some, None, slice_index_or}
use Rattle.hs_pure.specs.declared.var.Var.{Var}
use Rattle.hs_heap.specs.declared.formula.Atom.{Atom}
use Rattle.hs_wf.specs.declared.marks.Marks.{Marks}

-- whether a variable is marked
abbrev pub is_marked : Marks → Var → Bool
is_marked m v = if v.bag then slice_index_or m.bags.items v.number false else slice_index_or m.numbers.items v.number false

-- the first root that is not marked
abbrev pub first_unmarked : Marks → List Atom → Option Var
first_unmarked m [] = None
first_unmarked m (a ∷ rest) = if is_marked m a.root then first_unmarked m rest else Some a.root
