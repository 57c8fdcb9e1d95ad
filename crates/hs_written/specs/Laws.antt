-- What is written is read.
use Rattle.std.specs.Prelude.{◌≡◌, Ok}
use Rattle.hs_tree.specs.declared.formula.FormulaTree.{FormulaTree}
use Rattle.hs_heap.specs.declared.formula.Formula.{Formula}
use Rattle.hs_heap.specs.declared.definitions.Defs.{Defs}
use Rattle.hs_norm_formula.specs.Numbered.{numbered}
use Rattle.hs_written.specs.Writable.{IsWritable}
use Rattle.hs_written.specs.Written.{Writes}

-- a tree that writes a writable formula is read as that formula
abbrev pub WrittenIsRead : Type 0
WrittenIsRead = (defs : Defs) (f : Formula) (tree : FormulaTree) → IsWritable defs f → Writes defs f tree → numbered defs tree ≡ Ok f
