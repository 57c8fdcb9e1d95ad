-- The normal form is well formed.
use Rattle.std.specs.Prelude.{◌≡◌, ◌≤◌, List, [], length, map}
use Rattle.std.specs.List.{All}
use Rattle.hs_tree.specs.declared.expr.ExprTree.{ExprTree}
use Rattle.hs_tree.specs.declared.item.ItemTree.{ItemTree}
use Rattle.hs_tree.specs.declared.formula.DisjunctTree.{DisjunctTree}
use Rattle.hs_tree.specs.declared.formula.FormulaTree.{FormulaTree}
use Rattle.hs_pure.specs.declared.lin.Lin.{Lin}
use Rattle.hs_pure.specs.declared.pure.Pure.{Pure}
use Rattle.hs_pure.specs.Occurs.{in_lin, is_free}
use Rattle.hs_pure.specs.Sums.{LinIsLight, LinIsOrdered}
use Rattle.hs_heap.specs.declared.formula.Disjunct.{Disjunct}
use Rattle.hs_heap.specs.declared.formula.Formula.{Formula}
use Rattle.hs_heap.specs.declared.definitions.Defs.{Defs}
use Rattle.hs_heap.specs.Sound.{AreAmong, PureFits, DisjunctFits, FormulaFits, IsShort}
use Rattle.hs_numbering.specs.declared.numbering.Numbering.{Numbering}
use Rattle.hs_numbering.specs.Numbering.{next}
use Rattle.hs_norm_formula.specs.declared.table.Entry.{Entry}
use Rattle.hs_norm_formula.specs.Expr.{number}
use Rattle.hs_norm_formula.specs.Item.{item, conjunction}
use Rattle.hs_norm_formula.specs.Formula.{disjunct, formula}
use Rattle.hs_formula_fits.specs.Fits.{free_vars, IsSettled, Extends, EntriesFit, BindsNew, DisjunctIsNew}

-- a sum that was read at n and left m
pub record SumFits (n m : Numbering) (a : Lin) : Type 0 where
  pub settled : IsSettled m
  pub extends : Extends n m
  pub light : LinIsLight a
  pub ordered : LinIsOrdered a
  pub among : AreAmong (λ v. in_lin v a) (free_vars m)

-- a pure formula that was read at n and left m
pub record ConjunctionFits (n m : Numbering) (p : Pure) : Type 0 where
  pub settled : IsSettled m
  pub extends : Extends n m
  pub fits : PureFits (free_vars m) (next m) p
  pub among : AreAmong (λ v. is_free v p) (free_vars m)
  pub new : BindsNew (length n.names) p

-- a disjunct that was read at n and left m
pub record CaseFits (defs : Defs) (n m : Numbering) (d : Disjunct) : Type 0 where
  pub settled : IsSettled m
  pub extends : Extends n m
  pub fits : DisjunctFits defs (free_vars m) (next m) d
  pub short : IsShort d
  pub new : DisjunctIsNew (length n.names) d

-- a formula that was read at n from so many disjuncts and left m
pub record CasesFit (defs : Defs) (n m : Numbering) (trees : List DisjunctTree) (f : Formula) : Type 0 where
  pub settled : IsSettled m
  pub extends : Extends n m
  pub fits : FormulaFits defs (free_vars m) (next m) f
  pub short : All IsShort f.cases
  pub new : All (DisjunctIsNew (length n.names)) f.cases
  pub few : length f.cases ≤ 16
  pub as_many : length f.cases ≡ length trees

-- each expression, read as a number without a fault
abbrev pub NumbersFit : Type 0
NumbersFit = (e : ExprTree) (n : Numbering) → IsSettled n → (number e n).1.faults ≡ [] → SumFits n (number e n).1 (number e n).0

-- each list of items, joined without a fault
abbrev pub ConjunctionsFit : Type 0
ConjunctionsFit = (is : List ItemTree) (n : Numbering) → IsSettled n → (conjunction (map item is) n).1.faults ≡ [] →
    ConjunctionFits n (conjunction (map item is) n).1 (conjunction (map item is) n).0

-- each disjunct over a table that fits, read without a fault
abbrev pub DisjunctsFit : Type 0
DisjunctsFit = (defs : Defs) (entries : List Entry) → EntriesFit defs entries → (d : DisjunctTree) (n : Numbering) → IsSettled n → (disjunct entries d n).1.faults ≡ [] →
    CaseFits defs n (disjunct entries d n).1 (disjunct entries d n).0

-- each formula over a table that fits, read without a fault
abbrev pub FormulasFit : Type 0
FormulasFit = (defs : Defs) (entries : List Entry) → EntriesFit defs entries → (f : FormulaTree) (n : Numbering) → IsSettled n → (formula entries f n).1.faults ≡ [] →
    CasesFit defs n (formula entries f n).1 f.cases (formula entries f n).0
