-- What the layers above use of the normal form.
use Rattle.std.specs.Prelude.{◌≡◌, ◌≤◌, ◌^◌, true, false, List, [], ◌∷◌, length, map, Option, Some, None}
use Rattle.std.specs.List.{All, flat_map}
use Rattle.hs_tree.specs.declared.ident.Ident.{Ident}
use Rattle.hs_tree.specs.declared.expr.ExprTree.{ExprTree}
use Rattle.hs_tree.specs.declared.item.ItemTree.{ItemTree}
use Rattle.hs_tree.specs.declared.formula.DisjunctTree.{DisjunctTree}
use Rattle.hs_tree.specs.declared.formula.FormulaTree.{FormulaTree}
use Rattle.hs_pure.specs.declared.var.Var.{Var}
use Rattle.hs_pure.specs.declared.lin.Lin.{Lin}
use Rattle.hs_pure.specs.declared.pure.Pure.{Pure}
use Rattle.hs_pure.specs.declared.pure.Pure.TheVariants as pure_of
use Rattle.hs_pure.specs.Sums.{LinIsLight, LinIsOrdered}
use Rattle.hs_heap.specs.WellFormed.{is_and}
use Rattle.hs_numbering.specs.declared.numbering.Numbering.{Numbering}
use Rattle.hs_numbering.specs.Numbering.{Builder, resolve, bind}
use Rattle.hs_norm_formula.specs.declared.sum.Term.{Term}
use Rattle.hs_norm_formula.specs.declared.table.Entry.{Entry}
use Rattle.hs_norm_formula.specs.Sum.{weight, added}
use Rattle.hs_norm_formula.specs.Expr.{number}
use Rattle.hs_norm_formula.specs.Item.{item, conjunction}
use Rattle.hs_norm_formula.specs.Splice.{conjuncts}
use Rattle.hs_norm_formula.specs.Formula.{disjunct, formula}

-- the conjuncts of an "and" are those of its members, any other formula is its only one, and none is an "and"
pub record ConjunctsAreSpliced : Type 0 where
  pub is_one : (ps : List Pure) → is_and (pure_of.And ps) ≡ true
  pub of_and : (ps : List Pure) → conjuncts (pure_of.And ps) ≡ flat_map conjuncts ps
  pub of_other : (p : Pure) → is_and p ≡ false → conjuncts p ≡ p ∷ []
  pub none_left : (p : Pure) → All (λ q. is_and q ≡ false) (conjuncts p)

-- where the numbers of a sum are light together, no number on the way is too large, and the sum is light
abbrev pub LightIsKept : Type 0
LightIsKept = (ts : List Term) → weight ts ≤ 2 ^ 126 → (a : Lin) × (added ts ≡ Some a) × LinIsLight a

-- the variable, where there is one, is of a number
abbrev pub IsNumber : Option Var → Type 0
IsNumber None = Unit {0}
IsNumber (Some v) = v.bag ≡ false

-- sums have their variables by rising number, without a coefficient 0
abbrev pub SumIsOrdered : Type 0
SumIsOrdered = (ts : List Term) (a : Lin) → All (λ t. IsNumber t.var) ts → added ts ≡ Some a → LinIsOrdered a

-- at most 1000 numbers are given
abbrev pub AreFew : Numbering → Type 0
AreFew n = length n.names ≤ 1000

abbrev pub KeepsFew : {A : Type 0} → Builder A → Type 0
KeepsFew p = (n : Numbering) → AreFew n → AreFew (p n).1

-- no part of a source gives more
pub record NamesStayFew : Type 0 where
  pub names : (x : Ident) → KeepsFew (resolve x)
  pub binders : (x : Ident) → KeepsFew (bind x)
  pub numbers : (e : ExprTree) → KeepsFew (number e)
  pub conjunctions : (is : List ItemTree) → KeepsFew (conjunction (map item is))
  pub disjuncts : (entries : List Entry) (d : DisjunctTree) → KeepsFew (disjunct entries d)
  pub formulas : (entries : List Entry) (f : FormulaTree) → KeepsFew (formula entries f)
