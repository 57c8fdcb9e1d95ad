-- Entailments and pairs in normal form.
use Rattle.std.specs.Prelude.{◌≡◌, ◌↔◌, ◌≤◌, ◌<◌, ◌+◌, ◌++◌, ℕ, zero, suc, false, IsTrue, List, [], ◌∷◌, length, Option, Some, None}
use Rattle.std.specs.List.{All}
use Rattle.hs_pure.specs.declared.var.Var.{Var}
use Rattle.hs_pure.specs.declared.lin.Lin.{Lin}
use Rattle.hs_pure.specs.Occurs.{in_lin}
use Rattle.hs_pure.specs.Sums.{LinIsLight, LinIsOrdered}
use Rattle.hs_heap.specs.declared.formula.Formula.{Formula}
use Rattle.hs_heap.specs.declared.definitions.Defs.{Defs}
use Rattle.hs_heap.specs.Meaning.{is_in}
use Rattle.hs_heap.specs.Variables.{is_free_in_formula}
use Rattle.hs_heap.specs.Sound.{IsNumbered, AreAmong, AreDistinct, FormulaFits, IsShort}
use Rattle.hs_norm_item.specs.declared.forms.Entailment.{Entailment}
use Rattle.hs_norm_item.specs.declared.forms.PairTree.{PairTree}
use Rattle.hs_formula_fits.specs.Fits.{RiseAbove}

-- ---- entailments

-- both sides over one list of free variables, and the open ones are free on the right alone
pub record EntailmentIsNormal (defs : Defs) (e : Entailment) : Type 0 where
  pub free : List Var
  pub distinct : AreDistinct free
  pub numbered : All (IsNumbered e.next) free
  pub left : FormulaFits defs free e.next e.left
  pub right : FormulaFits defs free e.next e.right
  pub left_short : All IsShort e.left.cases
  pub right_short : All IsShort e.right.cases
  pub left_few : length e.left.cases ≤ 16
  pub right_few : length e.right.cases ≤ 16
  -- in the order of their numbers, so none is listed twice
  pub opens_rise : RiseAbove 0 e.opens
  pub opens : (v : Var) → IsTrue (is_in v e.opens) ↔ IsTrue (is_free_in_formula v e.right) × (is_free_in_formula v e.left ≡ false)
  pub bounded : e.next ≤ 1001
  -- each number that is given has its source name, or none
  pub names : length e.names.list + 1 ≡ e.next

-- ---- pairs

-- the number variables n, n + 1 and so on, k of them
abbrev pub numbers_from : ℕ → ℕ → List Var
numbers_from n zero = []
numbers_from n (suc k) = record { number = n; bag = false } ∷ numbers_from (suc n) k

-- the variables of k parameters
abbrev pub param_vars : ℕ → List Var
param_vars k = numbers_from 1 k

-- `res` beside k parameters
abbrev pub res_var : ℕ → Var
res_var k = record { number = suc k; bag = false }

-- a variant is a light sum in order, of these variables
abbrev pub VariantFits : List Var → Option Lin → Type 0
VariantFits free None = Unit {0}
VariantFits free (Some a) = LinIsLight a × LinIsOrdered a × AreAmong (λ v. in_lin v a) free

-- a pair of a method of k parameters
pub record PairIsNormal (defs : Defs) (k : ℕ) (p : PairTree) : Type 0 where
  pub distinct : AreDistinct p.logic
  pub numbered : All (λ v. (suc k < v.number) × (v.number < p.next)) p.logic
  -- the number of `res` is given, also where no formula names it
  pub result : suc k < p.next
  pub bounded : p.next ≤ 1001
  pub pre : FormulaFits defs (param_vars k ++ p.logic) p.next p.pair_pre
  -- the precondition does not bind `res` either
  pub pre_apart : FormulaFits defs (param_vars k ++ res_var k ∷ p.logic) p.next p.pair_pre
  pub post : FormulaFits defs (param_vars k ++ res_var k ∷ p.logic) p.next p.pair_post
  pub variant : VariantFits (param_vars k ++ p.logic) p.variant

-- ---- disjuncts

-- the formula has a disjunct
abbrev pub HasDisjunct : Formula → Type 0
HasDisjunct f = 1 ≤ length f.cases
