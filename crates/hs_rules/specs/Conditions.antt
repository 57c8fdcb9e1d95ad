-- Where each rule applies, apart from its question and from the bound on new numbers.
use Rattle.std.specs.Prelude.{◌≡◌, ℕ, ◌<◌, ◌≤◌, ℤ, pos, negsuc, ◌+ℤ◌, ◌-ℤ◌, ◌⊎◌, false, ◌&&◌, IsTrue, if◌then◌else◌, List, [], ◌∷◌, length, Some}
use Rattle.std.specs.List.{All}
use Rattle.hs_pure.specs.declared.var.Var.{Var}
use Rattle.hs_pure.specs.declared.lin.Lin.{Lin}
use Rattle.hs_pure.specs.declared.bag.Bag.{Bag}
use Rattle.hs_pure.specs.declared.bag.Bag.TheVariants as bag_of
use Rattle.hs_pure.specs.declared.pure.Pure.{Pure}
use Rattle.hs_pure.specs.declared.pure.Pure.TheVariants as pure_of
use Rattle.hs_pure.specs.Stack.{same}
use Rattle.hs_pure.specs.Occurs.{is_free, occurs, in_bag, has_bags}
use Rattle.hs_heap.specs.declared.formula.Of.{Of}
use Rattle.hs_heap.specs.declared.formula.Of.TheVariants.{Node, Pred}
use Rattle.hs_heap.specs.declared.formula.Formula.{Formula}
use Rattle.hs_heap.specs.declared.definitions.Lemma.{Lemma}
use Rattle.hs_heap.specs.declared.definitions.Defs.{Defs}
use Rattle.hs_heap.specs.Meaning.{is_in}
use Rattle.hs_heap.specs.WellFormed.{is_and, IsProper}
use Rattle.hs_heap.specs.Instance.{body_of, lemma_at}
use Rattle.hs_goal.specs.declared.goal.Goal.{Goal}
use Rattle.hs_goal.specs.declared.rule.ERule.{ERule}
use Rattle.hs_goal.specs.declared.rule.ERule.TheVariants as rule_of
use Rattle.hs_goal.specs.Goal.{is_free_in_goal}
use Rattle.hs_goal.specs.Classes.{the_case, IsSimple, InOneClass}
use Rattle.hs_rules.specs.Parts.{IsPlace, atom_at, conjunct_at, left_atoms, right_atoms, right_pure, has_open}

-- one disjunct with bound variables
pub record BindsOnly (f : Formula) : Type 0 where
  pub one : length f.cases ≡ 1
  pub binds : ¬ ((the_case f).bound ≡ [])

-- a predicate, and no data type
abbrev pub IsPred : Of → Type 0
IsPred (Node n) = ⊥
IsPred (Pred n) = Unit {0}

-- the goal may be split by a formula over its own variables
pub record CanSplit (g : Goal) (f : Pure) : Type 0 where
  pub left : IsSimple g.left
  pub flat : is_and f ≡ false
  pub proper : IsProper f
  pub numbers : (v : Var) → IsTrue (occurs v f) → v.number < g.next
  pub closed : (v : Var) → IsTrue (occurs v f) → is_in v g.opens ≡ false
  pub free : (v : Var) → IsTrue (is_free v f) → IsTrue (is_free_in_goal v g)

-- a disjunct of the right side may be taken
pub record CanTakeCase (g : Goal) (i : ℕ) : Type 0 where
  pub several : 2 ≤ length g.right.cases
  pub place : IsPlace i g.right.cases

-- ---- equations for one open variable

-- the coefficients of v, added up
abbrev pub coefficient_in : Var → List (Var × ℤ) → ℤ
coefficient_in v [] = pos 0
coefficient_in v (t ∷ ts) = if same t.0 v then t.1 +ℤ coefficient_in v ts else coefficient_in v ts

abbrev pub coefficient : Var → Lin → ℤ
coefficient v a = coefficient_in v a.terms

-- v is the only open variable, and has the coefficient 1 or -1 in a - b
pub record IsSumEquation (opens : List Var) (v : Var) (p : Pure) : Type 0 where
  pub a : Lin
  pub b : Lin
  pub is : p ≡ pure_of.Eq a b
  pub open_there : IsTrue (is_in v opens)
  pub only : (w : Var) → IsTrue (is_free w p) → IsTrue (is_in w opens) → w ≡ v
  pub unit : (coefficient v a -ℤ coefficient v b ≡ pos 1) ⊎ (coefficient v a -ℤ coefficient v b ≡ negsuc 0)

-- one side is v, and the other has no open variable
pub record IsBagEquation (opens : List Var) (v : Var) (p : Pure) : Type 0 where
  pub other : Bag
  pub is : (p ≡ pure_of.BagEq (bag_of.Name v) other) ⊎ (p ≡ pure_of.BagEq other (bag_of.Name v))
  pub open_there : IsTrue (is_in v opens)
  pub closed : (w : Var) → IsTrue (in_bag w other) → is_in w opens ≡ false

-- the equation gives v a value
abbrev pub IsEquationFor : List Var → Var → Pure → Type 0
IsEquationFor opens v p = IsSumEquation opens v p ⊎ IsBagEquation opens v p

-- a right conjunct may move to the left side
pub record CanInstantiate (g : Goal) (c : ℕ) : Type 0 where
  pub left : IsSimple g.left
  pub right : IsSimple g.right
  pub place : IsPlace c (right_pure g)
  pub variable : Var
  pub equation : IsEquationFor g.opens variable (conjunct_at c (right_pure g))

-- ---- atoms

-- a right atom may be matched with a left one
pub record CanMatch (g : Goal) (r l : ℕ) : Type 0 where
  pub left : IsSimple g.left
  pub right : IsSimple g.right
  pub right_place : IsPlace r (right_atoms g)
  pub left_place : IsPlace l (left_atoms g)
  pub one_name : (atom_at r (right_atoms g)).of ≡ (atom_at l (left_atoms g)).of
  pub one_class : InOneClass g (atom_at r (right_atoms g)).root (atom_at l (left_atoms g)).root
  pub known : is_in (atom_at r (right_atoms g)).root g.opens ≡ false

-- a left atom may be unfolded
pub record CanUnfold (g : Goal) (l : ℕ) : Type 0 where
  pub left : IsSimple g.left
  pub place : IsPlace l (left_atoms g)
  pub pred : IsPred (atom_at l (left_atoms g)).of

-- a right atom may be folded into a case of its predicate
pub record CanFold (defs : Defs) (g : Goal) (r i : ℕ) : Type 0 where
  pub right : IsSimple g.right
  pub place : IsPlace r (right_atoms g)
  pub pred : IsPred (atom_at r (right_atoms g)).of
  pub case_place : IsPlace i (body_of defs (atom_at r (right_atoms g)).of).formula.cases

-- a lemma may be used at a left atom of its predicate
pub record CanUseLemma (defs : Defs) (g : Goal) (j l : ℕ) : Type 0 where
  pub left : IsSimple g.left
  pub lemma : Lemma
  pub there : lemma_at defs j ≡ Some lemma
  pub place : IsPlace l (left_atoms g)
  pub of_pred : (atom_at l (left_atoms g)).of ≡ Pred lemma.pred

-- ---- goals without subgoals

-- the left side may be asked for a contradiction
pub record CanBeFalse (g : Goal) (n : ℕ) : Type 0 where
  pub level : n ≤ 3
  pub left : IsSimple g.left

-- the left side may be asked for the right conjuncts
pub record CanBeEmpty (g : Goal) (n : ℕ) : Type 0 where
  pub level : n ≤ 3
  pub left : IsSimple g.left
  pub right : IsSimple g.right
  pub no_atoms : right_atoms g ≡ []
  -- no right conjunct has both an open variable and a bag literal
  pub bags : All (λ p. (has_open g.opens p && has_bags p) ≡ false) (right_pure g)

-- ---- the column

abbrev pub HasCondition : Defs → Goal → ERule → Type 0
HasCondition defs g rule_of.LeftOr = ¬ (length g.left.cases ≡ 1)
HasCondition defs g rule_of.LeftExists = BindsOnly g.left
HasCondition defs g (rule_of.False n) = CanBeFalse g n
HasCondition defs g (rule_of.Split f) = CanSplit g f
HasCondition defs g (rule_of.RightOr i) = CanTakeCase g i
HasCondition defs g rule_of.RightExists = BindsOnly g.right
HasCondition defs g (rule_of.Instantiate c) = CanInstantiate g c
HasCondition defs g (rule_of.Match r l) = CanMatch g r l
HasCondition defs g (rule_of.Unfold l) = CanUnfold g l
HasCondition defs g (rule_of.Fold r i) = CanFold defs g r i
HasCondition defs g (rule_of.Empty n) = CanBeEmpty g n
HasCondition defs g (rule_of.Lemma j l) = CanUseLemma defs g j l
