-- Which goals are well formed.
use Rattle.std.specs.Prelude.{◌≡◌, ℕ, ◌≤◌, ◌<◌, ◌^◌, Bool, false, IsTrue, []}
use Rattle.std.specs.List.{list_any, All}
use Rattle.hs_pure.specs.declared.var.Var.{Var}
use Rattle.hs_heap.specs.declared.formula.Disjunct.{Disjunct}
use Rattle.hs_heap.specs.declared.formula.Formula.{Formula}
use Rattle.hs_heap.specs.declared.definitions.Defs.{Defs}
use Rattle.hs_heap.specs.Meaning.{is_in}
use Rattle.hs_heap.specs.Variables.{in_atom, is_free_in_formula, occurs_in_disjunct}
use Rattle.hs_heap.specs.WellFormed.{is_and, IsProper}
use Rattle.hs_heap.specs.Sound.{AtomFits, AreDistinct}
use Rattle.hs_goal.specs.declared.goal.Goal.{Goal}

-- each variable that passes the test has a number below next
abbrev pub AreBelow : ℕ → (Var → Bool) → Type 0
AreBelow next test = (v : Var) → IsTrue (test v) → v.number < next

-- a disjunct over the definitions with all numbers, of bound variables too, below next
pub record CaseFits (defs : Defs) (next : ℕ) (d : Disjunct) : Type 0 where
  pub numbers : AreBelow next (λ v. occurs_in_disjunct v d)
  pub atoms : All (AtomFits defs) d.atoms
  pub distinct : AreDistinct d.bound
  -- no conjunct is an And
  pub flat : All (λ p. is_and p ≡ false) d.pure
  pub pure : All IsProper d.pure

-- what is asked of a side of a goal
abbrev pub SideFits : Defs → ℕ → Formula → Type 0
SideFits defs next f = All (CaseFits defs next) f.cases

-- what is asked of a goal
pub record GoalFits (defs : Defs) (g : Goal) : Type 0 where
  pub used : All (AtomFits defs) g.used
  pub used_numbers : AreBelow g.next (λ v. list_any (in_atom v) g.used)
  pub left : SideFits defs g.next g.left
  pub right : SideFits defs g.next g.right
  pub opens_numbers : AreBelow g.next (λ v. is_in v g.opens)
  pub few : g.next ≤ 2 ^ 30
  pub distinct : AreDistinct g.opens
  -- the open variables occur neither among the used atoms nor free on the left
  pub apart_used : (v : Var) → IsTrue (is_in v g.opens) → list_any (in_atom v) g.used ≡ false
  pub apart_left : (v : Var) → IsTrue (is_in v g.opens) → is_free_in_formula v g.left ≡ false
  -- the right side has a disjunct
  pub some : ¬ (g.right.cases ≡ [])
