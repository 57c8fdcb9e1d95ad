-- The goal of an entailment in normal form is well formed.
use Rattle.std.proofs.Common.{◌≡◌, ℕ, ◌<◌, Bool, true, false, IsTrue, List, [], ◌∷◌, length, refl, sym, ap, subst, arith, inl, inr}
use Rattle.std.specs.List.{All}
use Rattle.std.proofs.lemmas.Bool.{or_cases}
use Rattle.std.proofs.lemmas.List.Elements.{All-weaker}
use Rattle.hs_pure.specs.declared.var.Var.{Var}
use Rattle.hs_pure.specs.Stack.{same}
use Rattle.hs_heap.specs.declared.formula.Disjunct.{Disjunct}
use Rattle.hs_heap.specs.declared.formula.Formula.{Formula}
use Rattle.hs_heap.specs.declared.definitions.Defs.{Defs}
use Rattle.hs_heap.specs.Meaning.{is_in}
use Rattle.hs_heap.specs.Variables.{is_free_in_disjunct, is_free_in_formula}
use Rattle.hs_heap.specs.Sound.{IsNumbered, AreDistinct, DisjunctFits, FormulaFits}
use Rattle.hs_heap.proofs.Stacks.{same_true}
use Rattle.hs_heap.proofs.Lists.{any_forth, listed_forth}
use Rattle.hs_goal.specs.Laws.{FittingFormulasAreSides, StartIsWellFormed}
use Rattle.hs_formula_fits.specs.Fits.{RiseAbove}
use Rattle.hs_entail_lines.specs.Laws.{EntailmentsAreGoals}

-- ---- variables that rise

rise_above : (k : ℕ) (vs : List Var) → RiseAbove k vs → (v : Var) → is_in v vs ≡ true → k < v.number
rise_above k [] h v e = absurd cc
rise_above k (w ∷ ws) h v e = elim (or_cases (same v w) (is_in v ws) e) [
  | inl i ↦ subst (λ (u : Var). k < u.number) (sym (same_true v w i)) h.0
  | inr i ↦ let later = rise_above w.number ws h.1 v i in omega (arith, h.0, later)
]

absent : (v : Var) (vs : List Var) → RiseAbove v.number vs → is_in v vs ≡ false
absent v vs h = by (is_in v vs) refl
  where
    by : (b : Bool) → is_in v vs ≡ b → is_in v vs ≡ false
    by true e = let later = rise_above v.number vs h v e in absurd (omega (arith, later))
    by false e = e

rises_are_distinct : (k : ℕ) (vs : List Var) → RiseAbove k vs → AreDistinct vs
rises_are_distinct k [] h = tt
rises_are_distinct k (v ∷ vs) h = (absent v vs h.1, rises_are_distinct v.number vs h.1)

-- ---- the goal

-- a variable that is free in a formula beside numbered ones has a number of them
free_is_numbered : (defs : Defs) (free : List Var) (next : ℕ) (f : Formula) → All (IsNumbered next) free → FormulaFits defs free next f
    → (v : Var) → IsTrue (is_free_in_formula v f) → IsNumbered next v
free_is_numbered defs free next f numbered fits v e =
    listed_forth (IsNumbered next) free numbered v
    (any_forth is_free_in_disjunct (λ v. IsTrue (is_in v free)) f.cases
    (All-weaker (DisjunctFits defs free next) (λ (d : Disjunct). (v : Var) → IsTrue (is_free_in_disjunct v d) → IsTrue (is_in v free)) (λ d fit. fit.among) f.cases fits) v e)

pub entailments_are_goals : FittingFormulasAreSides → StartIsWellFormed → EntailmentsAreGoals
entailments_are_goals sides start defs e n some =
    start defs e.left e.opens e.right e.next (sides defs n.free e.next e.left n.left) (sides defs n.free e.next e.right n.right) filled (omega (arith, n.bounded))
    (λ v i. (free_is_numbered defs n.free e.next e.right n.numbered n.right v ((n.opens v).0 i).0).1) (rises_are_distinct 0 e.opens n.opens_rise)
    (λ v i. ((n.opens v).0 i).1)
  where
    filled : ¬ (e.right.cases ≡ [])
    filled none = let empty : length e.right.cases ≡ 0 = ap length none in absurd (omega (arith, some, empty))
