-- A formula beside more free variables and below a higher number.
use Rattle.std.proofs.Common.{◌≡◌, ℕ, ◌+◌, ◌<◌, ◌≤◌, false, ◌||◌, IsTrue, min, List, [], ◌∷◌, length, sym, subst, arith}
use Rattle.std.specs.List.{All, AllByRecursion, list_any}
use Rattle.std.proofs.lemmas.List.Elements.{All-weaker, All-from_recursion, recursion_from_All}
use Rattle.hs_pure.specs.declared.var.Var.{Var}
use Rattle.hs_pure.specs.declared.pure.Pure.{Pure}
use Rattle.hs_pure.specs.Occurs.{is_free, is_bound, occurs}
use Rattle.hs_pure.proofs.Vars.{or_left, or_right}
use Rattle.hs_heap.specs.declared.formula.Disjunct.{Disjunct}
use Rattle.hs_heap.specs.declared.formula.Formula.{Formula}
use Rattle.hs_heap.specs.declared.definitions.Defs.{Defs}
use Rattle.hs_heap.specs.Meaning.{is_in}
use Rattle.hs_heap.specs.Variables.{in_atom}
use Rattle.hs_heap.specs.Sound.{IsNumbered, PureFits, DisjunctFits, FormulaFits}
use Rattle.hs_heap.proofs.Occurring.{occurs-splits}
use Rattle.hs_numbering.specs.declared.numbering.Numbering.{Numbering}
use Rattle.hs_numbering.specs.Numbering.{next}
use Rattle.hs_formula_fits.specs.Fits.{DisjunctIsNew}

-- the variables of the one list are in the other, which has no other variable that may be bound
pub record Widens (free wide : List Var) (may : Var → Type 0) : Type 0 where
  pub among : (v : Var) → IsTrue (is_in v free) → IsTrue (is_in v wide)
  pub apart : (u : Var) → may u → is_in u free ≡ false → is_in u wide ≡ false

pub bound_occurs : (u : Var) (p : Pure) → IsTrue (is_bound u p) → IsTrue (occurs u p)
bound_occurs u p b = subst IsTrue (sym (occurs-splits u p)) (or_right (is_free u p) (is_bound u p) b)

-- what is bound in a disjunct
abbrev pub Binders : (Var → Type 0) → Disjunct → Type 0
Binders may d = ((u : Var) → IsTrue (is_in u d.bound) → may u) × All (λ p. (u : Var) → IsTrue (is_bound u p) → may u) d.pure

module _ (free wide : List Var) (may : Var → Type 0) (w : Widens free wide may) (low high : ℕ) (le : low ≤ high) where
  numbered : (v : Var) → IsNumbered low v → IsNumbered high v
  numbered v h = (h.0, less v.number h.1)
    where
      less : (m : ℕ) → m < low → m < high
      less m lt = omega arith

  pub pure_wider : (p : Pure) → ((u : Var) → IsTrue (is_bound u p) → may u) → PureFits free low p → PureFits wide high p
  pure_wider p binders f = record {
    formed = f.formed;
    apart = λ u b. w.apart u (binders u b) (f.apart u b);
    numbers = λ v o. numbered v (f.numbers v o);
  }

  pures_wider : (ps : List Pure) → AllByRecursion (λ p. (u : Var) → IsTrue (is_bound u p) → may u) ps → AllByRecursion (PureFits free low) ps → AllByRecursion (PureFits wide high) ps
  pures_wider [] b h = tt
  pures_wider (p ∷ ps) b h = (pure_wider p b.0 h.0, pures_wider ps b.1 h.1)

  pub disjunct_wider : (defs : Defs) (d : Disjunct) → Binders may d → DisjunctFits defs free low d → DisjunctFits defs wide high d
  disjunct_wider defs d b f = record {
    distinct = f.distinct;
    apart = λ u h. w.apart u (b.0 u h) (f.apart u h);
    among = λ v h. w.among v (f.among v h);
    numbers = λ v o. numbered v (f.numbers v o);
    atoms = f.atoms;
    pure = All-from_recursion (PureFits wide high) d.pure (pures_wider d.pure (recursion_from_All (λ p. (u : Var) → IsTrue (is_bound u p) → may u) d.pure b.1) (recursion_from_All (PureFits free low) d.pure f.pure));
    flat = f.flat;
  }

  disjuncts_wider : (defs : Defs) (ds : List Disjunct) → AllByRecursion (Binders may) ds → AllByRecursion (DisjunctFits defs free low) ds → AllByRecursion (DisjunctFits defs wide high) ds
  disjuncts_wider defs [] b h = tt
  disjuncts_wider defs (d ∷ ds) b h = (disjunct_wider defs d b.0 h.0, disjuncts_wider defs ds b.1 h.1)

  pub formula_wider : (defs : Defs) (f : Formula) → All (Binders may) f.cases → FormulaFits defs free low f → FormulaFits defs wide high f
  formula_wider defs f b h = All-from_recursion (DisjunctFits defs wide high) f.cases (disjuncts_wider defs f.cases (recursion_from_All (Binders may) f.cases b) (recursion_from_All (DisjunctFits defs free low) f.cases h))

-- what is bound in a disjunct that fits is below its number
pub below_next : (defs : Defs) (free : List Var) (low : ℕ) (d : Disjunct) → DisjunctFits defs free low d → Binders (λ u. u.number < low) d
below_next defs free low d f = (
  λ u h. (f.numbers u (or_left (is_in u d.bound) (list_any (in_atom u) d.atoms || list_any (occurs u) d.pure) h)).1,
  All-weaker (PureFits free low) (λ p. (u : Var) → IsTrue (is_bound u p) → u.number < low) (λ p g u b. (g.numbers u (bound_occurs u p b)).1) d.pure f.pure,
)

-- what is new is above
pub above_new : (k : ℕ) (d : Disjunct) → DisjunctIsNew k d → Binders (λ u. k < u.number) d
above_new k d n = (n.bound, n.pure)

any : (ds : List Disjunct) → AllByRecursion (Binders (λ u. Unit {0})) ds
any [] = tt
any (d ∷ ds) = ((λ u h. tt, All-from_recursion (λ p. (u : Var) → IsTrue (is_bound u p) → Unit {0}) d.pure (each d.pure)), any ds)
  where
    each : (ps : List Pure) → AllByRecursion (λ p. (u : Var) → IsTrue (is_bound u p) → Unit {0}) ps
    each [] = tt
    each (p ∷ ps) = (λ u b. tt, each ps)

-- beside the same variables, below a higher number
pub formula_higher : (defs : Defs) (free : List Var) (low high : ℕ) → low ≤ high → (f : Formula) → FormulaFits defs free low f → FormulaFits defs free high f
formula_higher defs free low high le f h =
    formula_wider free free (λ u. Unit {0}) (record { among = λ v k. k; apart = λ u m k. k }) low high le defs f (All-from_recursion (Binders (λ u. Unit {0})) f.cases (any f.cases)) h

-- ---- the next number

next_least : (k : ℕ) → k ≤ 1000 → min k 1000 + 1 ≡ k + 1
next_least k le = let m = smaller k le in omega arith
  where
    smaller : (k : ℕ) → k ≤ 1000 → min k 1000 ≡ k
    smaller k le = grind arith

pub next_is : (n : Numbering) → length n.names ≤ 1000 → next n ≡ length n.names + 1
next_is n le = next_least (length n.names) le
