-- Lowered methods run as their blocks.
use Rattle.std.proofs.Common.{◌≡◌, ℕ, suc, ℤ, List, [], ◌∷◌, map, Option, Some, None, Ok, refl, sym, ap, ◌∙◌, subst}
use Rattle.hs_heap.specs.Heap.{Heap}
use Rattle.hs_norm.specs.declared.resolved.MethodTree.{MethodTree}
use Rattle.hs_norm.specs.declared.resolved.Resolved.{Resolved}
use Rattle.hs_core.specs.declared.program.Method.{Method}
use Rattle.hs_core.specs.declared.program.Program.{Program}
use Rattle.hs_core.specs.Machine as machine
use Rattle.hs_core.specs.Machine.{Place, Frame, StepsFrom, Run, EndsBy, Ends, Faulted, Finished, called}
use Rattle.hs_lower_faults.specs.declared.error.LowerError.{LowerError}
use Rattle.hs_lower.specs.Lowering.{program_of, first_fault, or_fault, lowered}
use Rattle.hs_lower_meaning.specs.Blocks.{Runs, Gives, Fails}
use Rattle.hs_lower_meaning.specs.Laws.{BlocksAreRun}
use Rattle.hs_lower_meaning.proofs.Reached.{Returns, IsMethod, method_there}
use Rattle.hs_lower_meaning.proofs.Simulation.{runs_sim}

-- the program, where there is no fault
program_is : (r : Resolved) (p : Program) → lowered r ≡ Ok p → program_of r ≡ p
program_is r p e = of (first_fault r) e
  where
    of : (o : Option LowerError) → or_fault (program_of r) o ≡ Ok p → program_of r ≡ p
    of None e = cc
    of (Some f) e = cc

-- a return of the last frame ends the run
returned_ends : (P : Place) (r : Resolved) (k : ℕ) (m : MethodTree) (g : Frame) (v : Option ℤ) (h : Heap) → IsMethod r k m → Returns (program_of r) k g v → Ends (program_of r) (g ∷ []) h (Finished (record { result = v; refs = [] }))
returned_ends P r k m g v h is (from, here, gives, of) =
    subst (λ o. EndsBy (program_of r) o g [] h (Finished (record { result = v; refs = [] }))) (sym here) (λ i. Finished (record { result = sym gives i; refs = map g.slots (sym none i) }))
  where
    none : (machine.method_of (program_of r) g.method).refs ≡ []
    none = ap (λ j. (machine.method_of (program_of r) j).refs) of ∙ ap (λ (q : Method). q.refs) (method_there P r k m is)

-- what is said of a program and a method of it
abbrev DoesAs : Place → Resolved → ℕ → MethodTree → List ℤ → Heap → Program → Type 0
DoesAs P r k m args h p =
    ((v : Option ℤ) (l : Heap) → Runs r P m args h (Gives v l) →
    (n : ℕ) × (fs : List Frame) × Run (StepsFrom P p) n (called (suc k) args ∷ []) h fs l × Ends p fs l (Finished (record { result = v; refs = [] })))
    × ((q : ℤ) → Runs r P m args h (Fails q) → (n : ℕ) × (fs : List Frame) × (l : Heap) × Run (StepsFrom P p) n (called (suc k) args ∷ []) h fs l × Ends p fs l (Faulted q))

pub blocks_run : (P : Place) → BlocksAreRun P
blocks_run P r p ok e k m got args h same = subst (DoesAs P r k m args h) (program_is r p e) (
  λ v l run. let s = runs_sim P r ok m args h (Gives v l) run (suc k) here [] in (s.1.0, s.0 ∷ [], s.1.1, returned_ends P r (suc k) m s.0 v l here s.2),
  λ q run. let s = runs_sim P r ok m args h (Fails q) run (suc k) here [] in (s.2.0, s.0, s.1, s.2.1, s.3),
)
  where
    here : IsMethod r (suc k) m
    here = record { place = k; is = refl; got = got }
