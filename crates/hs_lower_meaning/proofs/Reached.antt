-- What the code of a part of a block comes to, where the part comes to an outcome.
use Rattle.std.proofs.Common.{◌≡◌, ℕ, suc, ◌+◌, ◌≤◌, ℤ, Bool, true, List, [], ◌∷◌, length, map, Option, Some, slice_get, refl, sym, ap, ◌∙◌, subst}
use Rattle.std.specs.List.{AllByRecursion}
use Rattle.std.specs.Str.{bytes_eq}
use Rattle.hs_heap.specs.Heap.{Heap}
use Rattle.hs_norm.specs.declared.resolved.MethodTree.{MethodTree}
use Rattle.hs_norm.specs.declared.resolved.Resolved.{Resolved}
use Rattle.hs_norm_sound.specs.Uses.{Use}
use Rattle.hs_norm_sound.proofs.Found.{get_map}
use Rattle.hs_core.specs.declared.instr.Instr.TheVariants.{Call, Return}
use Rattle.hs_core.specs.declared.program.Method.{Method}
use Rattle.hs_core.specs.declared.program.Program.{Program}
use Rattle.hs_core.specs.Machine as machine
use Rattle.hs_core.specs.Machine.{Place, Frame, Slots, StepsBy, StepsFrom, TakesResult, Resumes, Ends, Faulted, all_updated, picked, called, instruction, returned, returned_value}
use Rattle.hs_lower_scope.specs.Scope.{Scope, Name, scope_of, method_named, method_number}
use Rattle.hs_lower.specs.Code.{Part}
use Rattle.hs_lower.specs.Lowering.{method_of, program_of}
use Rattle.hs_lower_sound.specs.Lowerable.{IsThere}
use Rattle.hs_lower_sound.proofs.Places.{index_of_get, first_at}
use Rattle.hs_lower_meaning.specs.Values.{Values}
use Rattle.hs_lower_meaning.specs.Blocks.{Outcome, Goes, Gives, Fails, Stops}
use Rattle.hs_lower_meaning.proofs.Steps.{Steps, go, one, frame, Stands}
use Rattle.hs_lower_meaning.proofs.Placing.{Agree}

-- the frame stands at a return with this result
abbrev pub Returns : Program → ℕ → Frame → Option ℤ → Type 0
Returns program k g v = (from : Option ℕ) × (instruction program g ≡ Some (Return from)) × (returned_value from g.slots ≡ v) × (g.method ≡ k)

-- the method of a number from 1
pub record IsMethod (r : Resolved) (k : ℕ) (m : MethodTree) : Type 0 where
  pub place : ℕ
  pub is : k ≡ suc place
  pub got : slice_get r.methods place ≡ Some m

module _ (P : Place) (r : Resolved) where
  abbrev program : Program
  program = program_of r

  abbrev Run : List Frame → Heap → List Frame → Heap → Type 0
  Run = Steps (StepsFrom P program)

  -- what the frames come to, over those of the callers
  abbrev pub Called : ℕ → List Frame → List Frame → Heap → Outcome → Type 0
  Called k start fs h (Goes w l) = Unit {0}
  Called k start fs h (Gives v l) = (g : Frame) × Run start h (g ∷ fs) l × Returns program k g v
  Called k start fs h (Fails z) = (gs : List Frame) × (l : Heap) × Run start h gs l × Ends program gs l (Faulted z)

  pub method_there : (k : ℕ) (m : MethodTree) → IsMethod r k m → machine.method_of program k ≡ method_of r m
  method_there k m is = ap (machine.method_of program) is.is ∙ index_of_get (map (method_of r) r.methods) is.place (method_of r m) machine.no_method (get_map (method_of r) r.methods is.place m is.got)

  pub method_by_name : (m c : MethodTree) (name : Name) → method_named (scope_of r m) name ≡ Some c → IsMethod r (method_number (scope_of r m) name) c
  method_by_name m c name e =
      let f = first_at (λ (q : MethodTree). bytes_eq q.name name) r.methods c e in
      record { place = f.place; is = f.is; got = f.got }

  module _ (k : ℕ) (m : MethodTree) where
    abbrev scope : Scope
    scope = scope_of r m

    abbrev count : ℕ
    count = length scope.variables

    -- the end at q with the values, where it can be reached; or as above
    abbrev pub Reached : List Frame → List Frame → Heap → ℕ → Bool → Outcome → Type 0
    Reached start fs h q ends (Goes w l) = (t : Slots) × Run start h (frame k q t ∷ fs) l × Agree count w t × (ends ≡ true)
    Reached start fs h q ends (Gives v l) = (g : Frame) × Run start h (g ∷ fs) l × Returns program k g v
    Reached start fs h q ends (Fails z) = (gs : List Frame) × (l : Heap) × Run start h gs l × Ends program gs l (Faulted z)

    -- where the part comes to the outcome, so does what is made of it
    abbrev pub Simulated : Part → List Use → Values → Heap → Outcome → Type 0
    Simulated part uses w h o = AllByRecursion (IsThere scope) uses → (p n : ℕ) (s : Slots) (fs : List Frame) → count ≤ n → Agree count w s → Stands P program k p (part p n).code →
        Reached (frame k p s ∷ fs) fs h (p + length (part p n).code) (part p n).ends o

    pub before : (start fs : List Frame) (h : Heap) (mid : List Frame) (l : Heap) (q : ℕ) (ends : Bool) (o : Outcome) → Run start h mid l → Reached mid fs l q ends o → Reached start fs h q ends o
    before start fs h mid l q ends (Goes w j) run (t, after, a, e) = (t, go (StepsFrom P program) start h mid l (frame k q t ∷ fs) j run after, a, e)
    before start fs h mid l q ends (Gives v j) run (g, after, e) = (g, go (StepsFrom P program) start h mid l (g ∷ fs) j run after, e)
    before start fs h mid l q ends (Fails z) run (gs, j, after, e) = (gs, j, go (StepsFrom P program) start h mid l gs j run after, e)

    pub otherwise : (start fs : List Frame) (h : Heap) (q q' : ℕ) (e e' : Bool) (o : Outcome) → q ≡ q' → (e ≡ true → e' ≡ true) → Reached start fs h q e o → Reached start fs h q' e' o
    otherwise start fs h q q' e e' (Goes w j) is f (t, run, a, ends) = (t, subst (λ q. Run start h (frame k q t ∷ fs) j) is run, a, f ends)
    otherwise start fs h q q' e e' (Gives v j) is f reached = reached
    otherwise start fs h q q' e e' (Fails z) is f reached = reached

    pub stopped_anywhere : (start fs : List Frame) (h : Heap) (q q' : ℕ) (e e' : Bool) (o : Outcome) → Stops o → Reached start fs h q e o → Reached start fs h q' e' o
    stopped_anywhere start fs h q q' e e' (Goes w j) stop reached = absurd stop
    stopped_anywhere start fs h q q' e e' (Gives v j) stop reached = reached
    stopped_anywhere start fs h q q' e e' (Fails z) stop reached = reached

    pub called_of : (start fs : List Frame) (h : Heap) (q : ℕ) (e : Bool) (o : Outcome) → Reached start fs h q e o → Called k start fs h o
    called_of start fs h q e (Goes w j) reached = tt
    called_of start fs h q e (Gives v j) reached = reached
    called_of start fs h q e (Fails z) reached = reached

    -- ---- calls

    pub call_step : (p j : ℕ) (to : Option ℕ) (args : List ℕ) (t : Slots) (fs : List Frame) (h : Heap) → slice_get (machine.method_of program k).code p ≡ Some (Call to j args) →
        Run (frame k p t ∷ fs) h (called j (map t args) ∷ frame k p t ∷ fs) h
    call_step p j to args t fs h at = one (StepsFrom P program) (frame k p t ∷ fs) h (called j (map t args) ∷ frame k p t ∷ fs) h
        (subst (λ o. StepsBy P program o (frame k p t) fs h (called j (map t args) ∷ frame k p t ∷ fs) h) (sym at) (refl, refl))

    -- a call that returns
    pub call_returns : (p j : ℕ) (c : MethodTree) (to : Option ℕ) (args : List ℕ) (t u : Slots) (fs : List Frame) (h l : Heap) (g : Frame) (v : Option ℤ) →
        slice_get (machine.method_of program k).code p ≡ Some (Call to j args) → IsMethod r j c → Run (called j (map t args) ∷ frame k p t ∷ fs) h (g ∷ frame k p t ∷ fs) l → Returns program j g v →
        TakesResult to v t u → Run (frame k p t ∷ fs) h (frame k (suc p) u ∷ fs) l
    call_returns p j c to args t u fs h l g v at is run (from, here, gives, of) takes =
        go (StepsFrom P program) (frame k p t ∷ fs) h (called j (map t args) ∷ frame k p t ∷ fs) h (frame k (suc p) u ∷ fs) l (call_step p j to args t fs h at)
        (go (StepsFrom P program) (called j (map t args) ∷ frame k p t ∷ fs) h (g ∷ frame k p t ∷ fs) l (frame k (suc p) u ∷ fs) l run
        (one (StepsFrom P program) (g ∷ frame k p t ∷ fs) l (frame k (suc p) u ∷ fs) l
        (subst (λ o. StepsBy P program o g (frame k p t ∷ fs) l (frame k (suc p) u ∷ fs) l) (sym here) (frame k (suc p) u, resumes, refl, refl))))
      where
        none : (machine.method_of program j).refs ≡ []
        none = ap (λ (q : Method). q.refs) (method_there j c is)

        resumes : Resumes program (instruction program (frame k p t)) (frame k p t) (returned program g from) (frame k (suc p) u)
        resumes = subst (λ o. Resumes program o (frame k p t) (returned program g from) (frame k (suc p) u)) (sym at) (
          u,
          subst (λ rs. TakesResult to (returned_value from g.slots) (all_updated (picked args rs) (map g.slots (machine.method_of program g.method).refs) t) u) (sym none)
              (subst (λ x. TakesResult to x t u) (sym gives) takes),
          refl,
        )
