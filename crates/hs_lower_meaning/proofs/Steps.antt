-- Runs of the program of a source.
use Rattle.std.proofs.Common.{◌≡◌, ℕ, zero, suc, ◌+◌, List, [], ◌∷◌, ◌++◌, length, Some, slice_get, refl, sym, subst, arith}
use Rattle.hs_heap.specs.Heap.{Heap}
use Rattle.hs_core.specs.declared.instr.Instr.{Instr}
use Rattle.hs_core.specs.declared.instr.Instr.TheVariants.{Assign, New, Get, Set, Branch, Jump, Call, Return}
use Rattle.hs_core.specs.declared.program.Program.{Program}
use Rattle.hs_core.specs.Machine.{Place, Frame, Slots, Effect, StepsBy, StepsFrom, Stepping, Run, method_of}

-- ---- runs one after another

abbrev pub Steps : Stepping → List Frame → Heap → List Frame → Heap → Type 0
Steps S fs h gs k = (n : ℕ) × Run S n fs h gs k

pub stay : (S : Stepping) (fs : List Frame) (h : Heap) → Steps S fs h fs h
stay S fs h = (0, (refl, refl))

pub then_run : (S : Stepping) (n : ℕ) (fs : List Frame) (h : Heap) (gs : List Frame) (k : Heap) (js : List Frame) (l : Heap) → Run S n fs h gs k → Steps S gs k js l → Steps S fs h js l
then_run S zero fs h gs k js l (is, also) after = subst (λ x. Steps S fs x js l) also (subst (λ xs. Steps S xs k js l) is after)
then_run S (suc n) fs h gs k js l (os, o, first, run) after = let rest = then_run S n os o gs k js l run after in (suc rest.0, (os, o, first, rest.1))

pub go : (S : Stepping) (fs : List Frame) (h : Heap) (gs : List Frame) (k : Heap) (js : List Frame) (l : Heap) → Steps S fs h gs k → Steps S gs k js l → Steps S fs h js l
go S fs h gs k js l a b = then_run S a.0 fs h gs k js l a.1 b

pub one : (S : Stepping) (fs : List Frame) (h : Heap) (gs : List Frame) (k : Heap) → S fs h gs k → Steps S fs h gs k
one S fs h gs k s = (1, (gs, k, s, (refl, refl)))

-- ---- frames

abbrev pub frame : ℕ → ℕ → Slots → Frame
frame k p s = record { method = k; point = p; slots = s }

effect_steps : (P : Place) (program : Program) (i : Instr) (f : Frame) (fs : List Frame) (h : Heap) (g : Frame) (k : Heap) → Effect P i f h g k → StepsBy P program (Some i) f fs h (g ∷ fs) k
effect_steps P program (Assign to term) f fs h g k e = (g, e, refl)
effect_steps P program (New to kind args) f fs h g k e = (g, e, refl)
effect_steps P program (Get to at kind field) f fs h g k e = (g, e, refl)
effect_steps P program (Set at kind field from) f fs h g k e = (g, e, refl)
effect_steps P program (Branch condition other) f fs h g k e = (g, e, refl)
effect_steps P program (Jump target) f fs h g k e = (g, e, refl)
effect_steps P program (Call to method args) f fs h g k e = absurd e
effect_steps P program (Return from) f fs h g k e = absurd e

module _ (P : Place) (program : Program) (k : ℕ) where
  -- the instructions stand in the method k from the point p on
  abbrev pub Stands : ℕ → List Instr → Type 0
  Stands p [] = Unit {0}
  Stands p (x ∷ xs) = (slice_get (method_of program k).code p ≡ Some x) × Stands (suc p) xs

  pub stands_first : (p : ℕ) (a b : List Instr) → Stands p (a ++ b) → Stands p a
  stands_first p [] b h = tt
  stands_first p (x ∷ a) b h = (h.0, stands_first (suc p) a b h.1)

  pub stands_after : (p : ℕ) (a b : List Instr) → Stands p (a ++ b) → Stands (p + length a) b
  stands_after p [] b h = let e : p ≡ p + 0 = omega arith in subst (λ j. Stands j b) e h
  stands_after p (x ∷ a) b h = let e : suc p + length a ≡ p + suc (length a) = omega arith in subst (λ j. Stands j b) e (stands_after (suc p) a b h.1)

  -- one step by an instruction that stands there
  pub does : (p : ℕ) (i : Instr) (s : Slots) (fs : List Frame) (h : Heap) (g : Frame) (l : Heap) → slice_get (method_of program k).code p ≡ Some i →
      Effect P i (frame k p s) h g l → Steps (StepsFrom P program) (frame k p s ∷ fs) h (g ∷ fs) l
  does p i s fs h g l at e = one (StepsFrom P program) (frame k p s ∷ fs) h (g ∷ fs) l
      (subst (λ o. StepsBy P program o (frame k p s) fs h (g ∷ fs) l) (sym at) (effect_steps P program i (frame k p s) fs h g l e))
