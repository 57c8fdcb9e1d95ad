-- A step inside a frame leads to a premise that fits.
use Rattle.std.proofs.Common.{ℕ, ◌≡◌, ◌⊎◌, ◌<◌, inl, inr, IsTrue, List, [], ◌∷◌, refl, sym, subst}
use Rattle.hs_pure.specs.declared.var.Var.{Var}
use Rattle.hs_pure.specs.Stack.{Stack}
use Rattle.hs_heap.specs.declared.definitions.Defs.{Defs}
use Rattle.hs_heap.specs.Heap.{Heap, IsHeap, Parts}
use Rattle.hs_heap.specs.Variables.{is_free_in_formula}
use Rattle.hs_core.specs.declared.program.Program.{Program}
use Rattle.hs_core.specs.declared.state.At.{At}
use Rattle.hs_core.specs.Machine.{Slots, Frame, Ending}
use Rattle.hs_program_rules.specs.States.{method_at, pair_at}
use Rattle.hs_program_rules.specs.Safe.{Fits, frame_at, IsSafe, IsGoodEnd}
use Rattle.hs_program_rules.proofs.Through.{EndsIn, within_of_in}
use Rattle.hs_program_rules.proofs.Fitting.{AgreeBelow, good_end_agrees}

abbrev pub IsOneOf : At → List At → Type 0
IsOneOf at [] = ⊥
IsOneOf at (p ∷ ps) = (p ≡ at) ⊎ IsOneOf at ps

pub only_one : (p : At) (ps : List At) → ps ≡ p ∷ [] → IsOneOf p ps
only_one p ps is = let P : List At → Type 0 = λ qs. IsOneOf p qs in subst P (sym is) (inl refl)

pub first_one : (p q : At) (ps : List At) → ps ≡ p ∷ q ∷ [] → IsOneOf p ps
first_one p q ps is = let P : List At → Type 0 = λ qs. IsOneOf p qs in subst P (sym is) (inl refl)

pub second_one : (p q : At) (ps : List At) → ps ≡ p ∷ q ∷ [] → IsOneOf q ps
second_one p q ps is = let P : List At → Type 0 = λ qs. IsOneOf q qs in subst P (sym is) (inr (inl refl))

-- the state is one of the same pair
pub record IsOfPair (at next : At) : Type 0 where
  pub method : next.method ≡ at.method
  pub pair : next.pair ≡ at.pair

-- the frame after the instruction fits a premise at a stack that agrees below the state's next
pub record Advances (defs : Defs) (at : At) (premises : List At) (s : Stack) (rest : Heap) (g : Frame) (now : Heap) : Type 0 where
  pub next : At
  pub of_pair : IsOfPair at next
  pub among : IsOneOf next premises
  pub stack : Stack
  pub agrees : AgreeBelow at.state.next s stack
  pub own : Heap
  pub parts : Parts now own rest
  pub is_heap : IsHeap now
  pub slots : Slots
  pub fits : Fits defs stack next slots own
  pub frame_is : g ≡ frame_at next slots

module _ (defs : Defs) (program : Program) where
  -- all premises are safe
  abbrev pub AllAreSafe : ℕ → List At → Type 0
  AllAreSafe n ps = (p : At) → IsOneOf p ps → IsSafe defs program n p

  -- ends of a state are ends of the pair that it is of
  pub good_end_of_pair : (at next : At) → IsOfPair at next → (s : Stack) (rest : Heap) (e : Ending) (now : Heap) →
      IsGoodEnd defs (method_at program next) (pair_at program next) s rest e now → IsGoodEnd defs (method_at program at) (pair_at program at) s rest e now
  good_end_of_pair at next of s rest e now good =
      let P : ℕ → Type 0 = λ m. IsGoodEnd defs (method_at program (record at { method = m })) (pair_at program (record at { method = m })) s rest e now in
      let Q : ℕ → Type 0 = λ i. IsGoodEnd defs (method_at program next) (pair_at program (record next { pair = i })) s rest e now in
      subst P of.method (subst Q of.pair good)

  pub advance : (n : ℕ) (at : At) (ps : List At) (s : Stack) (rest : Heap) (g : Frame) (k : Heap) (e : Ending) (now : Heap) → ((v : Var) → IsTrue (is_free_in_formula v (pair_at program at).post) → v.number < at.state.next) →
      AllAreSafe n ps → Advances defs at ps s rest g k → EndsIn program n (g ∷ []) k e now → IsGoodEnd defs (method_at program at) (pair_at program at) s rest e now
  advance n at ps s rest g k e now low safe a ends =
      let P : Frame → Type 0 = λ f. EndsIn program n (f ∷ []) k e now in
      let good = (safe a.next a.among).ends_well a.stack a.slots k a.own rest e now a.is_heap a.parts a.fits (within_of_in program n (frame_at a.next a.slots ∷ []) k e now (subst P a.frame_is ends)) in
      good_end_agrees defs (method_at program at) (pair_at program at) at.state.next s a.stack rest e now low a.agrees (good_end_of_pair at a.next a.of_pair a.stack rest e now good)
