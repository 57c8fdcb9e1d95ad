-- A run that starts is one that the machine takes.
use Rattle.std.proofs.Common.{◌≡◌, ℕ, zero, suc, ◌<◌, ◌≤◌, ◌^◌, ◌⊎◌, inl, inr, ℤ, List, length, sym, ap, ◌∙◌, subst, arith}
use Rattle.std.proofs.lemmas.List.{get_or_past}
use Rattle.hs_heap.specs.declared.definitions.Defs.{Defs}
use Rattle.hs_heap.specs.Heap.{Heap}
use Rattle.hs_core.specs.declared.program.Method.{Method}
use Rattle.hs_core.specs.declared.program.Program.{Program}
use Rattle.hs_core.specs.Machine.{no_method, method_of}
use Rattle.hs_core.specs.Sound.{IsSoundProgram}
use Rattle.hs_machine.specs.Read.{IsShort, CanBegin}
use Rattle.hs_core_lines.specs.Run.{IsShortProgram, Starts}

there_or_past : (n l : ℕ) → (n < l) ⊎ (l ≤ n)
there_or_past n l = grind arith

-- the code of each number is short, where a method has it or not
short : (program : Program) → IsShortProgram program → IsShort program
short program h zero = omega arith
short program h (suc n) = go (there_or_past n (length program.methods))
  where
    go : (n < length program.methods) ⊎ (length program.methods ≤ n) → length (method_of program (suc n)).code < 2 ^ 32
    go (inl less) = let few : length (method_of program (suc n)).code ≤ 4096 = h n no_method less in omega arith
    go (inr past) = subst (λ (m : Method). length m.code < 2 ^ 32) (sym (get_or_past program.methods n no_method past)) (omega arith)

pub begins : (defs : Defs) (program : Program) (name text : List ℕ) (number : ℕ) (args given : List ℤ) (h : Heap) → IsSoundProgram defs program → IsShortProgram program
    → Starts defs program name text number args h → given ≡ args → CanBegin program number given h
begins defs program name text number args given h sound brief starts is = record {
  defs = defs;
  sound = sound;
  short = short program brief;
  there = starts.there;
  count = ap length is ∙ starts.count;
  heap = starts.states.writable.fits;
}
