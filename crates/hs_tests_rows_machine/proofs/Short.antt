-- A program whose methods are each short.
use Rattle.std.proofs.Common.{ℕ, zero, suc, ◌<◌, ◌≤◌, ◌^◌, ◌⊎◌, inl, inr, length, sym, subst, arith}
use Rattle.std.specs.List.{All}
use Rattle.std.proofs.lemmas.List.{get_or_past}
use Rattle.hs_core.specs.declared.program.Method.{Method}
use Rattle.hs_core.specs.declared.program.Program.{Program}
use Rattle.hs_core.specs.Machine.{no_method, method_of}
use Rattle.hs_machine.specs.Read.{IsShort}

abbrev HasShortCode : Method → Type 0
HasShortCode m = length m.code ≤ 2 ^ 20

there_or_past : (n l : ℕ) → (n < l) ⊎ (l ≤ n)
there_or_past n l = grind arith

pub short : (program : Program) → All HasShortCode program.methods → IsShort program
short program h zero = omega arith
short program h (suc n) = go (there_or_past n (length program.methods))
  where
    go : (n < length program.methods) ⊎ (length program.methods ≤ n) → length (method_of program (suc n)).code < 2 ^ 32
    go (inl less) = let few : length (method_of program (suc n)).code ≤ 2 ^ 20 = h n no_method less in omega arith
    go (inr past) = subst (λ (m : Method). length m.code < 2 ^ 32) (sym (get_or_past program.methods n no_method past)) (omega arith)
