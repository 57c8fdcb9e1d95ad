-- What the test of a program tells.
use Rattle.std.proofs.Common.{◌≡◌, ℕ, zero, suc, ◌<◌, ◌≤◌, ◌&&◌, nat_lt, nat_le, List, [], ◌∷◌, length, slice_get, Some, refl, subst, arith}
use Rattle.std.specs.List.{All, list_all}
use Rattle.std.proofs.lemmas.List.{get_or_default}
use Rattle.hs_heap.specs.declared.definitions.Defs.{Defs}
use Rattle.hs_heap.proofs.Tells.{Tells, tells, tells_both, tells_all, tells_le, tells_lt}
use Rattle.hs_core.specs.declared.instr.Instr.{Instr}
use Rattle.hs_core.specs.declared.program.Method.{Method}
use Rattle.hs_core.specs.declared.program.Program.{Program}
use Rattle.hs_core.specs.Machine.{no_method, method_of}
use Rattle.hs_core.specs.Sound.{IsUpTo, AreRising, InstrFits, PairFits, MethodFits, IsSoundProgram}
use Rattle.hs_core.specs.Tests.{are_rising, code_fits, pair_fits, method_fits, program_fits}
use Rattle.hs_core.proofs.InstrTells.{code_told}
use Rattle.hs_core.proofs.PairTells.{pair_told}

rising_told : (n low : ℕ) (ks : List ℕ) → Tells (are_rising n low ks) (AreRising n low ks)
rising_told n low [] = (λ h. tt, λ h. refl)
rising_told n low (k ∷ ks) = tells (nat_lt low k && (nat_le k n && are_rising n k ks)) ((low < k) × ((k ≤ n) × AreRising n k ks)) ((low < k) × (k ≤ n) × AreRising n k ks)
    (tells_both (nat_lt low k) (nat_le k n && are_rising n k ks) (low < k) ((k ≤ n) × AreRising n k ks) (tells_lt low k)
    (tells_both (nat_le k n) (are_rising n k ks) (k ≤ n) (AreRising n k ks) (tells_le k n) (rising_told n k ks)))
    (λ h. (h.0, h.1.0, h.1.1)) (λ h. (h.0, (h.1, h.2)))

module _ (defs : Defs) (program : Program) where
  abbrev CodeFits : Method → Type 0
  CodeFits m = (i : ℕ) (instr : Instr) → slice_get m.code i ≡ Some instr → InstrFits defs program m i instr

  method_told : (m : Method) → Tells (method_fits defs program m) (MethodFits defs program m)
  method_told m = tells (method_fits defs program m) ((m.params ≤ m.slots) × (AreRising m.params 0 m.refs × ((0 < length m.code) × (CodeFits m × All (PairFits defs m) m.pairs)))) (MethodFits defs program m)
      (tells_both (nat_le m.params m.slots) (are_rising m.params 0 m.refs && (nat_lt 0 (length m.code) && (code_fits defs program m 0 m.code && list_all (pair_fits defs m) m.pairs)))
      (m.params ≤ m.slots) (AreRising m.params 0 m.refs × ((0 < length m.code) × (CodeFits m × All (PairFits defs m) m.pairs))) (tells_le m.params m.slots)
      (tells_both (are_rising m.params 0 m.refs) (nat_lt 0 (length m.code) && (code_fits defs program m 0 m.code && list_all (pair_fits defs m) m.pairs))
      (AreRising m.params 0 m.refs) ((0 < length m.code) × (CodeFits m × All (PairFits defs m) m.pairs)) (rising_told m.params 0 m.refs)
      (tells_both (nat_lt 0 (length m.code)) (code_fits defs program m 0 m.code && list_all (pair_fits defs m) m.pairs) (0 < length m.code) (CodeFits m × All (PairFits defs m) m.pairs) (tells_lt 0 (length m.code))
      (tells_both (code_fits defs program m 0 m.code) (list_all (pair_fits defs m) m.pairs) (CodeFits m) (All (PairFits defs m) m.pairs) (code_told defs program m m.code)
      (tells_all (pair_fits defs m) (PairFits defs m) (λ p. pair_told defs m p) m.pairs)))))
      (λ h. record { params = h.0; refs = h.1.0; begins = h.1.1.0; code = h.1.1.1.0; pairs = h.1.1.1.1 })
      (λ f. (f.params, (f.refs, (f.begins, (f.code, f.pairs)))))

  abbrev Each : Type 0
  Each = (k : ℕ) → IsUpTo (length program.methods) k → MethodFits defs program (method_of program k)

  each_forth : All (MethodFits defs program) program.methods → Each
  each_forth h zero upto = let low = upto.0 in absurd (omega arith)
  each_forth h (suc n) upto = let high = upto.1 in h n no_method (omega arith)

  each_back : Each → All (MethodFits defs program) program.methods
  each_back f i d less = subst (MethodFits defs program) (get_or_default program.methods i no_method d less) (f (suc i) (omega arith, omega arith))

  pub program_told : Tells (program_fits defs program) (IsSoundProgram defs program)
  program_told = tells (program_fits defs program) (All (MethodFits defs program) program.methods) (IsSoundProgram defs program) (tells_all (method_fits defs program) (MethodFits defs program) method_told program.methods)
      (λ h. record { methods = each_forth h })
      (λ f. each_back f.methods)
