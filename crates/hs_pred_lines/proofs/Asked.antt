-- Free variables of questions, number by number.
use Rattle.std.proofs.Common.{◌≡◌, ℕ, suc, Bool, ◌++◌, filter, refl, sym, subst}
use Rattle.hs_pure.specs.declared.var.Var.{Var}
use Rattle.hs_pred_lines.specs.Values.{both_kinds, passing_to}

pub passing_more : (test : Var → Bool) (n k : ℕ) → n ≡ suc k → passing_to test n ≡ passing_to test k ++ filter test (both_kinds n)
passing_more test n k e = subst (λ (m : ℕ). passing_to test m ≡ passing_to test k ++ filter test (both_kinds m)) (sym e) refl
