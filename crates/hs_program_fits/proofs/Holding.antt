-- Slots that hold variables: at a start, and after more slots get variables.
use Rattle.std.proofs.Common.{ℕ, zero, suc, ◌≡◌, ◌==◌, ◌+◌, ◌-◌, ◌<◌, ◌⊎◌, inl, inr, true, List, [], ◌∷◌, ◌++◌, length, map, replicate, slice_set, slice_index_or, Option, Some, None, refl, sym, ◌∙◌, ap, arith}
use Rattle.std.proofs.lemmas.Bool.Decides.{nat_tests}
use Rattle.hs_pure.specs.declared.var.Var.{Var}
use Rattle.hs_core.specs.declared.program.Method.{Method}
use Rattle.hs_core.specs.Set.{IsGiven}
use Rattle.hs_core.specs.Sound.{IsUpTo, vars_from}
use Rattle.hs_program_rules.specs.States.{Held, held_in, var_or, number_var, variable_in, IsHeld, entry_held}
use Rattle.hs_program_rules.specs.Parts.{with_held, all_held}
use Rattle.hs_program_rules.proofs.Fitting.{held_set}

pub held_is : (held : Held) (k : ℕ) (v : Var) → held_in held k ≡ Some v → IsHeld held k
held_is held k v e = e ∙ ap (λ o. Some (var_or (number_var 0) o)) (sym e)

-- ---- more slots get variables

some_kept : (xs : Held) (i j : ℕ) (u v : Var) → slice_index_or xs j None ≡ Some v → (w : Var) × (slice_index_or (slice_set xs i (Some u)) j None ≡ Some w)
some_kept [] i j u v e = (v, e)
some_kept (x ∷ xs) zero zero u v e = (u, refl)
some_kept (x ∷ xs) zero (suc j) u v e = (v, e)
some_kept (x ∷ xs) (suc i) zero u v e = (v, e)
some_kept (x ∷ xs) (suc i) (suc j) u v e = some_kept xs i j u v e

pub with_held-keeps : (held : Held) (to k : ℕ) (u : Var) → IsHeld held k → IsHeld (with_held held to u) k
with_held-keeps held to zero u e = absurd (cc)
with_held-keeps held to (suc j) u e =
    let (w, is) = some_kept held (to - 1) j u (variable_in held (suc j)) e in
    held_is (with_held held to u) (suc j) w is

pub with_held-holds : (held : Held) (to : ℕ) (u : Var) → IsUpTo (length held) to → IsHeld (with_held held to u) to
with_held-holds held to u there =
    let t : (to == to) ≡ true = grind (arith, nat_tests) in
    held_is (with_held held to u) to u (held_set held to to u there ∙ rw t refl)

pub all_held-keeps : (held : Held) (ks : List ℕ) (us : List Var) (k : ℕ) → IsHeld held k → IsHeld (all_held held ks us) k
all_held-keeps held [] us k e = e
all_held-keeps held (j ∷ ks) [] k e = e
all_held-keeps held (j ∷ ks) (u ∷ us) k e = with_held-keeps (all_held held ks us) j k u (all_held-keeps held ks us k e)

-- what is given after a write was written or given before
pub written_or_given : (m : Method) (to : ℕ) (written : List ℕ) (k : ℕ) → IsGiven m (to ∷ written) k → (to ≡ k) ⊎ IsGiven m written k
written_or_given m to written k (inl low) = inr (inl low)
written_or_given m to written k (inr (zero, less, is)) = inl is
written_or_given m to written k (inr (suc j, less, is)) = inr (inr (j, omega arith, is))

-- ---- the start of a pair

entry_at : (from count : ℕ) (others : List (Option Var)) (i : ℕ) → i < count → slice_index_or (map (λ v. Some v) (vars_from from count) ++ others) i None ≡ Some (number_var (from + i))
entry_at from zero others i less = absurd (omega arith)
entry_at from (suc count) others zero less = let e : from ≡ from + 0 = omega arith in ap (λ n. Some (number_var n)) e
entry_at from (suc count) others (suc i) less =
    let e : suc from + i ≡ from + suc i = omega arith in
    entry_at (suc from) count others i (omega arith) ∙ ap (λ n. Some (number_var n)) e

-- each parameter is held
pub entry_held-holds : (m : Method) (k : ℕ) → IsUpTo m.params k → IsHeld (entry_held m) k
entry_held-holds m zero (low, high) = absurd (omega arith)
entry_held-holds m (suc i) (low, high) = held_is (entry_held m) (suc i) (number_var (1 + i)) (entry_at 1 m.params (replicate (m.slots - m.params) None) i (omega arith))
