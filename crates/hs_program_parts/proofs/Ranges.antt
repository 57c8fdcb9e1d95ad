-- Number variables one after another.
use Rattle.std.proofs.Common.{◌≡◌, ℕ, zero, suc, ◌+◌, ◌<◌, ◌≤◌, ◌&&◌, not, nat_le, false, List, [], ◌∷◌, ◌++◌, length, refl, ap, ◌∙◌, arith}
use Rattle.hs_pure.specs.declared.var.Var.{Var}
use Rattle.hs_heap.specs.Meaning.{is_in}
use Rattle.hs_heap.proofs.Tells.{Tells, tells_both, tells_not, tells_le}
use Rattle.hs_core.specs.declared.program.Method.{Method}
use Rattle.hs_core.specs.Sound.{vars_from, param_vars, reserved_vars}
use Rattle.hs_core.proofs.GivenVars.{in_from, from_in, equal_tests}
use Rattle.hs_program_rules.specs.States.{number_var}
use Rattle.hs_program_parts.specs.Pairs.{is_between}

pub from_more : (f n : ℕ) → vars_from f (suc n) ≡ vars_from f n ++ number_var (f + n) ∷ []
from_more f zero = let e : f ≡ f + 0 = omega arith in λ i. number_var (e i) ∷ []
from_more f (suc n) = let e : suc f + n ≡ f + suc n = omega arith in ap (λ vs. number_var f ∷ vs) (from_more (suc f) n) ∙ (λ i. number_var f ∷ (vars_from (suc f) n ++ number_var (e i) ∷ []))

between_told : (low high : ℕ) (v : Var) → Tells (is_between low high v) ((v.bag ≡ false) × ((low ≤ v.number) × (v.number ≤ high)))
between_told low high v = tells_both (not v.bag) (nat_le low v.number && nat_le v.number high) (v.bag ≡ false) ((low ≤ v.number) × (v.number ≤ high)) (tells_not v.bag)
    (tells_both (nat_le low v.number) (nat_le v.number high) (low ≤ v.number) (v.number ≤ high) (tells_le low v.number) (tells_le v.number high))

between : (f n high : ℕ) (v : Var) → f + n ≡ suc high → is_between f high v ≡ is_in v (vars_from f n)
between f n high v e = equal_tests (is_between f high v) (is_in v (vars_from f n))
    (λ h. let parts = (between_told f high v).0 h in let low = parts.1.0 in let up = parts.1.1 in from_in v f n parts.0 low (omega arith))
    (λ h. let there = in_from v f n h in let low = there.1 in let up = there.2 in (between_told f high v).1 (there.0, (low, omega arith)))

pub param_is : (m : Method) (v : Var) → is_between 1 m.params v ≡ is_in v (param_vars m)
param_is m v = between 1 m.params m.params v (omega arith)

pub reserved_is : (m : Method) (v : Var) → is_between (m.params + 1) (m.params + length m.refs + 1) v ≡ is_in v (reserved_vars m)
reserved_is m v = let e : m.params + 1 ≡ suc m.params = omega arith in ap (λ k. is_between k (m.params + length m.refs + 1) v) e ∙ between (suc m.params) (suc (length m.refs)) (m.params + length m.refs + 1) v (omega arith)

pub from_next : (f n : ℕ) → vars_from f (n + 1) ≡ vars_from f n ++ number_var (f + n) ∷ []
from_next f n = let e : n + 1 ≡ suc n = omega arith in ap (vars_from f) e ∙ from_more f n
