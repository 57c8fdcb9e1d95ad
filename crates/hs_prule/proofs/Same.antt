-- What is answered of equal states and goals.
use Rattle.std.proofs.Common.{◌≡◌, ℕ, suc, ◌+◌, ◌≤◌, ◌^◌, List, Result, subst, arith}
use Rattle.hs_pure.specs.declared.var.Var.{Var}
use Rattle.hs_heap.specs.declared.formula.Formula.{Formula}
use Rattle.hs_goal.specs.declared.goal.Goal.{Goal}
use Rattle.hs_sides.specs.declared.error.RuleError.{RuleError}
use Rattle.hs_sides.specs.Answers.{IsGiven}
use Rattle.hs_core.specs.declared.state.At.{At}
use Rattle.hs_program_rules.specs.States.{Held}
use Rattle.hs_program_rules.specs.Parts.{goes, asked}

pub one_more : (n : ℕ) → n + 1 ≡ suc n
one_more n = omega arith

pub goes_same : (at : At) {p q : ℕ} {h k : Held} {f g : Formula} (found : Result At RuleError) → p ≡ q → h ≡ k → f ≡ g →
    IsGiven ((goes at p h f).state.next ≤ 2 ^ 30) (goes at p h f) found → IsGiven ((goes at q k g).state.next ≤ 2 ^ 30) (goes at q k g) found
goes_same at found a b c given = subst (λ (s : At). IsGiven (s.state.next ≤ 2 ^ 30) s found) (λ i. goes at (a i) (b i) (c i)) given

pub asked_same : (at : At) {m n : ℕ} {vs ws : List Var} {f g : Formula} (found : Result Goal RuleError) → m ≡ n → vs ≡ ws → f ≡ g →
    IsGiven ((asked at m vs f).next ≤ 2 ^ 30) (asked at m vs f) found → IsGiven ((asked at n ws g).next ≤ 2 ^ 30) (asked at n ws g) found
asked_same at found a b c given = subst (λ (s : Goal). IsGiven (s.next ≤ 2 ^ 30) s found) (λ i. asked at (a i) (b i) (c i)) given
