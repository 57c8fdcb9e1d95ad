-- A sum in order has one term of each variable that is in it.
use Rattle.std.proofs.Common.{◌≡◌, ℕ, zero, suc, ◌<◌, ◌≤◌, ℤ, pos, ◌+ℤ◌, true, inl, inr, List, [], ◌∷◌, length, drop, get_or, refl, ap, ◌∙◌, arith}
use Rattle.std.proofs.Math.IntN.{+ℤ_idr}
use Rattle.hs_pure.specs.declared.var.Var.{Var}
use Rattle.hs_pure.specs.Stack.{same}
use Rattle.hs_pure.specs.Sums.{RisesFrom}
use Rattle.hs_pure.proofs.Vars.{same-eq}
use Rattle.hs_heap.proofs.Booleans.{bool_cases}
use Rattle.hs_rules.specs.Conditions.{coefficient_in}
use Rattle.hs_side_rules.proofs.Valued.{coefficient-other}

coefficient-same : (v : Var) (t : Var × ℤ) (ts : List (Var × ℤ)) → same t.0 v ≡ true → coefficient_in v (t ∷ ts) ≡ t.1 +ℤ coefficient_in v ts
coefficient-same v t ts e = rw e refl

-- what has a smaller number is in none of the terms
before : (n : ℕ) (v : Var) (ts : List (Var × ℤ)) → RisesFrom n ts → v.number < n → coefficient_in v ts ≡ pos 0
before n v [] rises less = refl
before n v (t ∷ ts) rises less = elim (bool_cases (same t.0 v)) [
  | inl is ↦ let e = ap (λ (u : Var). u.number) (same-eq t.0 v is) in let low : n ≤ t.0.number = rises.0 in absurd (omega arith)
  | inr isnt ↦ let low : n ≤ t.0.number = rises.0 in coefficient-other v t ts isnt ∙ before (suc t.0.number) v ts rises.3 (omega arith)
]

at_first : (n : ℕ) (v : Var) (t : Var × ℤ) (ts : List (Var × ℤ)) → RisesFrom n (t ∷ ts) → same t.0 v ≡ true → coefficient_in v (t ∷ ts) ≡ t.1
at_first n v t ts rises is =
    let e = ap (λ (u : Var). u.number) (same-eq t.0 v is) in
    let rest : coefficient_in v ts ≡ pos 0 = before (suc t.0.number) v ts rises.3 (omega arith) in
    coefficient-same v t ts is ∙ ap (λ x. t.1 +ℤ x) rest ∙ +ℤ_idr t.1

-- from the term of v on
pub at_term : (n : ℕ) (v : Var) (ts : List (Var × ℤ)) (i : ℕ) (d : Var × ℤ) → RisesFrom n ts → i < length ts → same (get_or ts i d).0 v ≡ true → coefficient_in v (drop i ts) ≡ (get_or ts i d).1
at_term n v [] i d rises less is = absurd (omega arith)
at_term n v (t ∷ ts) zero d rises less is = at_first n v t ts rises is
at_term n v (t ∷ ts) (suc i) d rises less is = at_term (suc t.0.number) v ts i d rises.3 (omega arith) is
