-- What is asked of the sums of a formula: small coefficients, and terms in order.
use Rattle.std.specs.Prelude.{◌≡◌, ℕ, suc, ◌+◌, ◌≤◌, ◌^◌, ℤ, pos, false, unsigned_abs, List, [], ◌∷◌}
use Rattle.std.specs.List.{All}
use Rattle.hs_pure.specs.declared.var.Var.{Var}
use Rattle.hs_pure.specs.declared.lin.Lin.{Lin}
use Rattle.hs_pure.specs.declared.pure.Pure.{Pure}
use Rattle.hs_pure.specs.Rename.{sums}

-- the absolute coefficients, added up
abbrev pub weight : List (Var × ℤ) → ℕ
weight [] = 0
weight (t ∷ ts) = unsigned_abs t.1 + weight ts

-- the absolute coefficients and the constant add up to at most 2^126
abbrev pub LinIsLight : Lin → Type 0
LinIsLight a = weight a.terms + unsigned_abs a.constant ≤ 2 ^ 126

-- each sum of the formula is light
abbrev pub IsLight : Pure → Type 0
IsLight p = All LinIsLight (sums p)

-- the terms are of number variables from n on, by rising number, without coefficient 0
abbrev pub RisesFrom : ℕ → List (Var × ℤ) → Type 0
RisesFrom n [] = Unit {0}
RisesFrom n (t ∷ ts) = (n ≤ t.0.number) × (t.0.bag ≡ false) × (¬ (t.1 ≡ pos 0)) × RisesFrom (suc t.0.number) ts

abbrev pub LinIsOrdered : Lin → Type 0
LinIsOrdered a = RisesFrom 0 a.terms

-- each sum of the formula is in order
abbrev pub IsOrdered : Pure → Type 0
IsOrdered p = All LinIsOrdered (sums p)

-- number variables stay number variables, and bag variables bag variables
abbrev pub KeepsKinds : (Var → Var) → Type 0
KeepsKinds ρ = (v : Var) → (ρ v).bag ≡ v.bag
