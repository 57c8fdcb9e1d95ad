-- Where sums of numbers that fit 128 bits pass them.
use Rattle.std.specs.Prelude.{◌≡◌, ℕ, ◌⊎◌, ℤ, ◌+ℤ◌, List, [], ◌∷◌, FitsSigned}
use mir.Syntax.{w128}
use Rattle.hs_pure.specs.declared.var.Var.{Var}
use Rattle.hs_pure.specs.declared.lin.Lin.{Lin}
use Rattle.hs_elimination.specs.Linear.{place, merge, times, HasWideTerm, IsWideLin}

-- some term has the variable of a place
abbrev pub HasPlace : ℕ → List (Var × ℤ) → Type 0
HasPlace x [] = ⊥
HasPlace x (t ∷ ts) = (place t.0 ≡ x) ⊎ HasPlace x ts

-- some variable has a term in both
abbrev pub SharePlace : List (Var × ℤ) → List (Var × ℤ) → Type 0
SharePlace [] us = ⊥
SharePlace (t ∷ ts) us = HasPlace (place t.0) us ⊎ SharePlace ts us

-- k fits, and a number of k times a sum does not
abbrev pub TimesIsWide : ℤ → Lin → Type 0
TimesIsWide k a = FitsSigned w128 k × IsWideLin (times k a)

-- the constants add up to one that does not fit, or coefficients of one variable do
abbrev pub PlusIsWide : Lin → Lin → Type 0
PlusIsWide a b =
    (FitsSigned w128 a.constant × (¬ (FitsSigned w128 (a.constant +ℤ b.constant))))
    ⊎ (SharePlace a.terms b.terms × HasWideTerm (merge a.terms b.terms))
