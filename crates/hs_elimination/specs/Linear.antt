-- Sums of variables over unbounded integers: their addition, multiples, coefficients and width.
use Rattle.std.specs.Prelude.{ℕ, ◌+◌, ◌*◌, ◌==◌, Bool, true, false, ◌&&◌, ◌⊎◌, List, [], ◌∷◌, map, ℤ, pos, negsuc, ◌+ℤ◌, ◌*ℤ◌, nat_lt, if◌then◌else◌, FitsSigned}
use Rattle.std.specs.Ordering.{int_eq}
use mir.Syntax.{w128}
use Rattle.hs_pure.specs.declared.var.Var.{Var}
use Rattle.hs_pure.specs.declared.lin.Lin.{Lin}
use Rattle.hs_pure.specs.Stack.{same}

-- the place of a variable in the order of variables: by number, and of two with one number the bag variable later
abbrev pub place : Var → ℕ
place v = 2 * v.number + (if v.bag then 1 else 0)

-- one more term before the others, unless its coefficient is 0
abbrev pub prepend : Var → ℤ → List (Var × ℤ) → List (Var × ℤ)
prepend v c ts = if int_eq c (pos 0) then ts else (v, c) ∷ ts

-- c * v plus a list of terms; `rest` adds the later terms to what is left of that list
abbrev pub merge_one : Var → ℤ → (List (Var × ℤ) → List (Var × ℤ)) → List (Var × ℤ) → List (Var × ℤ)
merge_one v c rest [] = (v, c) ∷ rest []
merge_one v c rest (t ∷ ts) =
    if nat_lt (place v) (place t.0) then (v, c) ∷ rest (t ∷ ts)
    else (if nat_lt (place t.0) (place v) then t ∷ merge_one v c rest ts
    else prepend v (c +ℤ t.1) (rest ts))

-- two lists of terms added up, in order
abbrev pub merge : List (Var × ℤ) → List (Var × ℤ) → List (Var × ℤ)
merge [] us = us
merge (t ∷ ts) us = merge_one t.0 t.1 (merge ts) us

abbrev pub plus : Lin → Lin → Lin
plus a b = record { terms = merge a.terms b.terms; constant = a.constant +ℤ b.constant }

-- k times one term
abbrev pub scale_term : ℤ → Var × ℤ → Var × ℤ
scale_term k t = (t.0, k *ℤ t.1)

abbrev pub times : ℤ → Lin → Lin
times k a = record { terms = map (scale_term k) a.terms; constant = k *ℤ a.constant }

abbrev pub minus : Lin → Lin → Lin
minus a b = plus (times (negsuc 0) b) a

-- the sum without variables
abbrev pub number : ℤ → Lin
number c = record { terms = []; constant = c }

-- c times the variable x
abbrev pub single : Var → ℤ → Lin
single x c = record { terms = (x, c) ∷ []; constant = pos 0 }

-- ---- the part with a variable, which is given by its place

abbrev pub coefficient : ℕ → List (Var × ℤ) → ℤ
coefficient x [] = pos 0
coefficient x (t ∷ ts) = if place t.0 == x then t.1 else coefficient x ts

abbrev pub without : ℕ → List (Var × ℤ) → List (Var × ℤ)
without x [] = []
without x (t ∷ ts) = if place t.0 == x then without x ts else t ∷ without x ts

abbrev pub rest : ℕ → Lin → Lin
rest x a = record { terms = without x a.terms; constant = a.constant }

-- ---- equal sums

abbrev pub same_terms : List (Var × ℤ) → List (Var × ℤ) → Bool
same_terms [] [] = true
same_terms [] (u ∷ us) = false
same_terms (t ∷ ts) [] = false
same_terms (t ∷ ts) (u ∷ us) = same t.0 u.0 && int_eq t.1 u.1 && same_terms ts us

abbrev pub same_lin : Lin → Lin → Bool
same_lin a b = int_eq a.constant b.constant && same_terms a.terms b.terms

-- ---- width

-- some coefficient passes 128 bits
abbrev pub HasWideTerm : List (Var × ℤ) → Type 0
HasWideTerm [] = ⊥
HasWideTerm (t ∷ ts) = (¬ (FitsSigned w128 t.1)) ⊎ HasWideTerm ts

-- a coefficient or the constant passes 128 bits
abbrev pub IsWideLin : Lin → Type 0
IsWideLin a = (¬ (FitsSigned w128 a.constant)) ⊎ HasWideTerm a.terms
