-- The free variables of an assertion, by rising number.
use Rattle.std.specs.Prelude.{◌≡◌, ℕ, suc, ◌≤◌, ℤ, false, List, [], ◌∷◌, nat_lt, if◌then◌else◌}
use Rattle.std.specs.List.{filter}
use Rattle.hs_pure.specs.declared.var.Var.{Var}
use Rattle.hs_pure.specs.declared.lin.Lin.{Lin}
use Rattle.hs_pure.specs.Assertion.{Assertion}
use Rattle.hs_pure.specs.Stack.{same}
use Rattle.hs_pure.specs.Mirror.{is_free_in}
use Rattle.hs_elimination.specs.Ordered.{assertion_sums}

-- v at its place among variables by rising number, unless it is there
abbrev pub inserted : Var → List Var → List Var
inserted v [] = v ∷ []
inserted v (u ∷ us) =
    if nat_lt u.number v.number then u ∷ inserted v us
    else (if same u v then u ∷ us else v ∷ u ∷ us)

-- the variables of the terms as well
abbrev pub with_terms : List (Var × ℤ) → List Var → List Var
with_terms [] vs = vs
with_terms (t ∷ ts) vs = with_terms ts (inserted t.0 vs)

-- the variables of the sums as well
abbrev pub with_sums : List Lin → List Var → List Var
with_sums [] vs = vs
with_sums (a ∷ as') vs = with_sums as' (with_terms a.terms vs)

-- those that occur in a sum, by rising number, each once
abbrev pub variables : Assertion → List Var
variables p = with_sums (assertion_sums p) []

-- those of them that occur free
abbrev pub free_variables : Assertion → List Var
free_variables p = filter (λ v. is_free_in v p) (variables p)

-- number variables from n on, by rising number, each once
abbrev pub RiseFrom : ℕ → List Var → Type 0
RiseFrom n [] = Unit {0}
RiseFrom n (v ∷ vs) = (n ≤ v.number) × (v.bag ≡ false) × RiseFrom (suc v.number) vs
