-- The printed values at which an invariant fails.
use Rattle.std.specs.Prelude.{ℕ, zero, suc, ◌-◌, ◌||◌, Bool, true, false, List, [], ◌∷◌, ◌++◌, filter}
use Rattle.hs_pure.specs.declared.var.Var.{Var}
use Rattle.hs_pure.specs.declared.pure.Pure.{Pure}
use Rattle.hs_pure.specs.declared.valuation.Valuation.{Valuation}
use Rattle.hs_pure.specs.Occurs.{is_free}
use Rattle.hs_heap.specs.declared.definitions.PredDef.{PredDef}
use Rattle.hs_heap.specs.declared.definitions.Defs.{Defs}
use Rattle.hs_xpure.specs.Invariants.{invariant_premise}
use Rattle.hs_numbering.specs.declared.names.Names.{Names}
use Rattle.hs_print.specs.Valuation.{valuation_text}

-- whether a variable is free in a question
abbrev pub is_asked : Pure → Pure → Var → Bool
is_asked left right v = is_free v left || is_free v right

-- the number variable and the bag variable of a number
abbrev pub both_kinds : ℕ → List Var
both_kinds n = record { number = n; bag = false } ∷ record { number = n; bag = true } ∷ []

-- the variables with a number from 1 to n that pass a test, by rising number
abbrev pub passing_to : (Var → Bool) → ℕ → List Var
passing_to test zero = []
passing_to test (suc n) = passing_to test n ++ filter test (both_kinds (suc n))

-- the free variables of the question with a number of the predicate: the premise's new numbers have no source name
abbrev pub shown_variables : Defs → PredDef → List Var
shown_variables defs p = passing_to (is_asked (invariant_premise defs p) p.inv) (p.next - 1)

-- the values of those that have a source name
abbrev pub values_text : Defs → PredDef → Names → Valuation → List ℕ
values_text defs p names v = valuation_text names (shown_variables defs p) v
