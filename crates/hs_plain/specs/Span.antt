-- Where a number of the plain decision of a question passes 128 bits.
use Rattle.std.specs.Prelude.{◌⊎◌, Option, None, Some, ℤ, pos, List, [], ◌∷◌}
use Rattle.hs_pure.specs.declared.var.Var.{Var}
use Rattle.hs_pure.specs.Assertion.{Assertion}
use Rattle.hs_pure.specs.Stack.{Stack, with_value, number_value}
use Rattle.hs_pure.specs.Truth.{IsTrueAt}
use Rattle.hs_pure.specs.Eval.{NumbersFit}
use Rattle.hs_elimination.specs.Elimination.{without_variable}
use Rattle.hs_elimination.specs.Decided.{without_quantifiers}
use Rattle.hs_elimination.specs.Witness.{PassesValues, plain_value}
use Rattle.hs_quantifiers.specs.Span.{HasWideStages, HasWideQuantifiers}
use Rattle.hs_plain.specs.Variables.{free_variables}

-- ---- values

-- each variable is 0
abbrev pub zeros : Stack
zeros v = number_value (pos 0)

-- 0 where there is no value
abbrev pub value_or_zero : Option ℤ → ℤ
value_or_zero None = pos 0
value_or_zero (Some y) = y

-- the values of the variables, found in the reverse order of their elimination
abbrev pub plain_stack : List Var → Assertion → Stack
plain_stack [] p = zeros
plain_stack (x ∷ xs) p =
    let later = plain_stack xs (without_variable x p) in
    with_value x (number_value (value_or_zero (plain_value later x p))) later

-- where the later variables have values, a number of the search for that of x passes 128 bits
abbrev pub HasWideValue : Var → List Var → Assertion → Type 0
HasWideValue x xs p =
    let rest = without_variable x p in
    IsTrueAt (plain_stack xs rest) rest × PassesValues (plain_stack xs rest) x p

-- a number passes 128 bits: of the stages that eliminate the variables, of what is left, or of the search for values
abbrev pub HasWideChain : List Var → Assertion → Type 0
HasWideChain [] p = ¬ (NumbersFit zeros p)
HasWideChain (x ∷ xs) p = HasWideStages x p ⊎ HasWideChain xs (without_variable x p) ⊎ HasWideValue x xs p

-- ---- questions

-- the plain values of the free variables
abbrev pub plain_values : Assertion → Stack
plain_values q = plain_stack (free_variables q) (without_quantifiers q)

-- some number of the plain decision passes 128 bits
abbrev pub PlainIsWide : Assertion → Type 0
PlainIsWide q = HasWideQuantifiers q ⊎ HasWideChain (free_variables q) (without_quantifiers q)
