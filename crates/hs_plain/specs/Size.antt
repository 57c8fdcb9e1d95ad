-- The size of a question: the most atoms that a stage of its plain decision has.
use Rattle.std.specs.Prelude.{ℕ, max, List, [], ◌∷◌}
use Rattle.hs_pure.specs.declared.var.Var.{Var}
use Rattle.hs_pure.specs.Assertion.{Assertion}
use Rattle.hs_elimination.specs.Elimination.{without_variable}
use Rattle.hs_elimination.specs.Decided.{without_quantifiers}
use Rattle.hs_quantifiers.specs.Size.{stage_size, quantifier_size}
use Rattle.hs_plain.specs.Variables.{free_variables}

-- the most atoms of the stages that eliminate the variables one after another
abbrev pub chain_size : List Var → Assertion → ℕ
chain_size [] p = 0
chain_size (x ∷ xs) p = max (stage_size x p) (chain_size xs (without_variable x p))

-- the quantifiers go first, and then the free variables
abbrev pub plain_size : Assertion → ℕ
plain_size q = max (quantifier_size q) (chain_size (free_variables q) (without_quantifiers q))
