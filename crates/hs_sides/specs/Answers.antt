-- What is answered of a rule.
use Rattle.std.specs.Prelude.{◌≡◌, Result, Ok, Err}
use Rattle.hs_sides.specs.declared.error.RuleError.{RuleError}
use Rattle.hs_sides.specs.declared.error.RuleError.TheVariants.{NotApplicable, Memory}

-- this value exactly where a condition holds; after want of memory nothing is said
abbrev pub IsGiven : {A : Type 0} → Type 0 → A → Result A RuleError → Type 0
IsGiven condition expected (Ok found) = condition × (found ≡ expected)
IsGiven condition expected (Err NotApplicable) = ¬ condition
IsGiven condition expected (Err Memory) = Unit {0}
