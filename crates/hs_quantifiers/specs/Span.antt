-- Where a number of these stages passes 128 bits.
use Rattle.std.specs.Prelude.{◌⊎◌}
use Rattle.hs_pure.specs.declared.var.Var.{Var}
use Rattle.hs_pure.specs.Assertion.{Assertion, truth, eq, lt, le, divides, bag_eq, subset, member, all_of, negation, both, either, exists, forall}
use Rattle.hs_elimination.specs.Form.{IsWide}
use Rattle.hs_elimination.specs.Elimination.{normal_form, scaled_form, HasWideCases}
use Rattle.hs_elimination.specs.Decided.{without_quantifiers}

-- a number of the three stages that eliminate x passes 128 bits
abbrev pub HasWideStages : Var → Assertion → Type 0
HasWideStages x p = IsWide (normal_form p) ⊎ IsWide (scaled_form x p) ⊎ HasWideCases x p

-- a number of the stages that eliminate the quantifiers, innermost first, passes 128 bits
abbrev pub HasWideQuantifiers : Assertion → Type 0
HasWideQuantifiers truth = ⊥
HasWideQuantifiers (eq a b) = ⊥
HasWideQuantifiers (lt a b) = ⊥
HasWideQuantifiers (le a b) = ⊥
HasWideQuantifiers (divides d a) = ⊥
HasWideQuantifiers (bag_eq a b) = ⊥
HasWideQuantifiers (subset a b) = ⊥
HasWideQuantifiers (member a b) = ⊥
HasWideQuantifiers (all_of u b p) = ⊥
HasWideQuantifiers (negation p) = HasWideQuantifiers p
HasWideQuantifiers (both p q) = HasWideQuantifiers p ⊎ HasWideQuantifiers q
HasWideQuantifiers (either p q) = HasWideQuantifiers p ⊎ HasWideQuantifiers q
HasWideQuantifiers (exists u p) = HasWideQuantifiers p ⊎ HasWideStages u (without_quantifiers p)
HasWideQuantifiers (forall u p) = HasWideQuantifiers p ⊎ HasWideStages u (negation (without_quantifiers p))
