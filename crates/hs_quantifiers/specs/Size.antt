-- The size of the stages that eliminate a variable, and of those that eliminate the quantifiers of a formula.
use Rattle.std.specs.Prelude.{ℕ, max}
use Rattle.hs_pure.specs.declared.var.Var.{Var}
use Rattle.hs_pure.specs.Assertion.{Assertion, truth, eq, lt, le, divides, bag_eq, subset, member, all_of, negation, both, either, exists, forall}
use Rattle.hs_elimination.specs.Form.{atoms}
use Rattle.hs_elimination.specs.Elimination.{normal_form, scaled_form, cases_form}
use Rattle.hs_elimination.specs.Decided.{without_quantifiers}

-- the most atoms of the three stages that eliminate x
abbrev pub stage_size : Var → Assertion → ℕ
stage_size x p = max (atoms (normal_form p)) (max (atoms (scaled_form x p)) (atoms (cases_form x p)))

-- the most atoms of the stages that eliminate the quantifiers, innermost first
abbrev pub quantifier_size : Assertion → ℕ
quantifier_size truth = 0
quantifier_size (eq a b) = 0
quantifier_size (lt a b) = 0
quantifier_size (le a b) = 0
quantifier_size (divides d a) = 0
quantifier_size (bag_eq a b) = 0
quantifier_size (subset a b) = 0
quantifier_size (member a b) = 0
quantifier_size (all_of u b p) = 0
quantifier_size (negation p) = quantifier_size p
quantifier_size (both p q) = max (quantifier_size p) (quantifier_size q)
quantifier_size (either p q) = max (quantifier_size p) (quantifier_size q)
quantifier_size (exists u p) = max (quantifier_size p) (stage_size u (without_quantifiers p))
quantifier_size (forall u p) = max (quantifier_size p) (stage_size u (negation (without_quantifiers p)))
