-- A sum in the place of a variable, in an assertion without quantifiers and bag literals.
use Rattle.std.specs.Prelude.{ℕ, ◌⊎◌}
use Rattle.hs_pure.specs.declared.lin.Lin.{Lin}
use Rattle.hs_pure.specs.Assertion.{Assertion, truth, eq, lt, le, divides, bag_eq, subset, member, all_of, negation, both, either, exists, forall}
use Rattle.hs_elimination.specs.Cases.{substitute_lin}
use Rattle.hs_elimination.specs.Linear.{IsWideLin}

-- u in the place of x; where the assertion is not simple, nothing is meant
abbrev pub substituted : ℕ → Lin → Assertion → Assertion
substituted x u truth = truth
substituted x u (eq a b) = eq (substitute_lin x u a) (substitute_lin x u b)
substituted x u (lt a b) = lt (substitute_lin x u a) (substitute_lin x u b)
substituted x u (le a b) = le (substitute_lin x u a) (substitute_lin x u b)
substituted x u (divides d a) = divides d (substitute_lin x u a)
substituted x u (bag_eq a b) = bag_eq a b
substituted x u (subset a b) = subset a b
substituted x u (member a b) = member a b
substituted x u (all_of v b p) = all_of v b p
substituted x u (negation p) = negation (substituted x u p)
substituted x u (both p q) = both (substituted x u p) (substituted x u q)
substituted x u (either p q) = either (substituted x u p) (substituted x u q)
substituted x u (exists v p) = exists v p
substituted x u (forall v p) = forall v p

-- a number of some sum passes 128 bits
abbrev pub HasWideSum : Assertion → Type 0
HasWideSum truth = ⊥
HasWideSum (eq a b) = IsWideLin a ⊎ IsWideLin b
HasWideSum (lt a b) = IsWideLin a ⊎ IsWideLin b
HasWideSum (le a b) = IsWideLin a ⊎ IsWideLin b
HasWideSum (divides d a) = IsWideLin a
HasWideSum (bag_eq a b) = ⊥
HasWideSum (subset a b) = ⊥
HasWideSum (member a b) = ⊥
HasWideSum (all_of v b p) = ⊥
HasWideSum (negation p) = HasWideSum p
HasWideSum (both p q) = HasWideSum p ⊎ HasWideSum q
HasWideSum (either p q) = HasWideSum p ⊎ HasWideSum q
HasWideSum (exists v p) = ⊥
HasWideSum (forall v p) = ⊥
