-- An assertion with a term for a variable, without capture: bound variables get new numbers by their depth.
use Rattle.std.specs.Prelude.{ℕ, suc, max, pos, if◌then◌else◌}
use Rattle.std.specs.List.{fold}
use Rattle.hs_pure.specs.declared.var.Var.{Var}
use Rattle.hs_pure.specs.declared.lin.Lin.{Lin}
use Rattle.hs_pure.specs.Stack.{same}
use Rattle.hs_pure.specs.Assertion.{Assertion, truth, eq, lt, le, divides, bag_eq, subset, member, all_of, negation, both, either, exists, forall}
use Rattle.hs_elimination.specs.Linear.{number, single, plus, times}
use Rattle.hs_reduction.specs.Layout.{number_variable, variable}

-- what stands for each variable
abbrev pub Substitution : Type 0
Substitution = Var → Lin

abbrev pub itself : Substitution
itself v = single v (pos 1)

abbrev pub instead : Var → Lin → Substitution → Substitution
instead u a f v = if same u v then a else f v

-- each coefficient times what stands for its variable, added up in order
abbrev pub substituted_lin : Substitution → Lin → Lin
substituted_lin f a = fold (λ sum t. plus sum (times t.1 (f t.0))) (number a.constant) a.terms

-- bound variables get the numbers from n on, by their depth; no bag literal stands in what is substituted in
abbrev pub substituted : Substitution → ℕ → Assertion → Assertion
substituted f n truth = truth
substituted f n (eq a b) = eq (substituted_lin f a) (substituted_lin f b)
substituted f n (lt a b) = lt (substituted_lin f a) (substituted_lin f b)
substituted f n (le a b) = le (substituted_lin f a) (substituted_lin f b)
substituted f n (divides d a) = divides d (substituted_lin f a)
substituted f n (bag_eq a b) = truth
substituted f n (subset a b) = truth
substituted f n (member a b) = truth
substituted f n (all_of u b p) = truth
substituted f n (negation p) = negation (substituted f n p)
substituted f n (both p q) = both (substituted f n p) (substituted f n q)
substituted f n (either p q) = either (substituted f n p) (substituted f n q)
substituted f n (exists u p) = exists (number_variable n) (substituted (instead u (variable n) f) (suc n) p)
substituted f n (forall u p) = forall (number_variable n) (substituted (instead u (variable n) f) (suc n) p)

-- how many quantifiers stand in one another
abbrev pub depth : Assertion → ℕ
depth truth = 0
depth (eq a b) = 0
depth (lt a b) = 0
depth (le a b) = 0
depth (divides d a) = 0
depth (bag_eq a b) = 0
depth (subset a b) = 0
depth (member a b) = 0
depth (all_of u b p) = 0
depth (negation p) = depth p
depth (both p q) = max (depth p) (depth q)
depth (either p q) = max (depth p) (depth q)
depth (exists u p) = suc (depth p)
depth (forall u p) = suc (depth p)

-- how an instance says that a term stands for a variable
pub data Instance : Type 0 where
  replaced : Instance  -- the term stands in its place
  stated : Instance  -- a new bound variable is equal to the term and stands in its place, so that no product is formed

-- p with a for u
abbrev pub instance : Instance → Var → Lin → ℕ → Assertion → Assertion
instance replaced u a n p = substituted (instead u a itself) n p
instance stated u a n p = exists (number_variable n) (both (eq (variable n) a) (substituted (instead u (variable n) itself) (suc n) p))

-- how many bound variables in one another an instance has
abbrev pub instance_depth : Instance → Assertion → ℕ
instance_depth replaced p = depth p
instance_depth stated p = suc (depth p)
