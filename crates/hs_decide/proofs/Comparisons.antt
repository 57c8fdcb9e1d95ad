-- A reduction with many comparisons has a large first stage.
use Rattle.std.proofs.Common.{ℕ, ◌+◌, ◌<◌, ◌≤◌, Bool, true, false, not, IsTrue, ◌≡◌, List, [], ◌∷◌, arith}
use Rattle.std.specs.List.{Contains}
use Rattle.hs_pure.specs.declared.var.Var.{Var}
use Rattle.hs_pure.specs.Assertion.{Assertion, truth, eq, lt, le, divides, bag_eq, subset, member, all_of, negation, both, either, exists, forall}
use Rattle.hs_pure.specs.Mirror.{is_free_in}
use Rattle.hs_elimination.specs.Ordered.{has_bag_literal}
use Rattle.hs_elimination.specs.Form.{atoms}
use Rattle.hs_elimination.specs.Normal.{normal}
use Rattle.hs_elimination.specs.Elimination.{normal_form, without_variable}
use Rattle.hs_elimination.specs.Decided.{without_quantifiers}
use Rattle.hs_elimination.proofs.Stage3.{contains_none}
use Rattle.hs_quantifiers.specs.Size.{stage_size, quantifier_size}
use Rattle.hs_quantifiers.proofs.Stages.{max_left, max_right}
use Rattle.hs_plain.specs.Variables.{free_variables}
use Rattle.hs_plain.specs.Size.{chain_size, plain_size}
use Rattle.hs_plain.proofs.Free.{free_in}
use Rattle.hs_bag_parts.specs.Size.{comparisons}

added : (m n k l : ℕ) → m ≤ k → n ≤ l → m + n ≤ k + l
added m n k l h i = omega arith

-- each comparison is at least one atom
pub normal-comparisons : (b : Bool) (p : Assertion) → comparisons p ≤ atoms (normal b (without_quantifiers p))
normal-comparisons b truth = omega arith
normal-comparisons true (eq a c) = omega arith
normal-comparisons false (eq a c) = omega arith
normal-comparisons true (lt a c) = omega arith
normal-comparisons false (lt a c) = omega arith
normal-comparisons true (le a c) = omega arith
normal-comparisons false (le a c) = omega arith
normal-comparisons b (divides d a) = omega arith
normal-comparisons b (bag_eq a c) = omega arith
normal-comparisons b (subset a c) = omega arith
normal-comparisons b (member a c) = omega arith
normal-comparisons b (all_of u c p) = omega arith
normal-comparisons b (negation p) = normal-comparisons (not b) p
normal-comparisons true (both p q) = added (comparisons p) (comparisons q) _ _ (normal-comparisons true p) (normal-comparisons true q)
normal-comparisons false (both p q) = added (comparisons p) (comparisons q) _ _ (normal-comparisons false p) (normal-comparisons false q)
normal-comparisons true (either p q) = added (comparisons p) (comparisons q) _ _ (normal-comparisons true p) (normal-comparisons true q)
normal-comparisons false (either p q) = added (comparisons p) (comparisons q) _ _ (normal-comparisons false p) (normal-comparisons false q)
normal-comparisons b (exists u p) = omega arith
normal-comparisons b (forall u p) = omega arith

less_than : (n m k : ℕ) → n < m → m ≤ k → n < k
less_than n m k h i = omega arith

-- where there is a variable to eliminate, its first stage has them
chain-many : (n : ℕ) (p : Assertion) (v : Var) (vs : List Var) → Contains vs v → n < atoms (normal_form p) → n < chain_size vs p
chain-many n p v [] c h = contains_none v c
chain-many n p v (x ∷ xs) c h =
    max_left n (stage_size x p) (chain_size xs (without_variable x p)) (max_left n (atoms (normal_form p)) _ h)

pub many_atoms : (n : ℕ) (r : Assertion) (v : Var) → has_bag_literal r ≡ false → IsTrue (is_free_in v r) → n < comparisons r → n < plain_size r
many_atoms n r v none free h =
    max_right n (quantifier_size r) (chain_size (free_variables r) (without_quantifiers r))
    (chain-many n (without_quantifiers r) v (free_variables r) (free_in r v none free) (less_than n (comparisons r) _ h (normal-comparisons true r)))
