-- The truth of a pure formula at a stack.
use Rattle.std.specs.Prelude.{◌≡◌, ℕ, ◌+◌, ◌-◌, min, ◌<◌, ◌≤◌, ℤ, pos, ◌+ℤ◌, ◌*ℤ◌, ◌<ℤ◌, ◌≤ℤ◌, List, [], ◌∷◌, ◌⊎◌, if◌then◌else◌}
use Rattle.std.specs.Ordering.{int_eq}
use Rattle.hs_pure.specs.Multiset
use Rattle.hs_pure.specs.Stack.{Stack, with_value, number_value}
use Rattle.hs_pure.specs.Assertion.{BagTerm, empty, name, one, union, inter, diff, Assertion, truth, eq, lt, le, divides, bag_eq, subset, member, all_of, negation, both, either, exists, forall, assertion_of}
use Rattle.hs_pure.specs.declared.var.Var.{Var}
use Rattle.hs_pure.specs.declared.lin.Lin.{Lin}
use Rattle.hs_pure.specs.declared.pure.Pure.{Pure}

-- each coefficient times the value of its variable, added up
abbrev pub sum_at : Stack → List (Var × ℤ) → ℤ
sum_at s [] = pos 0
sum_at s (t ∷ ts) = t.1 *ℤ (s t.0).number +ℤ sum_at s ts

abbrev pub value : Stack → Lin → ℤ
value s a = sum_at s a.terms +ℤ a.constant

-- how often x is in the bag
abbrev pub count : Stack → BagTerm → ℤ → ℕ
count s empty x = 0
count s (name v) x = Multiset.count (s v).bag x
count s (one a) x = if int_eq (value s a) x then 1 else 0
count s (union a b) x = count s a x + count s b x
count s (inter a b) x = min (count s a x) (count s b x)
count s (diff a b) x = count s a x - count s b x

-- quantifiers range over all integers
abbrev pub IsTrueAt : Stack → Assertion → Type 0
IsTrueAt s truth = Unit {0}
IsTrueAt s (eq a b) = value s a ≡ value s b
IsTrueAt s (lt a b) = value s a <ℤ value s b
IsTrueAt s (le a b) = value s a ≤ℤ value s b
IsTrueAt s (divides d a) = (pos 1 ≤ℤ d) × ((k : ℤ) × (value s a ≡ k *ℤ d))
IsTrueAt s (bag_eq a b) = (x : ℤ) → count s a x ≡ count s b x
IsTrueAt s (subset a b) = (x : ℤ) → count s a x ≤ count s b x
IsTrueAt s (member a b) = 0 < count s b (value s a)
IsTrueAt s (all_of u b p) = (x : ℤ) → 0 < count s b x → IsTrueAt (with_value u (number_value x) s) p
IsTrueAt s (negation p) = ¬ (IsTrueAt s p)
IsTrueAt s (both p q) = IsTrueAt s p × IsTrueAt s q
IsTrueAt s (either p q) = IsTrueAt s p ⊎ IsTrueAt s q
IsTrueAt s (exists u p) = (x : ℤ) × IsTrueAt (with_value u (number_value x) s) p
IsTrueAt s (forall u p) = (x : ℤ) → IsTrueAt (with_value u (number_value x) s) p

-- a formula of the program is true at a stack
abbrev pub TrueAt : Stack → Pure → Type 0
TrueAt s p = IsTrueAt s (assertion_of p)
