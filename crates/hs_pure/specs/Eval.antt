-- The stack of a valuation, and the numbers of an evaluation.
use Rattle.std.specs.Prelude.{ℕ, ◌^◌, ◌<◌, ℤ, pos, negsuc, ◌+ℤ◌, ◌*ℤ◌, Bool, true, false, List, [], ◌∷◌, if◌then◌else◌, FitsSigned}
use Rattle.std.specs.List.{list_any}
use Rattle.std.specs.Ordering.{int_eq}
use mir.Syntax.{w128}
use Rattle.hs_pure.specs.declared.var.Var.{Var}
use Rattle.hs_pure.specs.declared.lin.Lin.{Lin}
use Rattle.hs_pure.specs.declared.pure.Pure.{Pure, fold-Pure}
use Rattle.hs_pure.specs.declared.pure.Pure.TheOpen.{Pure-F}
use Rattle.hs_pure.specs.declared.valuation.Valuation.{Valuation}
use Rattle.hs_pure.specs.Multiset.{Multiset, nothing, set_count}
use Rattle.hs_pure.specs.Stack.{Stack, same, with_value, number_value}
use Rattle.hs_pure.specs.Assertion.{BagTerm, empty, name, one, union, inter, diff, Assertion, truth, eq, lt, le, divides, bag_eq, subset, member, all_of, negation, both, either, exists, forall}
use Rattle.hs_pure.specs.Truth.{value, count}

-- the number of a variable: its first pair counts, and without one it is 0
abbrev pub found : List (Var × ℤ) → Var → ℤ
found [] v = pos 0
found (m ∷ ms) v = if same m.0 v then m.1 else found ms v

-- the elements of a variable with their counts: its first pair counts, and without one there are none
abbrev pub found_bag : List (Var × List (ℤ × ℤ)) → Var → List (ℤ × ℤ)
found_bag [] v = []
found_bag (m ∷ ms) v = if same m.0 v then m.1 else found_bag ms v

-- below 0 it is 0
abbrev pub natural : ℤ → ℕ
natural (pos n) = n
natural (negsuc n) = 0

-- the count that is listed of x
abbrev pub listed_count : List (ℤ × ℤ) → ℤ → ℕ
listed_count [] x = 0
listed_count (e ∷ es) x = if int_eq e.0 x then natural e.1 else listed_count es x

-- the bag of a list of elements and counts: the first pair of an element counts
abbrev pub multiset_of : List (ℤ × ℤ) → Multiset
multiset_of [] = nothing
multiset_of (e ∷ es) = set_count (multiset_of es) e.0 (natural e.1)

-- what a valuation makes variables worth
abbrev pub stack_of : Valuation → Stack
stack_of v u = record { number = found v.numbers u; bag = multiset_of (found_bag v.bags u) }

abbrev pub has_quantifiers_level : Pure-F Bool → Bool
has_quantifiers_level (Pure-F.Eq a b) = false
has_quantifiers_level (Pure-F.Lt a b) = false
has_quantifiers_level (Pure-F.Le a b) = false
has_quantifiers_level (Pure-F.Divides d a) = false
has_quantifiers_level (Pure-F.BagEq a b) = false
has_quantifiers_level (Pure-F.Subset a b) = false
has_quantifiers_level (Pure-F.Member a b) = false
has_quantifiers_level (Pure-F.AllOf u b p) = p
has_quantifiers_level (Pure-F.Not p) = p
has_quantifiers_level (Pure-F.And ps) = list_any (λ p. p) ps
has_quantifiers_level (Pure-F.Or ps) = list_any (λ p. p) ps
has_quantifiers_level (Pure-F.Exists u p) = true
has_quantifiers_level (Pure-F.Forall u p) = true

-- whether `Exists` or `Forall` occurs
abbrev pub has_quantifiers : Pure → Bool
has_quantifiers = fold-Pure Bool has_quantifiers_level

-- ---- the numbers of an evaluation have 128 bits

-- added to n, one after another: each product and each sum
abbrev pub TermsFit : Stack → ℤ → List (Var × ℤ) → Type 0
TermsFit s n [] = Unit {0}
TermsFit s n (t ∷ ts) =
    let product = t.1 *ℤ (s t.0).number in
    FitsSigned w128 product × FitsSigned w128 (n +ℤ product) × TermsFit s (n +ℤ product) ts

-- each product, each sum of the first products, and the value
abbrev pub SumFits : Stack → Lin → Type 0
SumFits s a = TermsFit s (pos 0) a.terms × FitsSigned w128 (value s a)

-- the sums of a bag, and how often x is in each of its parts
abbrev pub CountFits : Stack → BagTerm → ℤ → Type 0
CountFits s empty x = Unit {0}
CountFits s (name v) x = Unit {0}
CountFits s (one a) x = SumFits s a
CountFits s (union a b) x = CountFits s a x × CountFits s b x × (count s (union a b) x < 2 ^ 127)
CountFits s (inter a b) x = CountFits s a x × CountFits s b x
CountFits s (diff a b) x = CountFits s a x × CountFits s b x

-- all numbers of a formula: the counts are those of every integer, and so those of the elements
abbrev pub NumbersFit : Stack → Assertion → Type 0
NumbersFit s truth = Unit {0}
NumbersFit s (eq a b) = SumFits s a × SumFits s b
NumbersFit s (lt a b) = SumFits s a × SumFits s b
NumbersFit s (le a b) = SumFits s a × SumFits s b
NumbersFit s (divides d a) = SumFits s a
NumbersFit s (bag_eq a b) = (x : ℤ) → CountFits s a x × CountFits s b x
NumbersFit s (subset a b) = (x : ℤ) → CountFits s a x × CountFits s b x
NumbersFit s (member a b) = SumFits s a × CountFits s b (value s a)
NumbersFit s (all_of u b p) = (x : ℤ) → CountFits s b x × (0 < count s b x → NumbersFit (with_value u (number_value x) s) p)
NumbersFit s (negation p) = NumbersFit s p
NumbersFit s (both p q) = NumbersFit s p × NumbersFit s q
NumbersFit s (either p q) = NumbersFit s p × NumbersFit s q
NumbersFit s (exists u p) = (x : ℤ) → NumbersFit (with_value u (number_value x) s) p
NumbersFit s (forall u p) = (x : ℤ) → NumbersFit (with_value u (number_value x) s) p
