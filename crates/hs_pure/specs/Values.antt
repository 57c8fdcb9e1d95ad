-- What variables are worth while a formula is evaluated.
use Rattle.std.specs.Prelude.{ℕ, ℤ, ◌<◌, ◌≤◌, List, [], if◌then◌else◌}
use Rattle.std.specs.List.{All}
use Rattle.hs_pure.specs.declared.var.Var.{Var}
use Rattle.hs_pure.specs.declared.bag.Bag.{Bag}
use Rattle.hs_pure.specs.declared.pure.Pure.{Pure}
use Rattle.hs_pure.specs.declared.eval.Values.{Values, fold-Values}
use Rattle.hs_pure.specs.declared.eval.Values.TheOpen.{Values-F}
use Rattle.hs_pure.specs.Stack.{Stack, same, with_value, number_value}
use Rattle.hs_pure.specs.Assertion.{BagTerm, empty, name, one, union, inter, diff, Assertion, bag_term_of, assertion_of}
use Rattle.hs_pure.specs.Truth.{value, count, IsTrueAt, TrueAt}
use Rattle.hs_pure.specs.Eval.{found, found_bag, multiset_of, SumFits, CountFits, NumbersFit}

abbrev pub number_level : Values-F (Var → ℤ) → Var → ℤ
number_level (Values-F.Given v) u = found v.now.numbers u
number_level (Values-F.With w x outer) u = if same w u then x else outer.now u

abbrev pub number_of : Values → Var → ℤ
number_of = fold-Values (Var → ℤ) number_level

abbrev pub listed_level : Values-F (Var → List (ℤ × ℤ)) → Var → List (ℤ × ℤ)
listed_level (Values-F.Given v) u = found_bag v.now.bags u
listed_level (Values-F.With w x outer) u = if same w u then [] else outer.now u

-- the elements of a bag variable with their counts
abbrev pub listed : Values → Var → List (ℤ × ℤ)
listed = fold-Values (Var → List (ℤ × ℤ)) listed_level

abbrev pub stack_at : Values → Stack
stack_at e u = record { number = number_of e u; bag = multiset_of (listed e u) }

-- the sums of single elements, and F at each element that a bag lists
abbrev pub ElementsFit : (ℤ → Type 0) → Values → BagTerm → Type 0
ElementsFit F e empty = Unit {0}
ElementsFit F e (name v) = All (λ p. F p.0) (listed e v)
ElementsFit F e (one a) = SumFits (stack_at e) a × F (value (stack_at e) a)
ElementsFit F e (union a b) = ElementsFit F e a × ElementsFit F e b
ElementsFit F e (inter a b) = ElementsFit F e a × ElementsFit F e b
ElementsFit F e (diff a b) = ElementsFit F e a × ElementsFit F e b

-- P at each element that a bag lists
abbrev pub AtElements : (ℤ → Type 0) → Values → BagTerm → Type 0
AtElements P e empty = Unit {0}
AtElements P e (name v) = All (λ p. P p.0) (listed e v)
AtElements P e (one a) = P (value (stack_at e) a)
AtElements P e (union a b) = AtElements P e a × AtElements P e b
AtElements P e (inter a b) = AtElements P e a × AtElements P e b
AtElements P e (diff a b) = AtElements P e a × AtElements P e b

-- the counts of x in two bags
abbrev pub PairFits : Stack → BagTerm → BagTerm → ℤ → Type 0
PairFits s a b x = CountFits s a x × CountFits s b x

abbrev pub IsAtMost : Stack → BagTerm → BagTerm → ℤ → Type 0
IsAtMost s a b x = count s a x ≤ count s b x

-- the count of x in the bag, and where it is an element, the numbers of p with x for u
abbrev pub BodyFits : Stack → Var → BagTerm → Assertion → ℤ → Type 0
BodyFits s u b p x = CountFits s b x × (0 < count s b x → NumbersFit (with_value u (number_value x) s) p)

abbrev pub BodyHolds : Stack → Var → BagTerm → Assertion → ℤ → Type 0
BodyHolds s u b p x = 0 < count s b x → IsTrueAt (with_value u (number_value x) s) p

-- ---- the same of the bags and formulas of the program

abbrev pub CountFitsIn : Values → Bag → ℤ → Type 0
CountFitsIn e b x = CountFits (stack_at e) (bag_term_of b) x

abbrev pub count_of : Values → Bag → ℤ → ℕ
count_of e b x = count (stack_at e) (bag_term_of b) x

abbrev pub CountsFit : Values → Bag → Bag → ℤ → Type 0
CountsFit e a b = PairFits (stack_at e) (bag_term_of a) (bag_term_of b)

abbrev pub IsAtMostIn : Values → Bag → Bag → ℤ → Type 0
IsAtMostIn e a b = IsAtMost (stack_at e) (bag_term_of a) (bag_term_of b)

-- at the elements that the first bag lists
abbrev pub WithinFits : Values → Bag → Bag → Bag → Type 0
WithinFits e from a b = ElementsFit (CountsFit e a b) e (bag_term_of from)

abbrev pub IsWithin : Values → Bag → Bag → Bag → Type 0
IsWithin e from a b = AtElements (IsAtMostIn e a b) e (bag_term_of from)

abbrev pub FormulaFits : Values → Pure → Type 0
FormulaFits e p = NumbersFit (stack_at e) (assertion_of p)

abbrev pub Holds : Values → Pure → Type 0
Holds e p = TrueAt (stack_at e) p

abbrev pub FormulaFitsOf : Values → Var → Bag → Pure → ℤ → Type 0
FormulaFitsOf e u b p = BodyFits (stack_at e) u (bag_term_of b) (assertion_of p)

abbrev pub HoldsOf : Values → Var → Bag → Pure → ℤ → Type 0
HoldsOf e u b p = BodyHolds (stack_at e) u (bag_term_of b) (assertion_of p)

-- at the elements that the first bag lists
abbrev pub FormulaFitsIn : Values → Bag → Var → Bag → Pure → Type 0
FormulaFitsIn e from u b p = ElementsFit (FormulaFitsOf e u b p) e (bag_term_of from)

abbrev pub HoldsIn : Values → Bag → Var → Bag → Pure → Type 0
HoldsIn e from u b p = AtElements (HoldsOf e u b p) e (bag_term_of from)
