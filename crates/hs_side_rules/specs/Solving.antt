-- Conjuncts that give the one open variable a value, by tests.
use Rattle.std.specs.Prelude.{ℤ, pos, negsuc, ◌-ℤ◌, Bool, false, not, ◌&&◌, ◌||◌, IsTrue, ◌↔◌, if◌then◌else◌, List, [], ◌∷◌, Option, Some, None}
use Rattle.std.specs.List.{list_all}
use Rattle.std.specs.Option.{option_map_or}
use Rattle.std.specs.Ordering.{int_eq}
use Rattle.hs_pure.specs.declared.var.Var.{Var}
use Rattle.hs_pure.specs.declared.lin.Lin.{Lin}
use Rattle.hs_pure.specs.declared.bag.Bag.{Bag, fold-Bag}
use Rattle.hs_pure.specs.declared.bag.Bag.TheOpen.{Bag-F}
use Rattle.hs_pure.specs.declared.pure.Pure.{Pure, fold-Pure}
use Rattle.hs_pure.specs.declared.pure.Pure.TheOpen.{Pure-F}
use Rattle.hs_pure.specs.Stack.{same}
use Rattle.hs_pure.specs.Occurs.{in_lin, in_bag}
use Rattle.hs_heap.specs.Meaning.{is_in}
use Rattle.hs_rules.specs.Conditions.{coefficient, IsEquationFor}

-- whether v occurs in one of two sums
abbrev pub in_sums : Lin → Lin → Var → Bool
in_sums a b v = in_lin v a || in_lin v b

-- the first variable that passes a test
abbrev pub first_with : (Var → Bool) → List Var → Option Var
first_with test [] = None
first_with test (v ∷ vs) = if test v then Some v else first_with test vs

-- whether v is the only variable that passes a test
abbrev pub is_only : (Var → Bool) → Var → List Var → Bool
is_only test v vs = list_all (λ w. same w v || not (test w)) vs

abbrev pub is_unit : ℤ → Bool
is_unit x = int_eq x (pos 1) || int_eq x (negsuc 0)

-- whether v is the only open variable, and has the coefficient 1 or -1 in a - b
abbrev pub solves : List Var → Lin → Lin → Var → Bool
solves opens a b v = is_only (in_sums a b) v opens && is_unit (coefficient v a -ℤ coefficient v b)

abbrev pub is_sum_equation : List Var → Lin → Lin → Bool
is_sum_equation opens a b = option_map_or (solves opens a b) (first_with (in_sums a b) opens) false

-- whether a bag has none of these variables
abbrev pub has_none : List Var → Bag → Bool
has_none vs b = list_all (λ v. not (in_bag v b)) vs

abbrev pub is_open_name_level : List Var → Bag-F Bool → Bool
is_open_name_level opens Bag-F.Empty = false
is_open_name_level opens (Bag-F.Name v) = is_in v opens
is_open_name_level opens (Bag-F.One a) = false
is_open_name_level opens (Bag-F.Union a b) = false
is_open_name_level opens (Bag-F.Inter a b) = false
is_open_name_level opens (Bag-F.Diff a b) = false

-- whether a bag is an open variable
abbrev pub is_open_name : List Var → Bag → Bool
is_open_name opens = fold-Bag Bool (is_open_name_level opens)

abbrev pub is_bag_equation : List Var → Bag → Bag → Bool
is_bag_equation opens a b = is_open_name opens a && has_none opens b || is_open_name opens b && has_none opens a

abbrev pub is_equation_level : List Var → Pure-F Bool → Bool
is_equation_level opens (Pure-F.Eq a b) = is_sum_equation opens a b
is_equation_level opens (Pure-F.Lt a b) = false
is_equation_level opens (Pure-F.Le a b) = false
is_equation_level opens (Pure-F.Divides d a) = false
is_equation_level opens (Pure-F.BagEq a b) = is_bag_equation opens a b
is_equation_level opens (Pure-F.Subset a b) = false
is_equation_level opens (Pure-F.Member a b) = false
is_equation_level opens (Pure-F.AllOf u b p) = false
is_equation_level opens (Pure-F.Not p) = false
is_equation_level opens (Pure-F.And ps) = false
is_equation_level opens (Pure-F.Or ps) = false
is_equation_level opens (Pure-F.Exists u p) = false
is_equation_level opens (Pure-F.Forall u p) = false

-- whether a formula gives the one open variable a value
abbrev pub is_equation : List Var → Pure → Bool
is_equation opens = fold-Pure Bool (is_equation_level opens)

-- there is such a variable
abbrev pub HasEquation : List Var → Pure → Type 0
HasEquation opens p = (v : Var) × IsEquationFor opens v p

-- the test is true exactly where there is such a variable
abbrev pub EquationsAreTold : Type 0
EquationsAreTold = (opens : List Var) (p : Pure) → IsTrue (is_equation opens p) ↔ HasEquation opens p
