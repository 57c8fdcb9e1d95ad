-- Formulas in which no variable occurs.
use Rattle.std.specs.Prelude.{Bool, true, false, ◌&&◌, List, [], ◌∷◌}
use Rattle.std.specs.List.{list_all}
use Rattle.hs_pure.specs.declared.lin.Lin.{Lin}
use Rattle.hs_pure.specs.declared.bag.Bag.{Bag, fold-Bag}
use Rattle.hs_pure.specs.declared.bag.Bag.TheOpen.{Bag-F}
use Rattle.hs_pure.specs.declared.pure.Pure.{Pure, fold-Pure}
use Rattle.hs_pure.specs.declared.pure.Pure.TheOpen.{Pure-F}
use Rattle.hs_heap.specs.declared.formula.Disjunct.{Disjunct}

abbrev pub is_nil : {A : Type 0} → List A → Bool
is_nil [] = true
is_nil (x ∷ xs) = false

abbrev pub sum_is_closed : Lin → Bool
sum_is_closed a = is_nil a.terms

abbrev pub bag_is_closed_level : Bag-F Bool → Bool
bag_is_closed_level Bag-F.Empty = true
bag_is_closed_level (Bag-F.Name v) = false
bag_is_closed_level (Bag-F.One a) = sum_is_closed a
bag_is_closed_level (Bag-F.Union a b) = a && b
bag_is_closed_level (Bag-F.Inter a b) = a && b
bag_is_closed_level (Bag-F.Diff a b) = a && b

abbrev pub bag_is_closed : Bag → Bool
bag_is_closed = fold-Bag Bool bag_is_closed_level

abbrev pub is_closed_level : Pure-F Bool → Bool
is_closed_level (Pure-F.Eq a b) = sum_is_closed a && sum_is_closed b
is_closed_level (Pure-F.Lt a b) = sum_is_closed a && sum_is_closed b
is_closed_level (Pure-F.Le a b) = sum_is_closed a && sum_is_closed b
is_closed_level (Pure-F.Divides d a) = sum_is_closed a
is_closed_level (Pure-F.BagEq a b) = bag_is_closed a && bag_is_closed b
is_closed_level (Pure-F.Subset a b) = bag_is_closed a && bag_is_closed b
is_closed_level (Pure-F.Member a b) = sum_is_closed a && bag_is_closed b
is_closed_level (Pure-F.AllOf u b p) = false
is_closed_level (Pure-F.Not p) = p
is_closed_level (Pure-F.And ps) = list_all (λ p. p) ps
is_closed_level (Pure-F.Or ps) = list_all (λ p. p) ps
is_closed_level (Pure-F.Exists u p) = false
is_closed_level (Pure-F.Forall u p) = false

-- whether no variable occurs, bound or free
abbrev pub is_closed : Pure → Bool
is_closed = fold-Pure Bool is_closed_level

abbrev pub case_is_closed : Disjunct → Bool
case_is_closed d = is_nil d.bound && (is_nil d.atoms && list_all is_closed d.pure)
