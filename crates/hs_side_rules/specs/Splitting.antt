-- Formulas by which a goal may be split.
use Rattle.std.specs.Prelude.{◌≡◌, nat_lt, Bool, true, false, not, ◌&&◌, ◌||◌, IsTrue, List, [], ◌∷◌}
use Rattle.std.specs.List.{list_all}
use Rattle.hs_pure.specs.declared.var.Var.{Var}
use Rattle.hs_pure.specs.declared.lin.Lin.{Lin}
use Rattle.hs_pure.specs.declared.bag.Bag.{Bag, fold-Bag}
use Rattle.hs_pure.specs.declared.bag.Bag.TheOpen.{Bag-F}
use Rattle.hs_pure.specs.declared.pure.Pure.{Pure, fold-Pure}
use Rattle.hs_pure.specs.declared.pure.Pure.TheOpen.{Pure-F}
use Rattle.hs_pure.specs.declared.pure.Pure.TheVariants as pure_of
use Rattle.hs_pure.specs.Occurs.{is_free}
use Rattle.hs_heap.specs.Meaning.{is_in}
use Rattle.hs_heap.specs.WellFormed.{is_and, IsProper}
use Rattle.hs_goal.specs.declared.goal.Goal.{Goal}
use Rattle.hs_goal.specs.Goal.{is_free_in_goal}
use Rattle.hs_rules.specs.Subgoals.{with_conjunct}

-- the goal with the formula on the left, and with its negation
abbrev pub split_by : Goal → Pure → List Goal
split_by g f = with_conjunct g f ∷ with_conjunct g (pure_of.Not f) ∷ []

-- ---- variables

module _ (test : Var → Bool) where
  abbrev pub all_in_sum : Lin → Bool
  all_in_sum a = list_all (λ t. test t.0) a.terms

  abbrev pub bag_level : Bag-F Bool → Bool
  bag_level Bag-F.Empty = true
  bag_level (Bag-F.Name u) = test u
  bag_level (Bag-F.One a) = all_in_sum a
  bag_level (Bag-F.Union a b) = a && b
  bag_level (Bag-F.Inter a b) = a && b
  bag_level (Bag-F.Diff a b) = a && b

  abbrev pub all_in_bag : Bag → Bool
  all_in_bag = fold-Bag Bool bag_level

  abbrev pub level : Pure-F Bool → Bool
  level (Pure-F.Eq a b) = all_in_sum a && all_in_sum b
  level (Pure-F.Lt a b) = all_in_sum a && all_in_sum b
  level (Pure-F.Le a b) = all_in_sum a && all_in_sum b
  level (Pure-F.Divides d a) = all_in_sum a
  level (Pure-F.BagEq a b) = all_in_bag a && all_in_bag b
  level (Pure-F.Subset a b) = all_in_bag a && all_in_bag b
  level (Pure-F.Member a b) = all_in_sum a && all_in_bag b
  level (Pure-F.AllOf u b p) = all_in_bag b && (test u && p)
  level (Pure-F.Not p) = p
  level (Pure-F.And ps) = list_all (λ p. p) ps
  level (Pure-F.Or ps) = list_all (λ p. p) ps
  level (Pure-F.Exists u p) = test u && p
  level (Pure-F.Forall u p) = test u && p

  -- whether each variable that occurs, bound or free, passes the test
  abbrev pub all_in_formula : Pure → Bool
  all_in_formula = fold-Pure Bool level

-- v has a number below the new ones, is not open, and is free in the goal if it is free in f
abbrev pub may_occur : Goal → Pure → Var → Bool
may_occur g f v = nat_lt v.number g.next && (not (is_in v g.opens) && (not (is_free v f) || is_free_in_goal v g))

-- f alone may split the goal
abbrev pub MaySplit : Goal → Pure → Type 0
MaySplit g f = (is_and f ≡ false) × (IsProper f × IsTrue (all_in_formula (may_occur g f) f))
