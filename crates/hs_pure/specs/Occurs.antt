-- The variables of a formula, and where its bag literals stand.
use Rattle.std.specs.Prelude.{ℕ, max, Bool, true, false, not, ◌&&◌, ◌||◌, List}
use Rattle.std.specs.List.{list_any, fold}
use Rattle.hs_pure.specs.declared.var.Var.{Var}
use Rattle.hs_pure.specs.declared.lin.Lin.{Lin}
use Rattle.hs_pure.specs.declared.bag.Bag.{Bag, fold-Bag}
use Rattle.hs_pure.specs.declared.bag.Bag.TheOpen.{Bag-F}
use Rattle.hs_pure.specs.declared.pure.Pure.{Pure, fold-Pure}
use Rattle.hs_pure.specs.declared.pure.Pure.TheOpen.{Pure-F}
use Rattle.hs_pure.specs.Stack.{same}

-- whether v occurs in a sum
abbrev pub in_lin : Var → Lin → Bool
in_lin v a = list_any (λ t. same t.0 v) a.terms

module _ (v : Var) where
  abbrev pub in_bag_level : Bag-F Bool → Bool
  in_bag_level Bag-F.Empty = false
  in_bag_level (Bag-F.Name u) = same u v
  in_bag_level (Bag-F.One a) = in_lin v a
  in_bag_level (Bag-F.Union a b) = a || b
  in_bag_level (Bag-F.Inter a b) = a || b
  in_bag_level (Bag-F.Diff a b) = a || b

  -- whether v occurs in a bag
  abbrev pub in_bag : Bag → Bool
  in_bag = fold-Bag Bool in_bag_level

  abbrev pub is_free_level : Pure-F Bool → Bool
  is_free_level (Pure-F.Eq a b) = in_lin v a || in_lin v b
  is_free_level (Pure-F.Lt a b) = in_lin v a || in_lin v b
  is_free_level (Pure-F.Le a b) = in_lin v a || in_lin v b
  is_free_level (Pure-F.Divides d a) = in_lin v a
  is_free_level (Pure-F.BagEq a b) = in_bag a || in_bag b
  is_free_level (Pure-F.Subset a b) = in_bag a || in_bag b
  is_free_level (Pure-F.Member a b) = in_lin v a || in_bag b
  is_free_level (Pure-F.AllOf u b p) = in_bag b || (not (same u v) && p)
  is_free_level (Pure-F.Not p) = p
  is_free_level (Pure-F.And ps) = list_any (λ p. p) ps
  is_free_level (Pure-F.Or ps) = list_any (λ p. p) ps
  is_free_level (Pure-F.Exists u p) = not (same u v) && p
  is_free_level (Pure-F.Forall u p) = not (same u v) && p

  -- whether v occurs free
  abbrev pub is_free : Pure → Bool
  is_free = fold-Pure Bool is_free_level

  abbrev pub is_bound_level : Pure-F Bool → Bool
  is_bound_level (Pure-F.Eq a b) = false
  is_bound_level (Pure-F.Lt a b) = false
  is_bound_level (Pure-F.Le a b) = false
  is_bound_level (Pure-F.Divides d a) = false
  is_bound_level (Pure-F.BagEq a b) = false
  is_bound_level (Pure-F.Subset a b) = false
  is_bound_level (Pure-F.Member a b) = false
  is_bound_level (Pure-F.AllOf u b p) = same u v || p
  is_bound_level (Pure-F.Not p) = p
  is_bound_level (Pure-F.And ps) = list_any (λ p. p) ps
  is_bound_level (Pure-F.Or ps) = list_any (λ p. p) ps
  is_bound_level (Pure-F.Exists u p) = same u v || p
  is_bound_level (Pure-F.Forall u p) = same u v || p

  -- whether a quantifier or an AllOf binds v
  abbrev pub is_bound : Pure → Bool
  is_bound = fold-Pure Bool is_bound_level

  abbrev pub occurs_level : Pure-F Bool → Bool
  occurs_level (Pure-F.Eq a b) = in_lin v a || in_lin v b
  occurs_level (Pure-F.Lt a b) = in_lin v a || in_lin v b
  occurs_level (Pure-F.Le a b) = in_lin v a || in_lin v b
  occurs_level (Pure-F.Divides d a) = in_lin v a
  occurs_level (Pure-F.BagEq a b) = in_bag a || in_bag b
  occurs_level (Pure-F.Subset a b) = in_bag a || in_bag b
  occurs_level (Pure-F.Member a b) = in_lin v a || in_bag b
  occurs_level (Pure-F.AllOf u b p) = in_bag b || (same u v || p)
  occurs_level (Pure-F.Not p) = p
  occurs_level (Pure-F.And ps) = list_any (λ p. p) ps
  occurs_level (Pure-F.Or ps) = list_any (λ p. p) ps
  occurs_level (Pure-F.Exists u p) = same u v || p
  occurs_level (Pure-F.Forall u p) = same u v || p

  -- whether v occurs at all, also where it is bound
  abbrev pub occurs : Pure → Bool
  occurs = fold-Pure Bool occurs_level

abbrev pub greatest : List ℕ → ℕ
greatest ns = fold (λ m n. max m n) 0 ns

-- the greatest number in a sum, or 0
abbrev pub lin_top : Lin → ℕ
lin_top a = fold (λ top t. max top t.0.number) 0 a.terms

abbrev pub bag_top_level : Bag-F ℕ → ℕ
bag_top_level Bag-F.Empty = 0
bag_top_level (Bag-F.Name u) = u.number
bag_top_level (Bag-F.One a) = lin_top a
bag_top_level (Bag-F.Union a b) = max a b
bag_top_level (Bag-F.Inter a b) = max a b
bag_top_level (Bag-F.Diff a b) = max a b

-- the greatest number in a bag, or 0
abbrev pub bag_top : Bag → ℕ
bag_top = fold-Bag ℕ bag_top_level

abbrev pub top_level : Pure-F ℕ → ℕ
top_level (Pure-F.Eq a b) = max (lin_top a) (lin_top b)
top_level (Pure-F.Lt a b) = max (lin_top a) (lin_top b)
top_level (Pure-F.Le a b) = max (lin_top a) (lin_top b)
top_level (Pure-F.Divides d a) = lin_top a
top_level (Pure-F.BagEq a b) = max (bag_top a) (bag_top b)
top_level (Pure-F.Subset a b) = max (bag_top a) (bag_top b)
top_level (Pure-F.Member a b) = max (lin_top a) (bag_top b)
top_level (Pure-F.AllOf u b p) = max (bag_top b) (max u.number p)
top_level (Pure-F.Not p) = p
top_level (Pure-F.And ps) = greatest ps
top_level (Pure-F.Or ps) = greatest ps
top_level (Pure-F.Exists u p) = max u.number p
top_level (Pure-F.Forall u p) = max u.number p

-- the greatest number in a formula, also of bound variables, or 0
abbrev pub top_of : Pure → ℕ
top_of = fold-Pure ℕ top_level

-- what a formula is as to its bag literals
pub record BagUse : Type 0 where
  -- whether it has one
  pub has : Bool
  -- whether one stands under a quantifier or an AllOf
  pub under : Bool

abbrev no_use : BagUse
no_use = record { has = false; under = false }

abbrev in_front : BagUse
in_front = record { has = true; under = false }

abbrev below : BagUse → BagUse
below p = record { has = p.has; under = p.has }

abbrev joined : List BagUse → BagUse
joined ps = record { has = list_any (λ p. p.has) ps; under = list_any (λ p. p.under) ps }

abbrev pub bag_use_level : Pure-F BagUse → BagUse
bag_use_level (Pure-F.Eq a b) = no_use
bag_use_level (Pure-F.Lt a b) = no_use
bag_use_level (Pure-F.Le a b) = no_use
bag_use_level (Pure-F.Divides d a) = no_use
bag_use_level (Pure-F.BagEq a b) = in_front
bag_use_level (Pure-F.Subset a b) = in_front
bag_use_level (Pure-F.Member a b) = in_front
bag_use_level (Pure-F.AllOf u b p) = record { has = true; under = p.has }
bag_use_level (Pure-F.Not p) = p
bag_use_level (Pure-F.And ps) = joined ps
bag_use_level (Pure-F.Or ps) = joined ps
bag_use_level (Pure-F.Exists u p) = below p
bag_use_level (Pure-F.Forall u p) = below p

abbrev pub bag_use : Pure → BagUse
bag_use = fold-Pure BagUse bag_use_level

-- whether a bag literal occurs
abbrev pub has_bags : Pure → Bool
has_bags p = (bag_use p).has

-- whether no bag literal stands under a quantifier or an AllOf
abbrev pub is_bags_plain : Pure → Bool
is_bags_plain p = not (bag_use p).under
