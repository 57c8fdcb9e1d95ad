-- How large a formula is, as a measure of its evaluation.
use Rattle.std.specs.Prelude.{ℕ, ◌+◌, List, [], ◌∷◌}
use Rattle.hs_pure.specs.declared.bag.Bag.{Bag, fold-Bag}
use Rattle.hs_pure.specs.declared.bag.Bag.TheOpen.{Bag-F}
use Rattle.hs_pure.specs.declared.pure.Pure.{Pure, fold-Pure}
use Rattle.hs_pure.specs.declared.pure.Pure.TheOpen.{Pure-F}

abbrev pub total : List ℕ → ℕ
total [] = 0
total (n ∷ ns) = n + total ns

abbrev pub bag_size_level : Bag-F ℕ → ℕ
bag_size_level Bag-F.Empty = 1
bag_size_level (Bag-F.Name v) = 1
bag_size_level (Bag-F.One a) = 1
bag_size_level (Bag-F.Union a b) = a + b + 1
bag_size_level (Bag-F.Inter a b) = a + b + 1
bag_size_level (Bag-F.Diff a b) = a + b + 1

abbrev pub bag_size : Bag → ℕ
bag_size = fold-Bag ℕ bag_size_level

abbrev pub pure_size_level : Pure-F ℕ → ℕ
pure_size_level (Pure-F.Eq a b) = 1
pure_size_level (Pure-F.Lt a b) = 1
pure_size_level (Pure-F.Le a b) = 1
pure_size_level (Pure-F.Divides d a) = 1
pure_size_level (Pure-F.BagEq a b) = 1
pure_size_level (Pure-F.Subset a b) = 1
pure_size_level (Pure-F.Member a b) = 1
pure_size_level (Pure-F.AllOf u b p) = bag_size b + p + 3
pure_size_level (Pure-F.Not p) = p + 1
pure_size_level (Pure-F.And ps) = total ps + 2
pure_size_level (Pure-F.Or ps) = total ps + 2
pure_size_level (Pure-F.Exists u p) = p + 1
pure_size_level (Pure-F.Forall u p) = p + 1

abbrev pub pure_size : Pure → ℕ
pure_size = fold-Pure ℕ pure_size_level
