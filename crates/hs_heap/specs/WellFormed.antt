-- What is asked of a pure formula by itself.
use Rattle.std.specs.Prelude.{◌≡◌, ℕ, Bool, true, false, IsTrue, List, [], ◌∷◌, ◌++◌, length}
use Rattle.std.specs.List.{All, flat_map}
use Rattle.hs_pure.specs.declared.var.Var.{Var}
use Rattle.hs_pure.specs.declared.bag.Bag.{Bag, fold-Bag}
use Rattle.hs_pure.specs.declared.bag.Bag.TheOpen.{Bag-F}
use Rattle.hs_pure.specs.declared.pure.Pure.{Pure, fold-Pure}
use Rattle.hs_pure.specs.declared.pure.Pure.TheOpen.{Pure-F}
use Rattle.hs_pure.specs.Occurs.{is_bound, is_bags_plain}
use Rattle.hs_pure.specs.Sums.{IsLight, IsOrdered}

abbrev pub names_in_bag_level : Bag-F (List Var) → List Var
names_in_bag_level Bag-F.Empty = []
names_in_bag_level (Bag-F.Name v) = v ∷ []
names_in_bag_level (Bag-F.One a) = []
names_in_bag_level (Bag-F.Union a b) = a ++ b
names_in_bag_level (Bag-F.Inter a b) = a ++ b
names_in_bag_level (Bag-F.Diff a b) = a ++ b

-- the names of bags in a bag
abbrev pub names_in_bag : Bag → List Var
names_in_bag = fold-Bag (List Var) names_in_bag_level

abbrev pub bag_names_level : Pure-F (List Var) → List Var
bag_names_level (Pure-F.Eq a b) = []
bag_names_level (Pure-F.Lt a b) = []
bag_names_level (Pure-F.Le a b) = []
bag_names_level (Pure-F.Divides d a) = []
bag_names_level (Pure-F.BagEq a b) = names_in_bag a ++ names_in_bag b
bag_names_level (Pure-F.Subset a b) = names_in_bag a ++ names_in_bag b
bag_names_level (Pure-F.Member a b) = names_in_bag b
bag_names_level (Pure-F.AllOf u b p) = names_in_bag b ++ p
bag_names_level (Pure-F.Not p) = p
bag_names_level (Pure-F.And ps) = flat_map (λ p. p) ps
bag_names_level (Pure-F.Or ps) = flat_map (λ p. p) ps
bag_names_level (Pure-F.Exists u p) = p
bag_names_level (Pure-F.Forall u p) = p

-- the names of bags in a formula
abbrev pub bag_names : Pure → List Var
bag_names = fold-Pure (List Var) bag_names_level

abbrev pub member_counts_level : Pure-F (List ℕ) → List ℕ
member_counts_level (Pure-F.Eq a b) = []
member_counts_level (Pure-F.Lt a b) = []
member_counts_level (Pure-F.Le a b) = []
member_counts_level (Pure-F.Divides d a) = []
member_counts_level (Pure-F.BagEq a b) = []
member_counts_level (Pure-F.Subset a b) = []
member_counts_level (Pure-F.Member a b) = []
member_counts_level (Pure-F.AllOf u b p) = p
member_counts_level (Pure-F.Not p) = p
member_counts_level (Pure-F.And ps) = length ps ∷ flat_map (λ p. p) ps
member_counts_level (Pure-F.Or ps) = length ps ∷ flat_map (λ p. p) ps
member_counts_level (Pure-F.Exists u p) = p
member_counts_level (Pure-F.Forall u p) = p

-- how many members each And and Or of a formula has
abbrev pub member_counts : Pure → List ℕ
member_counts = fold-Pure (List ℕ) member_counts_level

abbrev pub is_and_level : Pure-F Bool → Bool
is_and_level (Pure-F.Eq a b) = false
is_and_level (Pure-F.Lt a b) = false
is_and_level (Pure-F.Le a b) = false
is_and_level (Pure-F.Divides d a) = false
is_and_level (Pure-F.BagEq a b) = false
is_and_level (Pure-F.Subset a b) = false
is_and_level (Pure-F.Member a b) = false
is_and_level (Pure-F.AllOf u b p) = false
is_and_level (Pure-F.Not p) = false
is_and_level (Pure-F.And ps) = true
is_and_level (Pure-F.Or ps) = false
is_and_level (Pure-F.Exists u p) = false
is_and_level (Pure-F.Forall u p) = false

-- whether a formula is an And
abbrev pub is_and : Pure → Bool
is_and = fold-Pure Bool is_and_level

-- the kinds of its variables fit, its sums are in order and light, and its connectives are in their normal form
pub record IsWellFormed (p : Pure) : Type 0 where
  -- sums are of number variables, by rising number and without coefficient 0
  pub ordered : IsOrdered p
  -- the absolute coefficients and the constant of a sum add up to at most 2^126
  pub light : IsLight p
  -- the names of bags are bag variables
  pub bags : All (λ v. v.bag ≡ true) (bag_names p)
  -- quantifiers and AllOf bind number variables
  pub binders : (u : Var) → IsTrue (is_bound u p) → u.bag ≡ false
  -- no And and no Or has exactly one member
  pub members : All (λ n. ¬ (n ≡ 1)) (member_counts p)
  -- no bag literal stands under a quantifier or an AllOf
  pub plain : IsTrue (is_bags_plain p)

-- the same but for lightness: formulas of derivations may be heavy
pub record IsProper (p : Pure) : Type 0 where
  pub ordered : IsOrdered p
  pub bags : All (λ v. v.bag ≡ true) (bag_names p)
  pub binders : (u : Var) → IsTrue (is_bound u p) → u.bag ≡ false
  pub members : All (λ n. ¬ (n ≡ 1)) (member_counts p)
  pub plain : IsTrue (is_bags_plain p)
