-- What is in range in a bag or a formula is so in its parts.
use Rattle.std.proofs.Common.{◌≡◌, ℤ, List, [], ◌∷◌, ◌++◌, map, sym, ap, ◌∙◌, subst}
use Rattle.std.specs.List.{All, flat_map}
use Rattle.hs_pure.specs.declared.var.Var.{Var}
use Rattle.hs_pure.specs.declared.lin.Lin.{Lin}
use Rattle.hs_pure.specs.declared.bag.Bag.{Bag}
use Rattle.hs_pure.specs.declared.bag.Bag.TheVariants as bag_of
use Rattle.hs_pure.specs.declared.pure.Pure.{Pure}
use Rattle.hs_pure.specs.declared.pure.Pure.TheVariants as pure_of
use Rattle.hs_pure.specs.Rename.{bag_sums, bag_sums_level, sums, sums_level, LinInRange, BagInRange, InRange}
use Rattle.hs_pure.proofs.Views.{fold_bag-One, fold_bag-Union, fold_bag-Inter, fold_bag-Diff, fold-Eq, fold-Lt, fold-Le, fold-Divides, fold-BagEq, fold-Subset, fold-Member, fold-AllOf, fold-Not, fold-And, fold-Or, fold-Exists, fold-Forall}
use Rattle.hs_pure.proofs.Lists.{All-left, All-right, All-first, All-later, All-pieces}

module _ (ρ : Var → Var) where
  pub one_range : (b : Bag) (a : Lin) → b ≡ bag_of.One a → BagInRange ρ b → LinInRange ρ a
  one_range b a e h = All-first (LinInRange ρ) a [] (subst (All (LinInRange ρ)) (ap bag_sums e ∙ fold_bag-One bag_sums_level a) h.each)

  module _ (b x y z : Bag) where
    pub union_left : z ≡ x → b ≡ bag_of.Union x y → BagInRange ρ b → BagInRange ρ z
    union_left f e h = record { each = subst (λ x. All (LinInRange ρ) (bag_sums x)) (sym f) (All-left (LinInRange ρ) (bag_sums x) (bag_sums y) (subst (All (LinInRange ρ)) (ap bag_sums e ∙ fold_bag-Union bag_sums_level x y) h.each)) }

    pub union_right : z ≡ y → b ≡ bag_of.Union x y → BagInRange ρ b → BagInRange ρ z
    union_right f e h = record { each = subst (λ x. All (LinInRange ρ) (bag_sums x)) (sym f) (All-right (LinInRange ρ) (bag_sums x) (bag_sums y) (subst (All (LinInRange ρ)) (ap bag_sums e ∙ fold_bag-Union bag_sums_level x y) h.each)) }

    pub inter_left : z ≡ x → b ≡ bag_of.Inter x y → BagInRange ρ b → BagInRange ρ z
    inter_left f e h = record { each = subst (λ x. All (LinInRange ρ) (bag_sums x)) (sym f) (All-left (LinInRange ρ) (bag_sums x) (bag_sums y) (subst (All (LinInRange ρ)) (ap bag_sums e ∙ fold_bag-Inter bag_sums_level x y) h.each)) }

    pub inter_right : z ≡ y → b ≡ bag_of.Inter x y → BagInRange ρ b → BagInRange ρ z
    inter_right f e h = record { each = subst (λ x. All (LinInRange ρ) (bag_sums x)) (sym f) (All-right (LinInRange ρ) (bag_sums x) (bag_sums y) (subst (All (LinInRange ρ)) (ap bag_sums e ∙ fold_bag-Inter bag_sums_level x y) h.each)) }

    pub diff_left : z ≡ x → b ≡ bag_of.Diff x y → BagInRange ρ b → BagInRange ρ z
    diff_left f e h = record { each = subst (λ x. All (LinInRange ρ) (bag_sums x)) (sym f) (All-left (LinInRange ρ) (bag_sums x) (bag_sums y) (subst (All (LinInRange ρ)) (ap bag_sums e ∙ fold_bag-Diff bag_sums_level x y) h.each)) }

    pub diff_right : z ≡ y → b ≡ bag_of.Diff x y → BagInRange ρ b → BagInRange ρ z
    diff_right f e h = record { each = subst (λ x. All (LinInRange ρ) (bag_sums x)) (sym f) (All-right (LinInRange ρ) (bag_sums x) (bag_sums y) (subst (All (LinInRange ρ)) (ap bag_sums e ∙ fold_bag-Diff bag_sums_level x y) h.each)) }

  module _ (p : Pure) where
    range_is : (ls : List Lin) → sums p ≡ ls → InRange ρ p → All (LinInRange ρ) ls
    range_is ls e h = subst (All (LinInRange ρ)) e h.each

    two : (a b : Lin) → sums p ≡ a ∷ b ∷ [] → InRange ρ p → LinInRange ρ a × LinInRange ρ b
    two a b e h = let all = range_is (a ∷ b ∷ []) e h in
        (All-first (LinInRange ρ) a (b ∷ []) all, All-first (LinInRange ρ) b [] (All-later (LinInRange ρ) a (b ∷ []) all))

    two_bags : (a b : Bag) → sums p ≡ bag_sums a ++ bag_sums b → InRange ρ p → BagInRange ρ a × BagInRange ρ b
    two_bags a b e h = let all = range_is (bag_sums a ++ bag_sums b) e h in
        (record { each = All-left (LinInRange ρ) (bag_sums a) (bag_sums b) all }, record { each = All-right (LinInRange ρ) (bag_sums a) (bag_sums b) all })

    pub eq_range : (a b : Lin) → p ≡ pure_of.Eq a b → InRange ρ p → LinInRange ρ a × LinInRange ρ b
    eq_range a b e = two a b (ap sums e ∙ fold-Eq sums_level a b)

    pub lt_range : (a b : Lin) → p ≡ pure_of.Lt a b → InRange ρ p → LinInRange ρ a × LinInRange ρ b
    lt_range a b e = two a b (ap sums e ∙ fold-Lt sums_level a b)

    pub le_range : (a b : Lin) → p ≡ pure_of.Le a b → InRange ρ p → LinInRange ρ a × LinInRange ρ b
    le_range a b e = two a b (ap sums e ∙ fold-Le sums_level a b)

    pub divides_range : (d : ℤ) (a : Lin) → p ≡ pure_of.Divides d a → InRange ρ p → LinInRange ρ a
    divides_range d a e h = All-first (LinInRange ρ) a [] (range_is (a ∷ []) (ap sums e ∙ fold-Divides sums_level d a) h)

    pub bag_eq_range : (a b : Bag) → p ≡ pure_of.BagEq a b → InRange ρ p → BagInRange ρ a × BagInRange ρ b
    bag_eq_range a b e = two_bags a b (ap sums e ∙ fold-BagEq sums_level a b)

    pub subset_range : (a b : Bag) → p ≡ pure_of.Subset a b → InRange ρ p → BagInRange ρ a × BagInRange ρ b
    subset_range a b e = two_bags a b (ap sums e ∙ fold-Subset sums_level a b)

    pub member_range : (a : Lin) (b : Bag) → p ≡ pure_of.Member a b → InRange ρ p → LinInRange ρ a × BagInRange ρ b
    member_range a b e h = let all = range_is (a ∷ bag_sums b) (ap sums e ∙ fold-Member sums_level a b) h in
        (All-first (LinInRange ρ) a (bag_sums b) all, record { each = All-later (LinInRange ρ) a (bag_sums b) all })

    pub all_of_range : (u : Var) (b : Bag) (q : Pure) → p ≡ pure_of.AllOf u b q → InRange ρ p → BagInRange ρ b × InRange ρ q
    all_of_range u b q e h = let all = range_is (bag_sums b ++ sums q) (ap sums e ∙ fold-AllOf sums_level u b q) h in
        (record { each = All-left (LinInRange ρ) (bag_sums b) (sums q) all }, record { each = All-right (LinInRange ρ) (bag_sums b) (sums q) all })

    pub not_range : (q : Pure) → p ≡ pure_of.Not q → InRange ρ p → InRange ρ q
    not_range q e h = record { each = range_is (sums q) (ap sums e ∙ fold-Not sums_level q) h }

    pub exists_range : (u : Var) (q : Pure) → p ≡ pure_of.Exists u q → InRange ρ p → InRange ρ q
    exists_range u q e h = record { each = range_is (sums q) (ap sums e ∙ fold-Exists sums_level u q) h }

    pub forall_range : (u : Var) (q : Pure) → p ≡ pure_of.Forall u q → InRange ρ p → InRange ρ q
    forall_range u q e h = record { each = range_is (sums q) (ap sums e ∙ fold-Forall sums_level u q) h }

    all_range : (qs : List Pure) → All (LinInRange ρ) (flat_map (λ ls. ls) (map sums qs)) → All (InRange ρ) qs
    all_range qs h i d less = record { each = All-pieces (LinInRange ρ) sums qs h i d less }

    pub and_range : (qs : List Pure) → p ≡ pure_of.And qs → InRange ρ p → All (InRange ρ) qs
    and_range qs e h = all_range qs (range_is (flat_map (λ ls. ls) (map sums qs)) (ap sums e ∙ fold-And sums_level qs) h)

    pub or_range : (qs : List Pure) → p ≡ pure_of.Or qs → InRange ρ p → All (InRange ρ) qs
    or_range qs e h = all_range qs (range_is (flat_map (λ ls. ls) (map sums qs)) (ap sums e ∙ fold-Or sums_level qs) h)
