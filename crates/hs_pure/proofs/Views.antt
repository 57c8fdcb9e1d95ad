-- What is defined by levels, at each variant.
use Rattle.std.proofs.Common.{◌≡◌, ℤ, List, map, sym, ap, ◌∙◌}
use Rattle.hs_pure.specs.declared.var.Var.{Var}
use Rattle.hs_pure.specs.declared.lin.Lin.{Lin}
use Rattle.hs_pure.specs.declared.bag.Bag.{Bag, fold-Bag, fold-roll-Bag}
use Rattle.hs_pure.specs.declared.bag.Bag.TheOpen.{Bag-F}
use Rattle.hs_pure.specs.declared.bag.Bag.TheVariants as bag_of
use Rattle.hs_pure.specs.declared.pure.Pure.{Pure, fold-Pure, fold-roll-Pure}
use Rattle.hs_pure.specs.declared.pure.Pure.TheOpen.{Pure-F}
use Rattle.hs_pure.specs.declared.pure.Pure.TheVariants as pure_of

module _ {A : Type 0} (f : Bag-F A → A) where
  pub fold_bag-Empty : fold-Bag A f bag_of.Empty ≡ f Bag-F.Empty
  fold_bag-Empty = ap (fold-Bag A f) (sym bag_of.rolls-Empty) ∙ fold-roll-Bag A f Bag-F.Empty

  pub fold_bag-Name : (v : Var) → fold-Bag A f (bag_of.Name v) ≡ f (Bag-F.Name v)
  fold_bag-Name v = ap (fold-Bag A f) (sym (bag_of.rolls-Name v)) ∙ fold-roll-Bag A f (Bag-F.Name v)

  pub fold_bag-One : (a : Lin) → fold-Bag A f (bag_of.One a) ≡ f (Bag-F.One a)
  fold_bag-One a = ap (fold-Bag A f) (sym (bag_of.rolls-One a)) ∙ fold-roll-Bag A f (Bag-F.One a)

  pub fold_bag-Union : (a b : Bag) → fold-Bag A f (bag_of.Union a b) ≡ f (Bag-F.Union (fold-Bag A f a) (fold-Bag A f b))
  fold_bag-Union a b = ap (fold-Bag A f) (sym (bag_of.rolls-Union a b)) ∙ fold-roll-Bag A f (Bag-F.Union a b)

  pub fold_bag-Inter : (a b : Bag) → fold-Bag A f (bag_of.Inter a b) ≡ f (Bag-F.Inter (fold-Bag A f a) (fold-Bag A f b))
  fold_bag-Inter a b = ap (fold-Bag A f) (sym (bag_of.rolls-Inter a b)) ∙ fold-roll-Bag A f (Bag-F.Inter a b)

  pub fold_bag-Diff : (a b : Bag) → fold-Bag A f (bag_of.Diff a b) ≡ f (Bag-F.Diff (fold-Bag A f a) (fold-Bag A f b))
  fold_bag-Diff a b = ap (fold-Bag A f) (sym (bag_of.rolls-Diff a b)) ∙ fold-roll-Bag A f (Bag-F.Diff a b)

module _ {A : Type 0} (f : Pure-F A → A) where
  pub fold-Eq : (a b : Lin) → fold-Pure A f (pure_of.Eq a b) ≡ f (Pure-F.Eq a b)
  fold-Eq a b = ap (fold-Pure A f) (sym (pure_of.rolls-Eq a b)) ∙ fold-roll-Pure A f (Pure-F.Eq a b)

  pub fold-Lt : (a b : Lin) → fold-Pure A f (pure_of.Lt a b) ≡ f (Pure-F.Lt a b)
  fold-Lt a b = ap (fold-Pure A f) (sym (pure_of.rolls-Lt a b)) ∙ fold-roll-Pure A f (Pure-F.Lt a b)

  pub fold-Le : (a b : Lin) → fold-Pure A f (pure_of.Le a b) ≡ f (Pure-F.Le a b)
  fold-Le a b = ap (fold-Pure A f) (sym (pure_of.rolls-Le a b)) ∙ fold-roll-Pure A f (Pure-F.Le a b)

  pub fold-Divides : (d : ℤ) (a : Lin) → fold-Pure A f (pure_of.Divides d a) ≡ f (Pure-F.Divides d a)
  fold-Divides d a = ap (fold-Pure A f) (sym (pure_of.rolls-Divides d a)) ∙ fold-roll-Pure A f (Pure-F.Divides d a)

  pub fold-BagEq : (a b : Bag) → fold-Pure A f (pure_of.BagEq a b) ≡ f (Pure-F.BagEq a b)
  fold-BagEq a b = ap (fold-Pure A f) (sym (pure_of.rolls-BagEq a b)) ∙ fold-roll-Pure A f (Pure-F.BagEq a b)

  pub fold-Subset : (a b : Bag) → fold-Pure A f (pure_of.Subset a b) ≡ f (Pure-F.Subset a b)
  fold-Subset a b = ap (fold-Pure A f) (sym (pure_of.rolls-Subset a b)) ∙ fold-roll-Pure A f (Pure-F.Subset a b)

  pub fold-Member : (a : Lin) (b : Bag) → fold-Pure A f (pure_of.Member a b) ≡ f (Pure-F.Member a b)
  fold-Member a b = ap (fold-Pure A f) (sym (pure_of.rolls-Member a b)) ∙ fold-roll-Pure A f (Pure-F.Member a b)

  pub fold-AllOf : (u : Var) (b : Bag) (p : Pure) → fold-Pure A f (pure_of.AllOf u b p) ≡ f (Pure-F.AllOf u b (fold-Pure A f p))
  fold-AllOf u b p = ap (fold-Pure A f) (sym (pure_of.rolls-AllOf u b p)) ∙ fold-roll-Pure A f (Pure-F.AllOf u b p)

  pub fold-Not : (p : Pure) → fold-Pure A f (pure_of.Not p) ≡ f (Pure-F.Not (fold-Pure A f p))
  fold-Not p = ap (fold-Pure A f) (sym (pure_of.rolls-Not p)) ∙ fold-roll-Pure A f (Pure-F.Not p)

  pub fold-And : (ps : List Pure) → fold-Pure A f (pure_of.And ps) ≡ f (Pure-F.And (map (fold-Pure A f) ps))
  fold-And ps = ap (fold-Pure A f) (sym (pure_of.rolls-And ps)) ∙ fold-roll-Pure A f (Pure-F.And ps)

  pub fold-Or : (ps : List Pure) → fold-Pure A f (pure_of.Or ps) ≡ f (Pure-F.Or (map (fold-Pure A f) ps))
  fold-Or ps = ap (fold-Pure A f) (sym (pure_of.rolls-Or ps)) ∙ fold-roll-Pure A f (Pure-F.Or ps)

  pub fold-Exists : (u : Var) (p : Pure) → fold-Pure A f (pure_of.Exists u p) ≡ f (Pure-F.Exists u (fold-Pure A f p))
  fold-Exists u p = ap (fold-Pure A f) (sym (pure_of.rolls-Exists u p)) ∙ fold-roll-Pure A f (Pure-F.Exists u p)

  pub fold-Forall : (u : Var) (p : Pure) → fold-Pure A f (pure_of.Forall u p) ≡ f (Pure-F.Forall u (fold-Pure A f p))
  fold-Forall u p = ap (fold-Pure A f) (sym (pure_of.rolls-Forall u p)) ∙ fold-roll-Pure A f (Pure-F.Forall u p)
