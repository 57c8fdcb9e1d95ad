-- The sums of an equation in order.
use Rattle.std.proofs.Common.{[], ◌∷◌, subst}
use Rattle.std.specs.List.{All}
use Rattle.std.proofs.lemmas.List.Elements.{All-head, All-tail}
use Rattle.hs_pure.specs.declared.lin.Lin.{Lin}
use Rattle.hs_pure.specs.declared.pure.Pure.TheVariants as pure_of
use Rattle.hs_pure.specs.Rename.{sums_level}
use Rattle.hs_pure.specs.Sums.{LinIsOrdered, IsOrdered}
use Rattle.hs_pure.proofs.Views.{fold-Eq}

module _ (a b : Lin) (ordered : IsOrdered (pure_of.Eq a b)) where
  both : All LinIsOrdered (a ∷ b ∷ [])
  both = subst (All LinIsOrdered) (fold-Eq sums_level a b) ordered

  pub left_ordered : LinIsOrdered a
  left_ordered = All-head LinIsOrdered a (b ∷ []) both

  pub right_ordered : LinIsOrdered b
  right_ordered = All-head LinIsOrdered b [] (All-tail LinIsOrdered a (b ∷ []) both)
