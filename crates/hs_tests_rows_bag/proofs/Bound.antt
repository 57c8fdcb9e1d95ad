-- What binds a variable over a formula in order is in order.
use Rattle.std.proofs.Common.{◌++◌, sym, ap, ◌∙◌, subst}
use Rattle.std.specs.List.{All}
use Rattle.hs_pure.specs.declared.var.Var.{Var}
use Rattle.hs_pure.specs.declared.bag.Bag.TheVariants.{Name}
use Rattle.hs_pure.specs.declared.pure.Pure.{Pure}
use Rattle.hs_pure.specs.declared.pure.Pure.TheVariants.{AllOf, Exists, Forall}
use Rattle.hs_pure.specs.Rename.{bag_sums_level, sums, sums_level}
use Rattle.hs_pure.specs.Sums.{LinIsOrdered, IsOrdered}
use Rattle.hs_pure.proofs.Views.{fold_bag-Name, fold-AllOf, fold-Exists, fold-Forall}

pub ordered_exists : (u : Var) (p : Pure) → IsOrdered p → IsOrdered (Exists u p)
ordered_exists u p h = subst (All LinIsOrdered) (sym (fold-Exists sums_level u p)) h

pub ordered_forall : (u : Var) (p : Pure) → IsOrdered p → IsOrdered (Forall u p)
ordered_forall u p h = subst (All LinIsOrdered) (sym (fold-Forall sums_level u p)) h

pub ordered_all : (u v : Var) (p : Pure) → IsOrdered p → IsOrdered (AllOf u (Name v) p)
ordered_all u v p h = subst (All LinIsOrdered) (sym (fold-AllOf sums_level u (Name v) p ∙ ap (λ b. b ++ sums p) (fold_bag-Name bag_sums_level v))) h
