use Rattle.std.proofs.Common.{◌≡◌, true, not, map, sym, ◌∙◌, ap}
use Rattle.std.specs.List.{list_any}
use Rattle.hs_pure.specs.Occurs.{BagUse, bag_use, bag_use_level, is_bags_plain}
use Rattle.hs_pure.proofs.Views.{fold-AllOf, fold-Not, fold-And, fold-Or, fold-Exists, fold-Forall}
use Rattle.hs_pure.proofs.Lists.{list_any-map_at, from_not}
use Rattle.hs_pure.proofs.pure.+bags_plain.Goals as goal

pub Pure::bags_plain-returns-in-AllOf : goal.Pure::bags_plain-returns-in-AllOf
Pure::bags_plain-returns-in-AllOf t c =
    ap not (c.has_bags.ensures ∙ ap (λ q. (bag_use q).has) c.get.ensures
    ∙ sym (ap (λ q. (bag_use q).under) c.in-AllOf.is ∙ ap (λ (u : BagUse). u.under) (fold-AllOf bag_use_level c.in-AllOf.field-0 c.in-AllOf.field-1 c.in-AllOf.p)))

pub Pure::bags_plain-returns-in-Not : goal.Pure::bags_plain-returns-in-Not
Pure::bags_plain-returns-in-Not t c =
    c.bags_plain.ensures ∙ ap is_bags_plain c.get-in-Not.ensures
    ∙ sym (ap is_bags_plain c.in-Not.is ∙ ap (λ (u : BagUse). not u.under) (fold-Not bag_use_level c.in-Not.p))

pub Pure::bags_plain-returns-in-And : goal.Pure::bags_plain-returns-in-And
Pure::bags_plain-returns-in-And t c =
    c.all_bags_plain.ensures ∙ ap (λ qs. not (list_any (λ p. p.under) (map bag_use qs))) c.as_slice.ensures
    ∙ sym (ap is_bags_plain c.in-And.is ∙ ap (λ (u : BagUse). not u.under) (fold-And bag_use_level c.in-And.ps))

pub Pure::bags_plain-returns-in-Or : goal.Pure::bags_plain-returns-in-Or
Pure::bags_plain-returns-in-Or t c =
    c.all_bags_plain-in-Or.ensures ∙ ap (λ qs. not (list_any (λ p. p.under) (map bag_use qs))) c.as_slice-in-Or.ensures
    ∙ sym (ap is_bags_plain c.in-Or.is ∙ ap (λ (u : BagUse). not u.under) (fold-Or bag_use_level c.in-Or.ps))

pub Pure::bags_plain-returns-in-Exists : goal.Pure::bags_plain-returns-in-Exists
Pure::bags_plain-returns-in-Exists t c =
    ap not (c.has_bags-in-Exists.ensures ∙ ap (λ q. (bag_use q).has) c.get-in-Exists.ensures
    ∙ sym (ap (λ q. (bag_use q).under) c.in-Exists.is ∙ ap (λ (u : BagUse). u.under) (fold-Exists bag_use_level c.in-Exists.field-0 c.in-Exists.p)))

pub Pure::bags_plain-returns-in-Forall : goal.Pure::bags_plain-returns-in-Forall
Pure::bags_plain-returns-in-Forall t c =
    ap not (c.has_bags-in-Forall.ensures ∙ ap (λ q. (bag_use q).has) c.get-in-Forall.ensures
    ∙ sym (ap (λ q. (bag_use q).under) c.in-Forall.is ∙ ap (λ (u : BagUse). u.under) (fold-Forall bag_use_level c.in-Forall.field-0 c.in-Forall.p)))

pub all_bags_plain-returns-then-not-bags_plain : goal.all_bags_plain-returns-then-not-bags_plain
all_bags_plain-returns-then-not-bags_plain t c =
    let under : (bag_use c.p-item.result).under ≡ true = from_not _ (sym c.bags_plain.ensures ∙ c.if-not-bags_plain.true) in
    ap not (sym (list_any-map_at (λ p. p.under) bag_use c.args.ps.now c.loop-p.p-index c.p-item.result c.loop-p-test.true
    (ap (λ p. (bag_use p).under) (sym c.p-item.is) ∙ under)))
