-- Bag literals stand in a formula where they stand in its assertion.
use Rattle.std.proofs.Common.{◌≡◌, Bool, true, false, not, ◌&&◌, ◌||◌, List, [], ◌∷◌, map, refl, sym, ap, ◌∙◌}
use Rattle.std.specs.List.{list_any, fold}
use Rattle.hs_pure.specs.declared.pure.Pure.{map-Pure}
use Rattle.hs_pure.specs.declared.pure.Pure.TheOpen.{Pure-F}
use Rattle.hs_pure.specs.Assertion.{Assertion, both, either, pure_level, assertion_of}
use Rattle.hs_pure.specs.Occurs.{BagUse, bag_use_level}
use Rattle.hs_pure.proofs.Levels.{related, Both}
use Rattle.hs_elimination.specs.Ordered.{has_bag_literal}
use Rattle.hs_reduction.specs.Layout.{bags_plain}
use Rattle.hs_reduction.specs.Laws.{BagsPlainIsOfAssertion}

or_assoc : (a b c : Bool) → ((a || b) || c) ≡ (a || (b || c))
or_assoc true b c = refl
or_assoc false b c = refl

none_after : (a : Bool) → a ≡ (a || false)
none_after true = refl
none_after false = refl

not_and : (a b : Bool) → not (a && b) ≡ (not a || not b)
not_and true b = refl
not_and false b = refl

not_not : (a : Bool) → not (not a) ≡ a
not_not true = refl
not_not false = refl

-- whether a bag literal stands under a quantifier or an `all_of`
abbrev has_under : Assertion → Bool
has_under p = not (bags_plain p)

record Uses (u : BagUse) (q : Assertion) : Type 0 where
  has : u.has ≡ has_bag_literal q
  under : u.under ≡ has_under q

abbrev UsePair : Type 0
UsePair = Both Uses bag_use_level pure_level

module _ (test : BagUse → Bool) (told : Assertion → Bool) (same : (z : UsePair) → test z.0 ≡ told z.1.0) where
  uses-fold : (op : Assertion → Assertion → Assertion) → ((p q : Assertion) → told (op p q) ≡ (told p || told q)) → (p : Assertion) (zs : List UsePair) →
      (told p || list_any test (map (λ (e : UsePair). e.0) zs)) ≡ told (fold op p (map (λ (e : UsePair). e.1.0) zs))
  uses-fold op join p [] = sym (none_after (told p))
  uses-fold op join p (z ∷ zs) =
      (λ i. told p || (same z i || list_any test (map (λ (e : UsePair). e.0) zs)))
      ∙ sym (or_assoc (told p) (told z.1.0) (list_any test (map (λ (e : UsePair). e.0) zs)))
      ∙ ap (λ b. b || list_any test (map (λ (e : UsePair). e.0) zs)) (sym (join p z.1.0))
      ∙ uses-fold op join (op p z.1.0) zs

  uses-first : (op : Assertion → Assertion → Assertion) → ((p q : Assertion) → told (op p q) ≡ (told p || told q)) → (z : UsePair) (zs : List UsePair) →
      (test z.0 || list_any test (map (λ (e : UsePair). e.0) zs)) ≡ told (fold op z.1.0 (map (λ (e : UsePair). e.1.0) zs))
  uses-first op join z zs = ap (λ b. b || list_any test (map (λ (e : UsePair). e.0) zs)) (same z) ∙ uses-fold op join z.1.0 zs

uses-level : (z : Pure-F UsePair) → Uses (bag_use_level (map-Pure UsePair BagUse (λ e. e.0) z)) (pure_level (map-Pure UsePair Assertion (λ e. e.1.0) z))
uses-level (Pure-F.Eq a b) = record { has = refl; under = refl }
uses-level (Pure-F.Lt a b) = record { has = refl; under = refl }
uses-level (Pure-F.Le a b) = record { has = refl; under = refl }
uses-level (Pure-F.Divides d a) = record { has = refl; under = refl }
uses-level (Pure-F.BagEq a b) = record { has = refl; under = refl }
uses-level (Pure-F.Subset a b) = record { has = refl; under = refl }
uses-level (Pure-F.Member a b) = record { has = refl; under = refl }
uses-level (Pure-F.AllOf u b p) = record { has = refl; under = p.1.1.has ∙ sym (not_not (has_bag_literal p.1.0)) }
uses-level (Pure-F.Not p) = record { has = p.1.1.has; under = p.1.1.under }
uses-level (Pure-F.And []) = record { has = refl; under = refl }
uses-level (Pure-F.And (p ∷ ps)) = record {
  has = uses-first (λ u. u.has) has_bag_literal (λ z. z.1.1.has) both (λ p q. refl) p ps;
  under = uses-first (λ u. u.under) has_under (λ z. z.1.1.under) both (λ p q. not_and (bags_plain p) (bags_plain q)) p ps;
}
uses-level (Pure-F.Or []) = record { has = refl; under = refl }
uses-level (Pure-F.Or (p ∷ ps)) = record {
  has = uses-first (λ u. u.has) has_bag_literal (λ z. z.1.1.has) either (λ p q. refl) p ps;
  under = uses-first (λ u. u.under) has_under (λ z. z.1.1.under) either (λ p q. not_and (bags_plain p) (bags_plain q)) p ps;
}
uses-level (Pure-F.Exists u p) = record { has = p.1.1.has; under = p.1.1.has ∙ sym (not_not (has_bag_literal p.1.0)) }
uses-level (Pure-F.Forall u p) = record { has = p.1.1.has; under = p.1.1.has ∙ sym (not_not (has_bag_literal p.1.0)) }

pub plain_is_of_assertion : BagsPlainIsOfAssertion
plain_is_of_assertion p = ap not (related Uses bag_use_level pure_level uses-level p).under ∙ not_not (bags_plain (assertion_of p))
