-- A formula without quantifiers and without bag literals is simple.
use Rattle.std.proofs.Common.{◌≡◌, Bool, true, false, ◌&&◌, ◌||◌, IsTrue, List, [], ◌∷◌, map, refl, sym, ◌∙◌}
use Rattle.std.specs.List.{fold, list_any}
use Rattle.hs_pure.specs.declared.pure.Pure.{Pure, map-Pure}
use Rattle.hs_pure.specs.declared.pure.Pure.TheOpen.{Pure-F}
use Rattle.hs_pure.specs.Assertion.{Assertion, both, either, pure_level, assertion_of}
use Rattle.hs_pure.specs.Eval.{has_quantifiers, has_quantifiers_level}
use Rattle.hs_pure.specs.Occurs.{has_bags}
use Rattle.hs_pure.proofs.Levels.{related, Both}
use Rattle.hs_elimination.specs.Normal.{is_simple}
use Rattle.hs_elimination.specs.Ordered.{has_bag_literal}
use Rattle.hs_elimination.proofs.Order.{bags_are}

abbrev Simple_if_none : Bool → Assertion → Type 0
Simple_if_none b q = b ≡ false → has_bag_literal q ≡ false → is_simple q ≡ true

abbrev Pair : Type 0
Pair = Both Simple_if_none has_quantifiers_level pure_level

or_left : (a b : Bool) → (a || b) ≡ false → a ≡ false
or_left true b h = absurd cc
or_left false b h = refl

or_right : (a b : Bool) → (a || b) ≡ false → b ≡ false
or_right true b h = absurd cc
or_right false b h = h

and_both : (a b : Bool) → a ≡ true → b ≡ true → (a && b) ≡ true
and_both true b h k = k
and_both false b h k = absurd cc

module _ (op : Assertion → Assertion → Assertion) (simple : (p q : Assertion) → is_simple (op p q) ≡ (is_simple p && is_simple q))
    (bags : (p q : Assertion) → has_bag_literal (op p q) ≡ (has_bag_literal p || has_bag_literal q)) where
  first_bags : (p : Assertion) (qs : List Assertion) → has_bag_literal (fold op p qs) ≡ false → has_bag_literal p ≡ false
  first_bags p [] h = h
  first_bags p (q ∷ qs) h = or_left (has_bag_literal p) (has_bag_literal q) (sym (bags p q) ∙ first_bags (op p q) qs h)

  simple-fold : (p : Assertion) (zs : List Pair) → is_simple p ≡ true → list_any (λ b. b) (map (λ (e : Pair). e.0) zs) ≡ false →
      has_bag_literal (fold op p (map (λ (e : Pair). e.1.0) zs)) ≡ false → is_simple (fold op p (map (λ (e : Pair). e.1.0) zs)) ≡ true
  simple-fold p [] h k l = h
  simple-fold p (z ∷ zs) h k l =
      let none : (has_bag_literal p || has_bag_literal z.1.0) ≡ false = sym (bags p z.1.0) ∙ first_bags (op p z.1.0) (map (λ (e : Pair). e.1.0) zs) l in
      let here : is_simple z.1.0 ≡ true = z.1.1 (or_left z.0 _ k) (or_right (has_bag_literal p) (has_bag_literal z.1.0) none) in
      simple-fold (op p z.1.0) zs (simple p z.1.0 ∙ and_both (is_simple p) (is_simple z.1.0) h here) (or_right z.0 _ k) l

  simple-list : (z : Pair) (zs : List Pair) → list_any (λ b. b) (map (λ (e : Pair). e.0) (z ∷ zs)) ≡ false →
      has_bag_literal (fold op z.1.0 (map (λ (e : Pair). e.1.0) zs)) ≡ false → is_simple (fold op z.1.0 (map (λ (e : Pair). e.1.0) zs)) ≡ true
  simple-list z zs k l =
      simple-fold z.1.0 zs (z.1.1 (or_left z.0 _ k) (first_bags z.1.0 (map (λ (e : Pair). e.1.0) zs) l)) (or_right z.0 _ k) l

simple-level : (z : Pure-F Pair) → Simple_if_none (has_quantifiers_level (map-Pure Pair Bool (λ e. e.0) z)) (pure_level (map-Pure Pair Assertion (λ e. e.1.0) z))
simple-level (Pure-F.Eq a b) h k = refl
simple-level (Pure-F.Lt a b) h k = refl
simple-level (Pure-F.Le a b) h k = refl
simple-level (Pure-F.Divides d a) h k = refl
simple-level (Pure-F.BagEq a b) h k = absurd cc
simple-level (Pure-F.Subset a b) h k = absurd cc
simple-level (Pure-F.Member a b) h k = absurd cc
simple-level (Pure-F.AllOf u b p) h k = absurd cc
simple-level (Pure-F.Not p) h k = p.1.1 h k
simple-level (Pure-F.And []) h k = refl
simple-level (Pure-F.And (p ∷ ps)) h k = simple-list both (λ p q. refl) (λ p q. refl) p ps h k
simple-level (Pure-F.Or []) h k = refl
simple-level (Pure-F.Or (p ∷ ps)) h k = simple-list either (λ p q. refl) (λ p q. refl) p ps h k
simple-level (Pure-F.Exists u p) h k = absurd cc
simple-level (Pure-F.Forall u p) h k = absurd cc

pub simple : (p : Pure) → has_quantifiers p ≡ false → has_bags p ≡ false → IsTrue (is_simple (assertion_of p))
simple p h k = related Simple_if_none has_quantifiers_level pure_level simple-level p h (sym (bags_are p) ∙ k)
