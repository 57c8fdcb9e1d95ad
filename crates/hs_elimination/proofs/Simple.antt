-- A formula whose assertion is simple has no quantifiers.
use Rattle.std.proofs.Common.{◌≡◌, Bool, true, false, ◌&&◌, ◌||◌, List, [], ◌∷◌, map, refl, sym, ◌∙◌}
use Rattle.std.specs.List.{fold, list_any}
use Rattle.hs_pure.specs.declared.pure.Pure.{Pure, map-Pure}
use Rattle.hs_pure.specs.declared.pure.Pure.TheOpen.{Pure-F}
use Rattle.hs_pure.specs.Assertion.{Assertion, both, either, pure_level, assertion_of}
use Rattle.hs_pure.specs.Eval.{has_quantifiers, has_quantifiers_level}
use Rattle.hs_pure.proofs.Levels.{related, Both}
use Rattle.hs_elimination.specs.Normal.{is_simple}

abbrev None_if_simple : Bool → Assertion → Type 0
None_if_simple b q = is_simple q ≡ true → b ≡ false

abbrev Pair : Type 0
Pair = Both None_if_simple has_quantifiers_level pure_level

and_left : (a b : Bool) → (a && b) ≡ true → a ≡ true
and_left true b h = refl
and_left false b h = absurd cc

and_right : (a b : Bool) → (a && b) ≡ true → b ≡ true
and_right true b h = h
and_right false b h = absurd cc

or_none : (a b : Bool) → a ≡ false → b ≡ false → (a || b) ≡ false
or_none true b h k = absurd cc
or_none false b h k = k

none-fold : (op : Assertion → Assertion → Assertion) → ((p q : Assertion) → is_simple (op p q) ≡ (is_simple p && is_simple q)) → (p : Assertion) (zs : List Pair)
    → is_simple (fold op p (map (λ (e : Pair). e.1.0) zs)) ≡ true → (is_simple p ≡ true) × (list_any (λ b. b) (map (λ (e : Pair). e.0) zs) ≡ false)
none-fold op join p [] h = (h, refl)
none-fold op join p (z ∷ zs) h =
    let w = none-fold op join (op p z.1.0) zs h in
    let e : (is_simple p && is_simple z.1.0) ≡ true = sym (join p z.1.0) ∙ w.0 in
    (and_left _ _ e, or_none z.0 _ (z.1.1 (and_right _ _ e)) w.1)

none-list : (op : Assertion → Assertion → Assertion) → ((p q : Assertion) → is_simple (op p q) ≡ (is_simple p && is_simple q)) → (z : Pair) (zs : List Pair)
    → is_simple (fold op z.1.0 (map (λ (e : Pair). e.1.0) zs)) ≡ true → list_any (λ b. b) (map (λ (e : Pair). e.0) (z ∷ zs)) ≡ false
none-list op join z zs h = let w = none-fold op join z.1.0 zs h in or_none z.0 _ (z.1.1 w.0) w.1

none-level : (z : Pure-F Pair) → None_if_simple (has_quantifiers_level (map-Pure Pair Bool (λ e. e.0) z)) (pure_level (map-Pure Pair Assertion (λ e. e.1.0) z))
none-level (Pure-F.Eq a b) h = refl
none-level (Pure-F.Lt a b) h = refl
none-level (Pure-F.Le a b) h = refl
none-level (Pure-F.Divides d a) h = refl
none-level (Pure-F.BagEq a b) h = refl
none-level (Pure-F.Subset a b) h = refl
none-level (Pure-F.Member a b) h = refl
none-level (Pure-F.AllOf u b p) h = absurd cc
none-level (Pure-F.Not p) h = p.1.1 h
none-level (Pure-F.And []) h = refl
none-level (Pure-F.And (p ∷ ps)) h = none-list both (λ p q. refl) p ps h
none-level (Pure-F.Or []) h = refl
none-level (Pure-F.Or (p ∷ ps)) h = none-list either (λ p q. refl) p ps h
none-level (Pure-F.Exists u p) h = absurd cc
none-level (Pure-F.Forall u p) h = absurd cc

pub no_quantifiers : (p : Pure) → is_simple (assertion_of p) ≡ true → has_quantifiers p ≡ false
no_quantifiers = related None_if_simple has_quantifiers_level pure_level none-level
