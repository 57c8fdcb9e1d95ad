-- The conjuncts of an And are those of its members, and any other formula is its own.
use Rattle.std.proofs.Common.{◌≡◌, List, [], ◌∷◌, ◌++◌, map, refl, sym, ap, ◌∙◌, subst}
use Rattle.std.specs.List.{flat_map}
use Rattle.hs_pure.specs.declared.pure.Pure.{Pure, fold-Pure, fold-roll-Pure, ind-Pure, map-Pure, roll-Pure}
use Rattle.hs_pure.specs.declared.pure.Pure.TheOpen.{Pure-F}
use Rattle.hs_pure.specs.declared.pure.Pure.TheVariants as pure_of
use Rattle.hs_pure.proofs.Views.{fold-And}
use Rattle.hs_program_rules.specs.Parts.{Flat, flat_level, conjuncts}

pieces : (ps : List Pure) → flat_map (λ p. p.1) (map (fold-Pure Flat flat_level) ps) ≡ flat_map conjuncts ps
pieces [] = refl
pieces (p ∷ ps) = ap (λ qs. conjuncts p ++ qs) (pieces ps)

pub conjuncts-And : (ps : List Pure) → conjuncts (pure_of.And ps) ≡ flat_map conjuncts ps
conjuncts-And ps = ap (λ (f : Flat). f.1) (fold-And flat_level ps) ∙ pieces ps

-- ---- the first part is the formula again

abbrev Whole : Pure → Type 0
Whole p = (fold-Pure Flat flat_level p).0 ≡ p

abbrev With : Type 0
With = (p : Pure) × Whole p

abbrev pure_in : Pure-F With → Pure-F Pure
pure_in y = map-Pure With Pure (λ e. e.0) y

members_whole : (ps : List With) → map (λ (f : Flat). f.0) (map (fold-Pure Flat flat_level) (map (λ (e : With). e.0) ps)) ≡ map (λ (e : With). e.0) ps
members_whole [] = refl
members_whole (p ∷ ps) = let e = p.1 in let f = members_whole ps in λ i. e i ∷ f i

level_whole : (y : Pure-F With) → (flat_level (map-Pure Pure Flat (fold-Pure Flat flat_level) (pure_in y))).0 ≡ roll-Pure (pure_in y)
level_whole (Pure-F.Eq a b) = sym (pure_of.rolls-Eq a b)
level_whole (Pure-F.Lt a b) = sym (pure_of.rolls-Lt a b)
level_whole (Pure-F.Le a b) = sym (pure_of.rolls-Le a b)
level_whole (Pure-F.Divides d a) = sym (pure_of.rolls-Divides d a)
level_whole (Pure-F.BagEq a b) = sym (pure_of.rolls-BagEq a b)
level_whole (Pure-F.Subset a b) = sym (pure_of.rolls-Subset a b)
level_whole (Pure-F.Member a b) = sym (pure_of.rolls-Member a b)
level_whole (Pure-F.AllOf u b p) = ap (pure_of.AllOf u b) p.1 ∙ sym (pure_of.rolls-AllOf u b p.0)
level_whole (Pure-F.Not p) = ap pure_of.Not p.1 ∙ sym (pure_of.rolls-Not p.0)
level_whole (Pure-F.And ps) = ap pure_of.And (members_whole ps) ∙ sym (pure_of.rolls-And (map (λ (e : With). e.0) ps))
level_whole (Pure-F.Or ps) = ap pure_of.Or (members_whole ps) ∙ sym (pure_of.rolls-Or (map (λ (e : With). e.0) ps))
level_whole (Pure-F.Exists u p) = ap (pure_of.Exists u) p.1 ∙ sym (pure_of.rolls-Exists u p.0)
level_whole (Pure-F.Forall u p) = ap (pure_of.Forall u) p.1 ∙ sym (pure_of.rolls-Forall u p.0)

rolled_whole : (y : Pure-F With) → Whole (roll-Pure (pure_in y))
rolled_whole y = ap (λ (f : Flat). f.0) (fold-roll-Pure Flat flat_level (pure_in y)) ∙ level_whole y

whole : (p : Pure) → Whole p
whole = ind-Pure Whole (λ x y is. subst (λ x. Whole (roll-Pure x)) is (rolled_whole y))

-- ---- what is no And has one conjunct

abbrev flat_at : Pure-F Pure → Flat
flat_at x = flat_level (map-Pure Pure Flat (fold-Pure Flat flat_level) x)

no_and : (x : Pure-F Pure) → ((ps : List Pure) → x ≡ Pure-F.And ps → ⊥) → (flat_at x).1 ≡ (flat_at x).0 ∷ []
no_and (Pure-F.Eq a b) h = refl
no_and (Pure-F.Lt a b) h = refl
no_and (Pure-F.Le a b) h = refl
no_and (Pure-F.Divides d a) h = refl
no_and (Pure-F.BagEq a b) h = refl
no_and (Pure-F.Subset a b) h = refl
no_and (Pure-F.Member a b) h = refl
no_and (Pure-F.AllOf u b p) h = refl
no_and (Pure-F.Not p) h = refl
no_and (Pure-F.And ps) h = absurd (h ps refl)
no_and (Pure-F.Or ps) h = refl
no_and (Pure-F.Exists u p) h = refl
no_and (Pure-F.Forall u p) h = refl

abbrev Other : Pure → Type 0
Other p = ((ps : List Pure) → p ≡ pure_of.And ps → ⊥) → conjuncts p ≡ p ∷ []

other_roll : (x : Pure-F Pure) → Other (roll-Pure x)
other_roll x h =
    ap (λ (f : Flat). f.1) (fold-roll-Pure Flat flat_level x)
    ∙ no_and x (λ ps e. h ps (ap roll-Pure e ∙ pure_of.rolls-And ps))
    ∙ ap (λ q. q ∷ []) (sym (ap (λ (f : Flat). f.0) (fold-roll-Pure Flat flat_level x)) ∙ whole (roll-Pure x))

pub conjuncts-other : (p : Pure) → Other p
conjuncts-other = ind-Pure Other (λ x y is. other_roll x)
