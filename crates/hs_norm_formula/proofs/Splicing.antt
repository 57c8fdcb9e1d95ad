-- The conjuncts of a formula, by what it is.
use Rattle.std.proofs.Common.{◌≡◌, Bool, false, List, [], ◌∷◌, ◌++◌, map, refl, sym, ap, ◌∙◌, subst, true≢false}
use Rattle.std.specs.List.{flat_map, All}
use Rattle.std.proofs.lemmas.List.Elements.{All-nil, All-cons, All-append}
use Rattle.std.proofs.lemmas.List.Folds.{flat_map-map}
use Rattle.hs_pure.specs.declared.pure.Pure.{Pure, fold-Pure, ind-Pure, fold-roll-Pure, map-Pure, roll-Pure}
use Rattle.hs_pure.specs.declared.pure.Pure.TheOpen.{Pure-F}
use Rattle.hs_pure.specs.declared.pure.Pure.TheVariants as pure_of
use Rattle.hs_pure.proofs.Levels.{map_Pure-map_Pure}
use Rattle.hs_pure.proofs.Views.{fold-And}
use Rattle.hs_heap.specs.WellFormed.{is_and, is_and_level}
use Rattle.hs_norm_formula.specs.Laws.{ConjunctsAreSpliced}
use Rattle.hs_norm_formula.specs.Splice.{members, split_level, conjuncts}

abbrev Split : Type 0
Split = Pure × List Pure

abbrev split : Pure → Split
split = fold-Pure Split split_level

-- the first part is the formula again
abbrev Whole : Pure → Type 0
Whole p = (split p).0 ≡ p

abbrev Known : Type 0
Known = (p : Pure) × Whole p

whole_level : (y : Pure-F Known) → Whole (roll-Pure (map-Pure Known Pure (λ e. e.0) y))
whole_level y =
    ap (λ (e : Split). e.0) (fold-roll-Pure Split split_level (map-Pure Known Pure (λ e. e.0) y))
    ∙ ap roll-Pure (map_Pure-map_Pure split (λ (e : Split). e.0) (map-Pure Known Pure (λ e. e.0) y) ∙ map_Pure-map_Pure (λ (e : Known). e.0) (λ p. (split p).0) y)
    ∙ (λ i. roll-Pure (map-Pure Known Pure (λ e. e.1 i) y))

whole : (p : Pure) → Whole p
whole = ind-Pure Whole (λ x y is. subst (λ z. Whole (roll-Pure z)) is (whole_level y))

pub conjuncts-And : (ps : List Pure) → conjuncts (pure_of.And ps) ≡ flat_map conjuncts ps
conjuncts-And ps =
    ap (λ (e : Split). e.1) (fold-And split_level ps)
    ∙ flat_map-map (λ qs. qs) (λ (e : Split). e.1) (map split ps)
    ∙ flat_map-map (λ (e : Split). e.1) split ps

is_no_and : Pure-F Pure → Type 0
is_no_and x = (ps : List Pure) → x ≡ Pure-F.And ps → ⊥

members-alone : (x : Pure-F Pure) (q : Pure) → is_no_and x → members (map-Pure Split (List Pure) (λ e. e.1) (map-Pure Pure Split split x)) q ≡ q ∷ []
unfolding is_no_and
members-alone (Pure-F.Eq a b) q h = refl
members-alone (Pure-F.Lt a b) q h = refl
members-alone (Pure-F.Le a b) q h = refl
members-alone (Pure-F.Divides d a) q h = refl
members-alone (Pure-F.BagEq a b) q h = refl
members-alone (Pure-F.Subset a b) q h = refl
members-alone (Pure-F.Member a b) q h = refl
members-alone (Pure-F.AllOf u b p) q h = refl
members-alone (Pure-F.Not p) q h = refl
members-alone (Pure-F.And ps) q h = absurd (h ps refl)
members-alone (Pure-F.Or ps) q h = refl
members-alone (Pure-F.Exists u p) q h = refl
members-alone (Pure-F.Forall u p) q h = refl

abbrev Other : Pure → Type 0
Other p = ((ps : List Pure) → p ≡ pure_of.And ps → ⊥) → conjuncts p ≡ p ∷ []

other_roll : (x : Pure-F Pure) → Other (roll-Pure x)
unfolding is_no_and
other_roll x h =
    ap (λ (e : Split). e.1) (fold-roll-Pure Split split_level x)
    ∙ members-alone x _ (λ ps e. h ps (ap roll-Pure e ∙ pure_of.rolls-And ps))
    ∙ ap (λ q. q ∷ []) (sym (ap (λ (e : Split). e.0) (fold-roll-Pure Split split_level x)) ∙ whole (roll-Pure x))

pub conjuncts-other : (p : Pure) → Other p
conjuncts-other = ind-Pure Other (λ x y is. other_roll x)

-- a formula that is no "and" by test
pub conjuncts-alone : (p : Pure) → is_and p ≡ false → conjuncts p ≡ p ∷ []
conjuncts-alone p e = conjuncts-other p (λ ps is. true≢false (sym (fold-And is_and_level ps) ∙ sym (ap is_and is) ∙ e))

pub and_case : (p : Pure) (ps : List Pure) (old : List Pure) → p ≡ pure_of.And ps → old ++ flat_map conjuncts ps ≡ old ++ conjuncts p
and_case p ps old e = ap (λ xs. old ++ xs) (sym (ap conjuncts e ∙ conjuncts-And ps))

-- ---- no conjunct is an "and"

abbrev Alone : Pure → Type 0
Alone p = is_and p ≡ false

abbrev Cleared : Type 0
Cleared = (p : Pure) × All Alone (conjuncts p)

alone : (x : Pure-F Pure) → is_and_level (map-Pure Pure Bool is_and x) ≡ false → All Alone (conjuncts (roll-Pure x))
alone x e =
    let none : is_and (roll-Pure x) ≡ false = fold-roll-Pure Bool is_and_level x ∙ e in
    subst (All Alone) (sym (conjuncts-alone (roll-Pure x) none)) (All-cons Alone (roll-Pure x) [] none (All-nil Alone))

all_cleared : (ks : List Cleared) → All Alone (flat_map conjuncts (map (λ (e : Cleared). e.0) ks))
all_cleared [] = All-nil Alone
all_cleared (k ∷ ks) = All-append Alone (conjuncts k.0) (flat_map conjuncts (map (λ (e : Cleared). e.0) ks)) k.1 (all_cleared ks)

cleared_level : (y : Pure-F Cleared) → All Alone (conjuncts (roll-Pure (map-Pure Cleared Pure (λ e. e.0) y)))
cleared_level (Pure-F.Eq a b) = alone (Pure-F.Eq a b) refl
cleared_level (Pure-F.Lt a b) = alone (Pure-F.Lt a b) refl
cleared_level (Pure-F.Le a b) = alone (Pure-F.Le a b) refl
cleared_level (Pure-F.Divides d a) = alone (Pure-F.Divides d a) refl
cleared_level (Pure-F.BagEq a b) = alone (Pure-F.BagEq a b) refl
cleared_level (Pure-F.Subset a b) = alone (Pure-F.Subset a b) refl
cleared_level (Pure-F.Member a b) = alone (Pure-F.Member a b) refl
cleared_level (Pure-F.AllOf u b p) = alone (Pure-F.AllOf u b p.0) refl
cleared_level (Pure-F.Not p) = alone (Pure-F.Not p.0) refl
cleared_level (Pure-F.And ks) = subst (All Alone) (sym (ap conjuncts (pure_of.rolls-And (map (λ (e : Cleared). e.0) ks)) ∙ conjuncts-And (map (λ (e : Cleared). e.0) ks))) (all_cleared ks)
cleared_level (Pure-F.Or ks) = alone (Pure-F.Or (map (λ (e : Cleared). e.0) ks)) refl
cleared_level (Pure-F.Exists u p) = alone (Pure-F.Exists u p.0) refl
cleared_level (Pure-F.Forall u p) = alone (Pure-F.Forall u p.0) refl

none_left : (p : Pure) → All Alone (conjuncts p)
none_left = ind-Pure (λ p. All Alone (conjuncts p)) (λ x y is. subst (λ z. All Alone (conjuncts (roll-Pure z))) is (cleared_level y))

pub conjuncts_are_spliced : ConjunctsAreSpliced
conjuncts_are_spliced = record { is_one = fold-And is_and_level; of_and = conjuncts-And; of_other = conjuncts-alone; none_left = none_left }
