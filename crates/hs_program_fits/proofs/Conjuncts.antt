-- The conjuncts of a proper formula are proper, and none is an And.
use Rattle.std.proofs.Common.{ℕ, ◌≡◌, Bool, true, false, not, IsTrue, List, [], ◌∷◌, length, map, get_or, refl, sym, ◌∙◌, ap, subst}
use Rattle.std.specs.List.{All, list_any, flat_map}
use Rattle.std.proofs.lemmas.Bool.{false_from_ne_true}
use Rattle.std.proofs.lemmas.List.Elements.{All-nil, All-cons, All-head, All-tail, All-append}
use Rattle.hs_pure.specs.declared.var.Var.{Var}
use Rattle.hs_pure.specs.declared.pure.Pure.{Pure, fold-Pure, ind-Pure, fold-roll-Pure, map-Pure, roll-Pure}
use Rattle.hs_pure.specs.declared.pure.Pure.TheOpen.{Pure-F}
use Rattle.hs_pure.specs.declared.pure.Pure.TheVariants as pure_of
use Rattle.hs_pure.specs.Occurs.{is_bound, is_bound_level, BagUse, bag_use, bag_use_level}
use Rattle.hs_pure.specs.Rename.{sums, sums_level}
use Rattle.hs_pure.specs.Sums.{LinIsOrdered}
use Rattle.hs_pure.proofs.Levels.{Both, related}
use Rattle.hs_pure.proofs.Lists.{list_any-map_at, All-pieces}
use Rattle.hs_pure.proofs.Views.{fold-Eq, fold-Lt, fold-Le, fold-Divides, fold-BagEq, fold-Subset, fold-Member, fold-AllOf, fold-Not, fold-And, fold-Or, fold-Exists, fold-Forall}
use Rattle.hs_heap.specs.WellFormed.{bag_names, bag_names_level, member_counts, member_counts_level, is_and, is_and_level, IsProper}
use Rattle.hs_heap.proofs.Booleans.{clash, false_of_not, not_of_false}
use Rattle.hs_goal.specs.Parts.{ConjunctFits}
use Rattle.hs_program_rules.specs.Parts.{Flat, flat_level, conjuncts}

-- ---- members of an And

abbrev IsMany : ℕ → Type 0
IsMany n = ¬ (n ≡ 1)

members_proper : (ps : List Pure) → IsProper (pure_of.And ps) → All IsProper ps
members_proper ps h =
    let ordered = All-pieces LinIsOrdered sums ps (subst (All LinIsOrdered) (fold-And sums_level ps) h.ordered) in
    let bags = All-pieces (λ (v : Var). v.bag ≡ true) bag_names ps (subst (All (λ (v : Var). v.bag ≡ true)) (fold-And bag_names_level ps) h.bags) in
    let counts = subst (All IsMany) (fold-And member_counts_level ps) h.members in
    let members = All-pieces IsMany member_counts ps (All-tail IsMany (length (map member_counts ps)) (flat_map (λ ns. ns) (map member_counts ps)) counts) in
    let plain : list_any (λ (u : BagUse). u.under) (map bag_use ps) ≡ false = false_of_not (subst (λ (u : BagUse). IsTrue (not u.under)) (fold-And bag_use_level ps) h.plain) in
    λ i d less. record {
      ordered = ordered i d less;
      bags = bags i d less;
      binders = λ u b. h.binders u (subst IsTrue (sym (fold-And (is_bound_level u) ps)) (list_any-map_at (λ (p : Bool). p) (is_bound u) ps i d less b));
      members = members i d less;
      plain = not_of_false (false_from_ne_true (bag_use (get_or ps i d)).under (λ e. clash (list_any-map_at (λ (u : BagUse). u.under) bag_use ps i d less e) plain));
    }

-- ---- the formula itself stands beside its conjuncts

abbrev flat : Pure → Flat
flat = fold-Pure Flat flat_level

Same : Pure → Type 0
Same p = (flat p).0 ≡ p

abbrev With : Type 0
With = (p : Pure) × Same p

abbrev pure_in : Pure-F With → Pure-F Pure
pure_in y = map-Pure With Pure (λ e. e.0) y

members_same : (ps : List With) → map (λ (f : Flat). f.0) (map flat (map (λ (e : With). e.0) ps)) ≡ map (λ (e : With). e.0) ps
unfolding Same
members_same [] = refl
members_same (p ∷ ps) = let first = p.1 in let rest = members_same ps in λ i. first i ∷ rest i

level_same : (y : Pure-F With) → (flat_level (map-Pure Pure Flat flat (pure_in y))).0 ≡ roll-Pure (pure_in y)
unfolding Same
level_same (Pure-F.Eq a b) = sym (pure_of.rolls-Eq a b)
level_same (Pure-F.Lt a b) = sym (pure_of.rolls-Lt a b)
level_same (Pure-F.Le a b) = sym (pure_of.rolls-Le a b)
level_same (Pure-F.Divides d a) = sym (pure_of.rolls-Divides d a)
level_same (Pure-F.BagEq a b) = sym (pure_of.rolls-BagEq a b)
level_same (Pure-F.Subset a b) = sym (pure_of.rolls-Subset a b)
level_same (Pure-F.Member a b) = sym (pure_of.rolls-Member a b)
level_same (Pure-F.AllOf u b p) = ap (λ q. pure_of.AllOf u b q) p.1 ∙ sym (pure_of.rolls-AllOf u b p.0)
level_same (Pure-F.Not p) = ap pure_of.Not p.1 ∙ sym (pure_of.rolls-Not p.0)
level_same (Pure-F.And ps) = ap pure_of.And (members_same ps) ∙ sym (pure_of.rolls-And (map (λ (e : With). e.0) ps))
level_same (Pure-F.Or ps) = ap pure_of.Or (members_same ps) ∙ sym (pure_of.rolls-Or (map (λ (e : With). e.0) ps))
level_same (Pure-F.Exists u p) = ap (λ q. pure_of.Exists u q) p.1 ∙ sym (pure_of.rolls-Exists u p.0)
level_same (Pure-F.Forall u p) = ap (λ q. pure_of.Forall u q) p.1 ∙ sym (pure_of.rolls-Forall u p.0)

rolled_same : (y : Pure-F With) → Same (roll-Pure (pure_in y))
unfolding Same
rolled_same y = ap (λ (f : Flat). f.0) (fold-roll-Pure Flat flat_level (pure_in y)) ∙ level_same y

same_of : (p : Pure) → Same p
same_of = ind-Pure Same (λ x y is. subst (λ x. Same (roll-Pure x)) is (rolled_same y))

flat_is : (p : Pure) → (flat p).0 ≡ p
unfolding Same
flat_is p = same_of p

-- ---- the conjuncts

-- whether the formula is an And, and where it is proper its conjuncts fit
abbrev Told : Flat → Bool → Type 0
Told f b = (is_and f.0 ≡ b) × (IsProper f.0 → All ConjunctFits f.1)

abbrev Each : Type 0
Each = Both Told flat_level is_and_level

itself_told : (p : Pure) → is_and p ≡ false → Told (p, p ∷ []) false
itself_told p e = (e, λ h. All-cons ConjunctFits p [] (e, h) (All-nil ConjunctFits))

all_conjuncts : (es : List Each) → All IsProper (map (λ p. p.0) (map (λ (e : Each). e.0) es)) → All ConjunctFits (flat_map (λ p. p.1) (map (λ (e : Each). e.0) es))
all_conjuncts [] h = All-nil ConjunctFits
all_conjuncts (e ∷ es) h =
    let ps = map (λ p. p.0) (map (λ (e : Each). e.0) es) in
    All-append ConjunctFits e.0.1 (flat_map (λ p. p.1) (map (λ (e : Each). e.0) es)) (e.1.1.1 (All-head IsProper e.0.0 ps h)) (all_conjuncts es (All-tail IsProper e.0.0 ps h))

step : (z : Pure-F Each) → Told (flat_level (map-Pure Each Flat (λ e. e.0) z)) (is_and_level (map-Pure Each Bool (λ e. e.1.0) z))
step (Pure-F.Eq a b) = itself_told _ (fold-Eq is_and_level a b)
step (Pure-F.Lt a b) = itself_told _ (fold-Lt is_and_level a b)
step (Pure-F.Le a b) = itself_told _ (fold-Le is_and_level a b)
step (Pure-F.Divides d a) = itself_told _ (fold-Divides is_and_level d a)
step (Pure-F.BagEq a b) = itself_told _ (fold-BagEq is_and_level a b)
step (Pure-F.Subset a b) = itself_told _ (fold-Subset is_and_level a b)
step (Pure-F.Member a b) = itself_told _ (fold-Member is_and_level a b)
step (Pure-F.AllOf u b p) = itself_told _ (fold-AllOf is_and_level u b p.0.0)
step (Pure-F.Not p) = itself_told _ (fold-Not is_and_level p.0.0)
step (Pure-F.And ps) =
    let qs = map (λ p. p.0) (map (λ (e : Each). e.0) ps) in
    (fold-And is_and_level qs, λ h. all_conjuncts ps (members_proper qs h))
step (Pure-F.Or ps) = itself_told _ (fold-Or is_and_level (map (λ p. p.0) (map (λ (e : Each). e.0) ps)))
step (Pure-F.Exists u p) = itself_told _ (fold-Exists is_and_level u p.0.0)
step (Pure-F.Forall u p) = itself_told _ (fold-Forall is_and_level u p.0.0)

pub conjuncts_fit : (p : Pure) → IsProper p → All ConjunctFits (conjuncts p)
conjuncts_fit p h = (related Told flat_level is_and_level step p).1 (subst IsProper (sym (flat_is p)) h)
