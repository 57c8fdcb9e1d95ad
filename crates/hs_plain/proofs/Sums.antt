-- The sums of a formula are those of its assertion.
use Rattle.std.proofs.Common.{◌≡◌, List, [], ◌∷◌, ◌++◌, map, append_assoc, refl, sym, ap, ◌∙◌}
use Rattle.std.specs.List.{fold, flat_map}
use Rattle.hs_pure.specs.declared.lin.Lin.{Lin}
use Rattle.hs_pure.specs.declared.bag.Bag.{Bag, map-Bag}
use Rattle.hs_pure.specs.declared.bag.Bag.TheOpen.{Bag-F}
use Rattle.hs_pure.specs.declared.pure.Pure.{Pure, map-Pure}
use Rattle.hs_pure.specs.declared.pure.Pure.TheOpen.{Pure-F}
use Rattle.hs_pure.specs.Assertion.{BagTerm, Assertion, both, either, every, some, bag_level, bag_term_of, pure_level, assertion_of}
use Rattle.hs_pure.specs.Rename.{bag_sums, bag_sums_level, sums, sums_level}
use Rattle.hs_pure.proofs.Levels.{of_term, of_assertion}
use Rattle.hs_pure.proofs.Mirrored.{fold-joined}
use Rattle.hs_elimination.specs.Ordered.{term_sums, assertion_sums}

append_none : (a : List Lin) → a ≡ a ++ []
append_none [] = refl
append_none (x ∷ a) = ap (λ b. x ∷ b) (append_none a)

flat-fold : (a : List Lin) (ls : List (List Lin)) → fold (λ a b. a ++ b) a ls ≡ a ++ flat_map (λ l. l) ls
flat-fold a [] = append_none a
flat-fold a (l ∷ ls) = flat-fold (a ++ l) ls ∙ append_assoc a l (flat_map (λ l. l) ls)

sums-every : (ps : List Assertion) → flat_map (λ l. l) (map assertion_sums ps) ≡ assertion_sums (every ps)
sums-every [] = refl
sums-every (p ∷ ps) = sym (fold-joined both (λ a b. a ++ b) assertion_sums (λ p q. refl) p ps ∙ flat-fold (assertion_sums p) (map assertion_sums ps))

sums-some : (ps : List Assertion) → flat_map (λ l. l) (map assertion_sums ps) ≡ assertion_sums (some ps)
sums-some [] = refl
sums-some (p ∷ ps) = sym (fold-joined either (λ a b. a ++ b) assertion_sums (λ p q. refl) p ps ∙ flat-fold (assertion_sums p) (map assertion_sums ps))

bag_sums-is : (b : Bag) → bag_sums b ≡ term_sums (bag_term_of b)
bag_sums-is = of_term bag_sums_level term_sums step
  where
    step : (z : Bag-F BagTerm) → bag_sums_level (map-Bag BagTerm (List Lin) term_sums z) ≡ term_sums (bag_level z)
    step Bag-F.Empty = refl
    step (Bag-F.Name v) = refl
    step (Bag-F.One a) = refl
    step (Bag-F.Union a b) = refl
    step (Bag-F.Inter a b) = refl
    step (Bag-F.Diff a b) = refl

pub sums-is : (p : Pure) → sums p ≡ assertion_sums (assertion_of p)
sums-is = of_assertion sums_level assertion_sums step
  where
    step : (z : Pure-F Assertion) → sums_level (map-Pure Assertion (List Lin) assertion_sums z) ≡ assertion_sums (pure_level z)
    step (Pure-F.Eq a b) = refl
    step (Pure-F.Lt a b) = refl
    step (Pure-F.Le a b) = refl
    step (Pure-F.Divides d a) = refl
    step (Pure-F.BagEq a b) = λ i. bag_sums-is a i ++ bag_sums-is b i
    step (Pure-F.Subset a b) = λ i. bag_sums-is a i ++ bag_sums-is b i
    step (Pure-F.Member a b) = λ i. a ∷ bag_sums-is b i
    step (Pure-F.AllOf u b p) = λ i. bag_sums-is b i ++ assertion_sums p
    step (Pure-F.Not p) = refl
    step (Pure-F.And ps) = sums-every ps
    step (Pure-F.Or ps) = sums-some ps
    step (Pure-F.Exists u p) = refl
    step (Pure-F.Forall u p) = refl
