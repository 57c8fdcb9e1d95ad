-- Where a formula is true its conjuncts are.
use Rattle.std.proofs.Common.{◌≡◌, List, [], ◌∷◌, map, refl, sym, ◌∙◌, ap, subst}
use Rattle.std.specs.List.{All, flat_map}
use Rattle.std.proofs.lemmas.List.Elements.{All-head, All-tail}
use Rattle.hs_pure.specs.declared.pure.Pure.{Pure, fold-Pure, map-Pure}
use Rattle.hs_pure.specs.declared.pure.Pure.TheOpen.{Pure-F}
use Rattle.hs_pure.specs.Stack.{Stack}
use Rattle.hs_pure.specs.Assertion.{Assertion, all_of, negation, exists, forall, every, some, bag_term_of, pure_level, assertion_of}
use Rattle.hs_pure.specs.Truth.{IsTrueAt, TrueAt}
use Rattle.hs_pure.proofs.Levels.{Both, related}
use Rattle.hs_pure.proofs.Truths.{true-every}
use Rattle.hs_pure.proofs.Views.{fold-Eq, fold-Lt, fold-Le, fold-Divides, fold-BagEq, fold-Subset, fold-Member, fold-AllOf, fold-Not, fold-And, fold-Or, fold-Exists, fold-Forall}
use Rattle.hs_heap.specs.Meaning.{AllTrueAt}
use Rattle.hs_rules.proofs.Plain.{AllTrue-append}
use Rattle.hs_program_rules.specs.Parts.{Flat, flat_level, conjuncts}

module _ (s : Stack) where
  -- the formula reads as q, and its conjuncts are true where q is
  abbrev Told : Flat → Assertion → Type 0
  Told f q = (assertion_of f.0 ≡ q) × (IsTrueAt s q → AllTrueAt s f.1)

  abbrev Each : Type 0
  Each = Both Told flat_level pure_level

  itself_told : (p : Pure) (q : Assertion) → assertion_of p ≡ q → Told (p, p ∷ []) q
  itself_told p q e = (e, λ h. (subst (IsTrueAt s) (sym e) h, tt))

  read_all : (es : List Each) → map assertion_of (map (λ p. p.0) (map (λ (e : Each). e.0) es)) ≡ map (λ (e : Each). e.1.0) es
  read_all [] = refl
  read_all (e ∷ es) = let first = e.1.1.0 in let rest = read_all es in λ i. first i ∷ rest i

  all_conjuncts : (es : List Each) → All (IsTrueAt s) (map (λ (e : Each). e.1.0) es) → AllTrueAt s (flat_map (λ p. p.1) (map (λ (e : Each). e.0) es))
  all_conjuncts [] h = tt
  all_conjuncts (e ∷ es) h =
      let qs = map (λ (e : Each). e.1.0) es in
      AllTrue-append s e.0.1 (flat_map (λ p. p.1) (map (λ (e : Each). e.0) es)) (e.1.1.1 (All-head (IsTrueAt s) e.1.0 qs h)) (all_conjuncts es (All-tail (IsTrueAt s) e.1.0 qs h))

  told : (p : Pure) → Told (fold-Pure Flat flat_level p) (assertion_of p)
  told = related Told flat_level pure_level step
    where
      step : (z : Pure-F Each) → Told (flat_level (map-Pure Each Flat (λ e. e.0) z)) (pure_level (map-Pure Each Assertion (λ e. e.1.0) z))
      step (Pure-F.Eq a b) = itself_told _ _ (fold-Eq pure_level a b)
      step (Pure-F.Lt a b) = itself_told _ _ (fold-Lt pure_level a b)
      step (Pure-F.Le a b) = itself_told _ _ (fold-Le pure_level a b)
      step (Pure-F.Divides d a) = itself_told _ _ (fold-Divides pure_level d a)
      step (Pure-F.BagEq a b) = itself_told _ _ (fold-BagEq pure_level a b)
      step (Pure-F.Subset a b) = itself_told _ _ (fold-Subset pure_level a b)
      step (Pure-F.Member a b) = itself_told _ _ (fold-Member pure_level a b)
      step (Pure-F.AllOf u b p) = itself_told _ _ (fold-AllOf pure_level u b p.0.0 ∙ ap (λ q. all_of u (bag_term_of b) q) p.1.1.0)
      step (Pure-F.Not p) = itself_told _ _ (fold-Not pure_level p.0.0 ∙ ap negation p.1.1.0)
      step (Pure-F.And ps) = (
        fold-And pure_level (map (λ p. p.0) (map (λ (e : Each). e.0) ps)) ∙ ap every (read_all ps),
        λ h. all_conjuncts ps ((true-every s (map (λ (e : Each). e.1.0) ps)).0 h),
      )
      step (Pure-F.Or ps) = itself_told _ _ (fold-Or pure_level (map (λ p. p.0) (map (λ (e : Each). e.0) ps)) ∙ ap some (read_all ps))
      step (Pure-F.Exists u p) = itself_told _ _ (fold-Exists pure_level u p.0.0 ∙ ap (λ q. exists u q) p.1.1.0)
      step (Pure-F.Forall u p) = itself_told _ _ (fold-Forall pure_level u p.0.0 ∙ ap (λ q. forall u q) p.1.1.0)

  pub conjuncts_true : (p : Pure) → TrueAt s p → AllTrueAt s (conjuncts p)
  conjuncts_true p h = (told p).1 h
