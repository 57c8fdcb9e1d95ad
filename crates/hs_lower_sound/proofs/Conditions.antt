-- The formula of a condition over variables that are there fits.
use Rattle.std.proofs.Common.{◌≡◌, ℕ, suc, ◌≤◌, Bool, not, ◌==◌, IsTrue, List, [], ◌∷◌, length, map, refl, sym, ap, ◌∙◌, subst, arith}
use Rattle.std.specs.List.{AllByRecursion, flat_map, list_all}
use Rattle.std.proofs.lemmas.Bool.{and_from}
use Rattle.hs_tree.specs.declared.item.RelTree.{RelTree}
use Rattle.hs_tree.specs.declared.item.RelTree.TheVariants as rel
use Rattle.hs_tree.specs.declared.method.CondTree.{CondTree, CondTree-F, map-CondTree, roll-CondTree, ind-CondTree, fold-roll-CondTree}
use Rattle.hs_tree.specs.declared.method.TestTree.{TestTree, TestTree-F, map-TestTree, roll-TestTree, fold-roll-TestTree}
use Rattle.hs_tree.specs.declared.method.TestKind.{TestKind, fold-TestKind, map-TestKind, roll-TestKind, fold-roll-TestKind}
use Rattle.hs_tree.specs.declared.method.TestKind.TheOpen.{TestKind-F}
use Rattle.hs_pure.specs.declared.lin.Lin.{Lin}
use Rattle.hs_pure.specs.declared.var.Var.{Var}
use Rattle.hs_pure.specs.declared.pure.Pure.{Pure}
use Rattle.hs_pure.specs.declared.pure.Pure.TheOpen.{Pure-F}
use Rattle.hs_pure.specs.declared.pure.Pure.TheVariants as pure_of
use Rattle.hs_pure.proofs.Views.{fold-Eq, fold-Lt, fold-Le, fold-Not, fold-And, fold-Or}
use Rattle.hs_heap.specs.Tests.{sum_fits, pure_fits, pure_fits_level, both_fit}
use Rattle.hs_heap.proofs.Tells.{tells_different}
use Rattle.hs_core.specs.Sound.{ConditionFits}
use Rattle.hs_core.specs.Tests.{is_slot, is_simple, is_simple_level}
use Rattle.hs_core.proofs.SimpleTells.{condition_told}
use Rattle.hs_norm_sound.specs.Uses.{Use, number_uses, test_kind_uses, condition_uses, test_uses}
use Rattle.hs_lower_scope.specs.Scope.{Scope}
use Rattle.hs_lower_scope.specs.Terms.{term_of}
use Rattle.hs_lower.specs.Conditions.{conj, disj, compared, test_by, condition, test}
use Rattle.hs_lower_sound.specs.Lowerable.{IsThere}
use Rattle.hs_lower_sound.proofs.Passed.{split_all}
use Rattle.hs_lower_sound.proofs.Sums.{sum_passes}

module _ (n : ℕ) where
  -- ---- formulas over n slots

  abbrev SumFits : Lin → Type 0
  SumFits a = IsTrue (sum_fits a (is_slot n))

  abbrev fits : Pure → Bool
  fits p = pure_fits (is_slot n) 0 p (is_slot n)

  abbrev Fit : Pure → Type 0
  Fit p = IsTrue (is_simple p) × IsTrue (fits p)

  abbrev at_slots : ((Var → Bool) → Bool) → Bool
  at_slots f = f (is_slot n)

  abbrev level : Pure-F ((Var → Bool) → Bool) → (Var → Bool) → Bool
  level = pure_fits_level (is_slot n) 0

  eq_fits : (a b : Lin) → SumFits a → SumFits b → Fit (pure_of.Eq a b)
  eq_fits a b h k = (fold-Eq is_simple_level a b, ap at_slots (fold-Eq level a b) ∙ and_from (sum_fits a (is_slot n)) (sum_fits b (is_slot n)) h k)

  lt_fits : (a b : Lin) → SumFits a → SumFits b → Fit (pure_of.Lt a b)
  lt_fits a b h k = (fold-Lt is_simple_level a b, ap at_slots (fold-Lt level a b) ∙ and_from (sum_fits a (is_slot n)) (sum_fits b (is_slot n)) h k)

  le_fits : (a b : Lin) → SumFits a → SumFits b → Fit (pure_of.Le a b)
  le_fits a b h k = (fold-Le is_simple_level a b, ap at_slots (fold-Le level a b) ∙ and_from (sum_fits a (is_slot n)) (sum_fits b (is_slot n)) h k)

  not_fits : (p : Pure) → Fit p → Fit (pure_of.Not p)
  not_fits p h = (fold-Not is_simple_level p ∙ h.0, ap at_slots (fold-Not level p) ∙ h.1)

  compared_fits : (r : RelTree) (a b : Lin) → SumFits a → SumFits b → Fit (compared r a b)
  compared_fits rel.Eq a b h k = eq_fits a b h k
  compared_fits rel.Ne a b h k = not_fits (pure_of.Eq a b) (eq_fits a b h k)
  compared_fits rel.Lt a b h k = lt_fits a b h k
  compared_fits rel.Le a b h k = le_fits a b h k
  compared_fits rel.Gt a b h k = lt_fits b a k h
  compared_fits rel.Ge a b h k = le_fits b a k h
  compared_fits rel.Subset a b h k = eq_fits a b h k
  compared_fits rel.Within a b h k = eq_fits a b h k

  all_simple : (ps : List Pure) → AllByRecursion Fit ps → IsTrue (list_all (λ b. b) (map is_simple ps))
  all_simple [] h = refl
  all_simple (p ∷ ps) h = and_from (is_simple p) (list_all (λ b. b) (map is_simple ps)) h.0.0 (all_simple ps h.1)

  all_in : (ps : List Pure) → AllByRecursion Fit ps → IsTrue (list_all at_slots (map (pure_fits (is_slot n) 0) ps))
  all_in [] h = refl
  all_in (p ∷ ps) h = and_from (fits p) (list_all at_slots (map (pure_fits (is_slot n) 0) ps)) h.0.1 (all_in ps h.1)

  -- not exactly one
  abbrev Several : List Pure → Type 0
  Several ps = ¬ (length (map (pure_fits (is_slot n) 0) ps) ≡ 1)

  both_in : (ps : List Pure) → Several ps → AllByRecursion Fit ps → IsTrue (both_fit (map (pure_fits (is_slot n) 0) ps) (is_slot n))
  both_in ps several h =
      let many = map (pure_fits (is_slot n) 0) ps in
      and_from (not (length many == 1)) (list_all at_slots many) ((tells_different (length many) 1).1 several) (all_in ps h)

  and_fits : (ps : List Pure) → Several ps → AllByRecursion Fit ps → Fit (pure_of.And ps)
  and_fits ps several h = (fold-And is_simple_level ps ∙ all_simple ps h, ap at_slots (fold-And level ps) ∙ both_in ps several h)

  or_fits : (ps : List Pure) → Several ps → AllByRecursion Fit ps → Fit (pure_of.Or ps)
  or_fits ps several h = (fold-Or is_simple_level ps ∙ all_simple ps h, ap at_slots (fold-Or level ps) ∙ both_in ps several h)

  none_several : Several []
  none_several = λ e. absurd (omega arith)

  two_several : (p q : Pure) (ps : List Pure) → Several (p ∷ q ∷ ps)
  two_several p q ps = λ e. absurd (two (length (map (pure_fits (is_slot n) 0) ps)) e)
    where
      two : (k : ℕ) → suc (suc k) ≡ 1 → ⊥
      two k e = omega arith

  conj_fits : (ps : List Pure) → AllByRecursion Fit ps → Fit (conj ps)
  conj_fits [] h = and_fits [] none_several h
  conj_fits (p ∷ []) h = h.0
  conj_fits (p ∷ q ∷ ps) h = and_fits (p ∷ q ∷ ps) (two_several p q ps) h

  disj_fits : (ps : List Pure) → AllByRecursion Fit ps → Fit (disj ps)
  disj_fits [] h = or_fits [] none_several h
  disj_fits (p ∷ []) h = h.0
  disj_fits (p ∷ q ∷ ps) h = or_fits (p ∷ q ∷ ps) (two_several p q ps) h

  module _ (scope : Scope) (enough : length scope.variables ≤ n) where
    abbrev F : Use → Type 0
    F = IsThere scope

    -- ---- conditions

    -- where what is used is there, the formula fits
    abbrev Good : List Use × Pure → Type 0
    Good b = AllByRecursion F b.0 → Fit b.1

    abbrev cond_level : CondTree-F Pure Pure Pure → Pure
    cond_level c = disj (map conj c.cases)

    abbrev cond_uses_level : CondTree-F (List Use) (List Use) (List Use) → List Use
    cond_uses_level c = flat_map (flat_map (λ t. t)) c.cases

    abbrev test_level : {A : Type 0} → TestTree-F A A A → A
    test_level t = t.kind

    abbrev kind_made : TestKind → Pure
    kind_made = fold-TestKind Pure Pure Pure (test_by scope) cond_level test_level

    abbrev kind_uses : TestKind → List Use
    kind_uses = fold-TestKind (List Use) (List Use) (List Use) test_kind_uses cond_uses_level test_level

    abbrev K : Type 0
    K = (k : TestKind) × Good (kind_uses k, kind_made k)

    abbrev C : Type 0
    C = (c : CondTree) × Good (condition_uses c, condition scope c)

    abbrev T : Type 0
    T = (t : TestTree) × Good (test_uses t, test scope t)

    abbrev kind_all : TestKind-F TestKind CondTree TestTree → List Use × Pure
    kind_all z = (
      test_kind_uses (map-TestKind TestKind CondTree TestTree (List Use) (List Use) (List Use) kind_uses condition_uses test_uses z),
      test_by scope (map-TestKind TestKind CondTree TestTree Pure Pure Pure kind_made (condition scope) (test scope) z),
    )

    kind_good : (k : TestKind-F K C T) → Good (kind_all (map-TestKind K C T TestKind CondTree TestTree (λ e. e.0) (λ e. e.0) (λ e. e.0) k))
    kind_good (TestKind-F.Not t) h = not_fits (test scope t.0) (t.1 h)
    kind_good (TestKind-F.Group c) h = c.1 h
    kind_good (TestKind-F.Rel r a b) h =
        let parts = split_all F (number_uses a) (number_uses b) h in
        compared_fits r (term_of scope a) (term_of scope b) (sum_passes scope n enough a parts.0) (sum_passes scope n enough b parts.1)

    tests_good : (ts : List T) → AllByRecursion F (flat_map (λ t. t) (map test_uses (map (λ e. e.0) ts))) → AllByRecursion Fit (map (test scope) (map (λ e. e.0) ts))
    tests_good [] h = tt
    tests_good (t ∷ ts) h =
        let parts = split_all F (test_uses t.0) (flat_map (λ t. t) (map test_uses (map (λ e. e.0) ts))) h in
        (t.1 parts.0, tests_good ts parts.1)

    cases_good : (cs : List (List T)) → AllByRecursion F (flat_map (flat_map (λ t. t)) (map (map test_uses) (map (map (λ e. e.0)) cs))) →
        AllByRecursion Fit (map conj (map (map (test scope)) (map (map (λ e. e.0)) cs)))
    cases_good [] h = tt
    cases_good (c ∷ cs) h =
        let parts = split_all F (flat_map (λ t. t) (map test_uses (map (λ e. e.0) c))) (flat_map (flat_map (λ t. t)) (map (map test_uses) (map (map (λ e. e.0)) cs))) h in
        (conj_fits (map (test scope) (map (λ e. e.0) c)) (tests_good c parts.0), cases_good cs parts.1)

    all_kinds : (x : TestKind-F TestKind CondTree TestTree) (y : TestKind-F K C T) → map-TestKind K C T TestKind CondTree TestTree (λ e. e.0) (λ e. e.0) (λ e. e.0) y ≡ x → Good (kind_uses (roll-TestKind x), kind_made (roll-TestKind x))
    all_kinds x y is = subst Good (λ i. (
      sym (fold-roll-TestKind (List Use) (List Use) (List Use) test_kind_uses cond_uses_level test_level x) i,
      sym (fold-roll-TestKind Pure Pure Pure (test_by scope) cond_level test_level x) i,
    ))
        (subst (λ z. Good (kind_all z)) is (kind_good y))

    all_conditions : (x : CondTree-F TestKind CondTree TestTree) (y : CondTree-F K C T) → map-CondTree K C T TestKind CondTree TestTree (λ e. e.0) (λ e. e.0) (λ e. e.0) y ≡ x → Good (condition_uses (roll-CondTree x), condition scope (roll-CondTree x))
    all_conditions x y is = subst Good (λ i. (
      sym (fold-roll-CondTree (List Use) (List Use) (List Use) test_kind_uses cond_uses_level test_level x) i,
      sym (fold-roll-CondTree Pure Pure Pure (test_by scope) cond_level test_level x) i,
    ))
        (subst (λ z. Good (
          cond_uses_level (map-CondTree TestKind CondTree TestTree (List Use) (List Use) (List Use) kind_uses condition_uses test_uses z),
          cond_level (map-CondTree TestKind CondTree TestTree Pure Pure Pure kind_made (condition scope) (test scope) z),
        )) is (λ h. disj_fits (map conj (map (map (test scope)) (map (map (λ e. e.0)) y.cases))) (cases_good y.cases h)))

    all_tests : (x : TestTree-F TestKind CondTree TestTree) (y : TestTree-F K C T) → map-TestTree K C T TestKind CondTree TestTree (λ e. e.0) (λ e. e.0) (λ e. e.0) y ≡ x → Good (test_uses (roll-TestTree x), test scope (roll-TestTree x))
    all_tests x y is = subst Good (λ i. (
      sym (fold-roll-TestTree (List Use) (List Use) (List Use) test_kind_uses cond_uses_level test_level x) i,
      sym (fold-roll-TestTree Pure Pure Pure (test_by scope) cond_level test_level x) i,
    ))
        (subst (λ z. Good (
          test_level (map-TestTree TestKind CondTree TestTree (List Use) (List Use) (List Use) kind_uses condition_uses test_uses z),
          test_level (map-TestTree TestKind CondTree TestTree Pure Pure Pure kind_made (condition scope) (test scope) z),
        )) is y.kind.1)

    condition_good : (c : CondTree) → Good (condition_uses c, condition scope c)
    condition_good = ind-CondTree (λ k. Good (kind_uses k, kind_made k)) (λ c. Good (condition_uses c, condition scope c)) (λ t. Good (test_uses t, test scope t)) all_kinds all_conditions all_tests

    pub condition_fits : (c : CondTree) → AllByRecursion F (condition_uses c) → ConditionFits n (condition scope c)
    condition_fits c h = let g = condition_good c h in (condition_told n (condition scope c)).0 (and_from (is_simple (condition scope c)) (fits (condition scope c)) g.0 g.1)
