-- A check of a condition that looks at each test.
use Rattle.std.proofs.Common.{◌≡◌, List, [], ◌∷◌, map, sym, subst}
use Rattle.hs_tree.specs.declared.item.RelTree.{RelTree}
use Rattle.hs_tree.specs.declared.expr.ExprTree.{ExprTree}
use Rattle.hs_tree.specs.declared.method.CondTree.{CondTree, CondTree-F, map-CondTree, roll-CondTree, ind-CondTree, fold-CondTree, fold-roll-CondTree}
use Rattle.hs_tree.specs.declared.method.TestTree.{TestTree, TestTree-F, map-TestTree, roll-TestTree, fold-TestTree, fold-roll-TestTree}
use Rattle.hs_tree.specs.declared.method.TestKind.{TestKind, fold-TestKind, map-TestKind, roll-TestKind, fold-roll-TestKind}
use Rattle.hs_tree.specs.declared.method.TestKind.TheOpen.{TestKind-F}
use Rattle.hs_lower_faults.specs.First.{Check, all}
use Rattle.hs_lower_sound.proofs.Passed.{Stays}

module _ (kind_level : TestKind-F Check Check Check → Check)
    (not_stays : (t : Check) → Stays t → Stays (kind_level (TestKind-F.Not t)))
    (group_stays : (c : Check) → Stays c → Stays (kind_level (TestKind-F.Group c)))
    (relation_stays : (r : RelTree) (a b : ExprTree) → Stays (kind_level (TestKind-F.Rel r a b))) where
  abbrev cond_level : CondTree-F Check Check Check → Check
  cond_level c = all (all (λ t. t)) c.cases

  abbrev test_level : TestTree-F Check Check Check → Check
  test_level t = t.kind

  abbrev kind_check : TestKind → Check
  kind_check = fold-TestKind Check Check Check kind_level cond_level test_level

  abbrev pub cond_check : CondTree → Check
  cond_check = fold-CondTree Check Check Check kind_level cond_level test_level

  abbrev test_check : TestTree → Check
  test_check = fold-TestTree Check Check Check kind_level cond_level test_level

  abbrev K : Type 0
  K = (k : TestKind) × Stays (kind_check k)

  abbrev C : Type 0
  C = (c : CondTree) × Stays (cond_check c)

  abbrev T : Type 0
  T = (t : TestTree) × Stays (test_check t)

  kinds_stay : (k : TestKind-F K C T) → Stays (kind_level (map-TestKind TestKind CondTree TestTree Check Check Check kind_check cond_check test_check (map-TestKind K C T TestKind CondTree TestTree (λ e. e.0) (λ e. e.0) (λ e. e.0) k)))
  kinds_stay (TestKind-F.Not t) = not_stays (test_check t.0) t.1
  kinds_stay (TestKind-F.Group c) = group_stays (cond_check c.0) c.1
  kinds_stay (TestKind-F.Rel r a b) = relation_stays r a b

  tests_stay : (ts : List T) → Stays (all (λ t. t) (map test_check (map (λ e. e.0) ts)))
  tests_stay [] found e = (e, tt)
  tests_stay (t ∷ ts) found e = t.1 found (tests_stay ts (test_check t.0 found) e).0

  cases_stay : (cs : List (List T)) → Stays (all (all (λ t. t)) (map (map test_check) (map (map (λ e. e.0)) cs)))
  cases_stay [] found e = (e, tt)
  cases_stay (c ∷ cs) found e = tests_stay c found (cases_stay cs (all (λ t. t) (map test_check (map (λ e. e.0) c)) found) e).0

  all_kinds : (x : TestKind-F TestKind CondTree TestTree) (y : TestKind-F K C T) → map-TestKind K C T TestKind CondTree TestTree (λ e. e.0) (λ e. e.0) (λ e. e.0) y ≡ x → Stays (kind_check (roll-TestKind x))
  all_kinds x y is = subst Stays (sym (fold-roll-TestKind Check Check Check kind_level cond_level test_level x))
      (subst (λ z. Stays (kind_level (map-TestKind TestKind CondTree TestTree Check Check Check kind_check cond_check test_check z))) is (kinds_stay y))

  all_conds : (x : CondTree-F TestKind CondTree TestTree) (y : CondTree-F K C T) → map-CondTree K C T TestKind CondTree TestTree (λ e. e.0) (λ e. e.0) (λ e. e.0) y ≡ x → Stays (cond_check (roll-CondTree x))
  all_conds x y is = subst Stays (sym (fold-roll-CondTree Check Check Check kind_level cond_level test_level x))
      (subst (λ z. Stays (cond_level (map-CondTree TestKind CondTree TestTree Check Check Check kind_check cond_check test_check z))) is (cases_stay y.cases))

  all_tests : (x : TestTree-F TestKind CondTree TestTree) (y : TestTree-F K C T) → map-TestTree K C T TestKind CondTree TestTree (λ e. e.0) (λ e. e.0) (λ e. e.0) y ≡ x → Stays (test_check (roll-TestTree x))
  all_tests x y is = subst Stays (sym (fold-roll-TestTree Check Check Check kind_level cond_level test_level x))
      (subst (λ z. Stays (test_level (map-TestTree TestKind CondTree TestTree Check Check Check kind_check cond_check test_check z))) is y.kind.1)

  -- a condition whose relations keep faults keeps them
  pub cond_stays : (c : CondTree) → Stays (cond_check c)
  cond_stays = ind-CondTree (λ k. Stays (kind_check k)) (λ c. Stays (cond_check c)) (λ t. Stays (test_check t)) all_kinds all_conds all_tests
