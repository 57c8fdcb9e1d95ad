-- What a check of a condition tells of its formula.
use Rattle.std.proofs.Common.{◌≡◌, List, [], ◌∷◌, map, sym, subst}
use Rattle.std.specs.List.{All, AllByRecursion, AllZip, flat_map}
use Rattle.std.proofs.lemmas.List.Elements.{All-append, All-cons, All-nil, All-same}
use Rattle.hs_tree.specs.declared.item.RelTree.{RelTree}
use Rattle.hs_tree.specs.declared.item.RelTree.TheVariants as rel
use Rattle.hs_tree.specs.declared.expr.ExprTree.{ExprTree}
use Rattle.hs_tree.specs.declared.method.CondTree.{CondTree, CondTree-F, fold-CondTree, map-CondTree, roll-CondTree, ind-CondTree, fold-roll-CondTree}
use Rattle.hs_tree.specs.declared.method.TestTree.{TestTree, TestTree-F, fold-TestTree, map-TestTree, roll-TestTree, fold-roll-TestTree}
use Rattle.hs_tree.specs.declared.method.TestKind.{TestKind, fold-TestKind, map-TestKind, roll-TestKind, fold-roll-TestKind}
use Rattle.hs_tree.specs.declared.method.TestKind.TheOpen.{TestKind-F}
use Rattle.hs_pure.specs.declared.lin.Lin.{Lin}
use Rattle.hs_pure.specs.declared.pure.Pure.{Pure}
use Rattle.hs_pure.specs.declared.pure.Pure.TheVariants as pure_of
use Rattle.hs_pure.specs.Rename.{sums, sums_level}
use Rattle.hs_pure.proofs.Views.{fold-Eq, fold-Lt, fold-Le, fold-Not, fold-And, fold-Or}
use Rattle.hs_lower_scope.specs.Scope.{Scope}
use Rattle.hs_lower_scope.specs.Terms.{term_of}
use Rattle.hs_lower_faults.specs.First.{Check, both, all}
use Rattle.hs_lower_faults.specs.Setting as setting
use Rattle.hs_lower.specs.Conditions.{conj, disj, compared, relation, test_by, test, condition}
use Rattle.hs_lower_set.proofs.Safe.{Slots}
use Rattle.hs_lower_set.proofs.Terms.{SumIsSet, ExprIsSet, term_set, PartIsSet, NameIsSet}
use Rattle.hs_lower_set.proofs.Telling.{Tells, weaker, both_tell, zip_tells, each_tells, optional_tells, set_tells}

-- ---- any check that goes through a condition

module _ (scope : Scope) (by : TestKind-F Check Check Check → Check)
    (not_is : (t : Check) → by (TestKind-F.Not t) ≡ t)
    (group_is : (c : Check) → by (TestKind-F.Group c) ≡ c)
    (Fact : Pure → Type 0)
    (not_fact : (p : Pure) → Fact p → Fact (pure_of.Not p))
    (conj_fact : (ps : List Pure) → AllByRecursion Fact ps → Fact (conj ps))
    (disj_fact : (ps : List Pure) → AllByRecursion Fact ps → Fact (disj ps))
    (rel_tells : (r : RelTree) (a b : ExprTree) → Tells (by (TestKind-F.Rel r a b)) (Fact (relation scope r a b))) where
  abbrev check_cases : CondTree-F Check Check Check → Check
  check_cases c = all (all (λ t. t)) c.cases

  abbrev check_test : TestTree-F Check Check Check → Check
  check_test t = t.kind

  abbrev formula_cases : CondTree-F Pure Pure Pure → Pure
  formula_cases c = disj (map conj c.cases)

  abbrev formula_test : TestTree-F Pure Pure Pure → Pure
  formula_test t = t.kind

  abbrev kind_check : TestKind → Check
  kind_check = fold-TestKind Check Check Check by check_cases check_test

  abbrev cond_check : CondTree → Check
  cond_check = fold-CondTree Check Check Check by check_cases check_test

  abbrev tree_check : TestTree → Check
  tree_check = fold-TestTree Check Check Check by check_cases check_test

  abbrev kind_formula : TestKind → Pure
  kind_formula = fold-TestKind Pure Pure Pure (test_by scope) formula_cases formula_test

  abbrev Fits : Check × Pure → Type 0
  Fits b = Tells b.0 (Fact b.1)

  abbrev PK : TestKind → Type 0
  PK k = Fits (kind_check k, kind_formula k)

  abbrev PC : CondTree → Type 0
  PC c = Fits (cond_check c, condition scope c)

  abbrev PT : TestTree → Type 0
  PT t = Fits (tree_check t, test scope t)

  abbrev K : Type 0
  K = (k : TestKind) × PK k

  abbrev C : Type 0
  C = (c : CondTree) × PC c

  abbrev T : Type 0
  T = (t : TestTree) × PT t

  abbrev bare_kind : TestKind-F K C T → TestKind-F TestKind CondTree TestTree
  bare_kind k = map-TestKind K C T TestKind CondTree TestTree (λ e. e.0) (λ e. e.0) (λ e. e.0) k

  abbrev kind_both : TestKind-F TestKind CondTree TestTree → Check × Pure
  kind_both z = (
    by (map-TestKind TestKind CondTree TestTree Check Check Check kind_check cond_check tree_check z),
    test_by scope (map-TestKind TestKind CondTree TestTree Pure Pure Pure kind_formula (condition scope) (test scope) z),
  )

  kind_tells : (k : TestKind-F K C T) → Fits (kind_both (bare_kind k))
  kind_tells (TestKind-F.Not t) = subst (λ c. Tells c (Fact (pure_of.Not (test scope t.0)))) (sym (not_is (tree_check t.0))) (weaker (tree_check t.0) (Fact (test scope t.0)) (Fact (pure_of.Not (test scope t.0))) (not_fact (test scope t.0)) t.1)
  kind_tells (TestKind-F.Group c) = subst (λ d. Tells d (Fact (condition scope c.0))) (sym (group_is (cond_check c.0))) c.1
  kind_tells (TestKind-F.Rel r a b) = rel_tells r a b

  tests_zip : (ts : List T) → AllZip (λ c p. Tells c (Fact p)) (map tree_check (map (λ e. e.0) ts)) (map (test scope) (map (λ e. e.0) ts))
  tests_zip [] = tt
  tests_zip (t ∷ ts) = (t.1, tests_zip ts)

  case_tells : (ts : List T) → Tells (all (λ t. t) (map tree_check (map (λ e. e.0) ts))) (Fact (conj (map (test scope) (map (λ e. e.0) ts))))
  case_tells ts =
      let cs = map tree_check (map (λ (e : T). e.0) ts) in
      let ps = map (test scope) (map (λ (e : T). e.0) ts) in
      weaker (all (λ t. t) cs) (AllByRecursion Fact ps) (Fact (conj ps)) (conj_fact ps) (zip_tells (λ t. t) Fact cs ps (tests_zip ts))

  cases_zip : (cs : List (List T)) → AllZip (λ c p. Tells (all (λ t. t) c) (Fact p)) (map (map tree_check) (map (map (λ e. e.0)) cs)) (map conj (map (map (test scope)) (map (map (λ e. e.0)) cs)))
  cases_zip [] = tt
  cases_zip (c ∷ cs) = (case_tells c, cases_zip cs)

  cases_tell : (cs : List (List T)) → Tells (all (all (λ t. t)) (map (map tree_check) (map (map (λ e. e.0)) cs))) (Fact (disj (map conj (map (map (test scope)) (map (map (λ e. e.0)) cs)))))
  cases_tell cs =
      let us = map (map tree_check) (map (map (λ (e : T). e.0)) cs) in
      let ps = map conj (map (map (test scope)) (map (map (λ (e : T). e.0)) cs)) in
      weaker (all (all (λ t. t)) us) (AllByRecursion Fact ps) (Fact (disj ps)) (disj_fact ps) (zip_tells (all (λ t. t)) Fact us ps (cases_zip cs))

  all_kinds : (x : TestKind-F TestKind CondTree TestTree) (y : TestKind-F K C T) → bare_kind y ≡ x → PK (roll-TestKind x)
  all_kinds x y is = subst Fits (λ i. (sym (fold-roll-TestKind Check Check Check by check_cases check_test x) i, sym (fold-roll-TestKind Pure Pure Pure (test_by scope) formula_cases formula_test x) i))
      (subst (λ z. Fits (kind_both z)) is (kind_tells y))

  all_conditions : (x : CondTree-F TestKind CondTree TestTree) (y : CondTree-F K C T) → map-CondTree K C T TestKind CondTree TestTree (λ e. e.0) (λ e. e.0) (λ e. e.0) y ≡ x → PC (roll-CondTree x)
  all_conditions x y is = subst Fits (λ i. (sym (fold-roll-CondTree Check Check Check by check_cases check_test x) i, sym (fold-roll-CondTree Pure Pure Pure (test_by scope) formula_cases formula_test x) i))
      (subst (λ z. Fits (
        check_cases (map-CondTree TestKind CondTree TestTree Check Check Check kind_check cond_check tree_check z),
        formula_cases (map-CondTree TestKind CondTree TestTree Pure Pure Pure kind_formula (condition scope) (test scope) z),
      )) is (cases_tell y.cases))

  all_tests : (x : TestTree-F TestKind CondTree TestTree) (y : TestTree-F K C T) → map-TestTree K C T TestKind CondTree TestTree (λ e. e.0) (λ e. e.0) (λ e. e.0) y ≡ x → PT (roll-TestTree x)
  all_tests x y is = subst Fits (λ i. (sym (fold-roll-TestTree Check Check Check by check_cases check_test x) i, sym (fold-roll-TestTree Pure Pure Pure (test_by scope) formula_cases formula_test x) i))
      (subst (λ z. Fits (
        check_test (map-TestTree TestKind CondTree TestTree Check Check Check kind_check cond_check tree_check z),
        formula_test (map-TestTree TestKind CondTree TestTree Pure Pure Pure kind_formula (condition scope) (test scope) z),
      )) is y.kind.1)

  pub tells_of_condition : (c : CondTree) → Tells (cond_check c) (Fact (condition scope c))
  tells_of_condition = ind-CondTree PK PC PT all_kinds all_conditions all_tests

-- ---- the slots of a condition

module _ (s : Slots) where
  -- the slots of a formula's sums are set
  abbrev pub PureIsSet : Pure → Type 0
  PureIsSet p = All (SumIsSet s) (sums p)

  two_set : (a b : Lin) → SumIsSet s a → SumIsSet s b → All (SumIsSet s) (a ∷ b ∷ [])
  two_set a b h g = All-cons (SumIsSet s) a (b ∷ []) h (All-cons (SumIsSet s) b [] g (All-nil (SumIsSet s)))

  not_set : (p : Pure) → PureIsSet p → PureIsSet (pure_of.Not p)
  not_set p h = All-same (SumIsSet s) (sums (pure_of.Not p)) (sums p) (fold-Not sums_level p) h

  all_sums : (ps : List Pure) → AllByRecursion PureIsSet ps → All (SumIsSet s) (flat_map (λ ls. ls) (map sums ps))
  all_sums [] h = All-nil (SumIsSet s)
  all_sums (p ∷ ps) h = All-append (SumIsSet s) (sums p) (flat_map (λ ls. ls) (map sums ps)) h.0 (all_sums ps h.1)

  and_set : (ps : List Pure) → AllByRecursion PureIsSet ps → PureIsSet (pure_of.And ps)
  and_set ps h = All-same (SumIsSet s) (sums (pure_of.And ps)) (flat_map (λ ls. ls) (map sums ps)) (fold-And sums_level ps) (all_sums ps h)

  or_set : (ps : List Pure) → AllByRecursion PureIsSet ps → PureIsSet (pure_of.Or ps)
  or_set ps h = All-same (SumIsSet s) (sums (pure_of.Or ps)) (flat_map (λ ls. ls) (map sums ps)) (fold-Or sums_level ps) (all_sums ps h)

  conj_set : (ps : List Pure) → AllByRecursion PureIsSet ps → PureIsSet (conj ps)
  conj_set [] h = and_set [] h
  conj_set (p ∷ []) h = h.0
  conj_set (p ∷ q ∷ ps) h = and_set (p ∷ q ∷ ps) h

  disj_set : (ps : List Pure) → AllByRecursion PureIsSet ps → PureIsSet (disj ps)
  disj_set [] h = or_set [] h
  disj_set (p ∷ []) h = h.0
  disj_set (p ∷ q ∷ ps) h = or_set (p ∷ q ∷ ps) h

  equal_set : (a b : Lin) → SumIsSet s a → SumIsSet s b → PureIsSet (pure_of.Eq a b)
  equal_set a b h g = All-same (SumIsSet s) (sums (pure_of.Eq a b)) (a ∷ b ∷ []) (fold-Eq sums_level a b) (two_set a b h g)

  less_set : (a b : Lin) → SumIsSet s a → SumIsSet s b → PureIsSet (pure_of.Lt a b)
  less_set a b h g = All-same (SumIsSet s) (sums (pure_of.Lt a b)) (a ∷ b ∷ []) (fold-Lt sums_level a b) (two_set a b h g)

  most_set : (a b : Lin) → SumIsSet s a → SumIsSet s b → PureIsSet (pure_of.Le a b)
  most_set a b h g = All-same (SumIsSet s) (sums (pure_of.Le a b)) (a ∷ b ∷ []) (fold-Le sums_level a b) (two_set a b h g)

  compared_set : (r : RelTree) (a b : Lin) → SumIsSet s a → SumIsSet s b → PureIsSet (compared r a b)
  compared_set rel.Eq a b h g = equal_set a b h g
  compared_set rel.Ne a b h g = not_set (pure_of.Eq a b) (equal_set a b h g)
  compared_set rel.Lt a b h g = less_set a b h g
  compared_set rel.Le a b h g = most_set a b h g
  compared_set rel.Gt a b h g = less_set b a g h
  compared_set rel.Ge a b h g = most_set b a g h
  compared_set rel.Subset a b h g = equal_set a b h g
  compared_set rel.Within a b h g = equal_set a b h g

-- ---- what is read

module _ (scope : Scope) (s : Slots) where
  pub expression_tells : (e : ExprTree) → Tells (setting.expression scope s e) (ExprIsSet s scope e)
  expression_tells e = each_tells (setting.part scope s) (PartIsSet s scope) (λ p. optional_tells (setting.variable scope s) (NameIsSet s scope) (λ x. set_tells _ x.at) _) _

  relation_tells : (r : RelTree) (a b : ExprTree) → Tells (both (setting.expression scope s a) (setting.expression scope s b)) (PureIsSet s (relation scope r a b))
  relation_tells r a b =
      let A = ExprIsSet s scope a in
      let B = ExprIsSet s scope b in
      weaker (both (setting.expression scope s a) (setting.expression scope s b)) (A × B) (PureIsSet s (relation scope r a b))
      (λ h. compared_set s r (term_of scope a) (term_of scope b) (term_set s scope a h.0) (term_set s scope b h.1))
      (both_tell (setting.expression scope s a) (setting.expression scope s b) A B (expression_tells a) (expression_tells b))

  -- the slots of a condition that is read without fault are set
  pub condition_tells : (c : CondTree) → Tells (setting.condition scope s c) (PureIsSet s (condition scope c))
  condition_tells = tells_of_condition scope (setting.test_by scope s) (λ t i. t) (λ c i. c) (PureIsSet s) (not_set s) (conj_set s) (disj_set s) relation_tells
