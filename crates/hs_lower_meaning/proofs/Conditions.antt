-- The formula of a condition is true where the condition holds.
use Rattle.std.proofs.Common.{◌≡◌, ℤ, int_lt, ◌<ℤ◌, ◌≤ℤ◌, Bool, true, false, not, ◌||◌, ◌↔◌, ◌⊎◌, inl, inr, List, [], ◌∷◌, map, refl, sym, ap, ◌∙◌, subst, arith, true≢false}
use Rattle.std.proofs.lemmas.Int.{ints}
use Rattle.std.proofs.lemmas.Bool.{and_parts, and_from}
use Rattle.std.proofs.lemmas.Bool.Decides.{Decides-int_eq}
use Rattle.std.proofs.lemmas.List.Elements.{All-head, All-nil, All-cons}
use Rattle.std.specs.List.{All, AllByRecursion, Any, flat_map, list_any, list_all}
use Rattle.std.specs.Ordering.{int_eq}
use Rattle.hs_tree.specs.declared.ident.Ident.{Ident}
use Rattle.hs_tree.specs.declared.item.RelTree.{RelTree}
use Rattle.hs_tree.specs.declared.item.RelTree.TheVariants as rel
use Rattle.hs_tree.specs.declared.method.CondTree.{CondTree, CondTree-F, map-CondTree, roll-CondTree, ind-CondTree, fold-roll-CondTree}
use Rattle.hs_tree.specs.declared.method.TestTree.{TestTree, TestTree-F, map-TestTree, roll-TestTree, fold-roll-TestTree}
use Rattle.hs_tree.specs.declared.method.TestKind.{TestKind, fold-TestKind, map-TestKind, roll-TestKind, fold-roll-TestKind}
use Rattle.hs_tree.specs.declared.method.TestKind.TheOpen.{TestKind-F}
use Rattle.hs_pure.specs.declared.lin.Lin.{Lin}
use Rattle.hs_pure.specs.declared.pure.Pure.{Pure}
use Rattle.hs_pure.specs.declared.pure.Pure.TheVariants as pure_of
use Rattle.hs_pure.specs.Stack.{Stack}
use Rattle.hs_pure.specs.Truth.{value, TrueAt}
use Rattle.hs_pure.proofs.Lists.{All-later}
use Rattle.hs_pure.proofs.Truths.{Any-first, Any-later, Any-cases, Any-nil, true-Eq, true-Lt, true-Le, true-Not, true-And, true-Or}
use Rattle.hs_core.specs.Machine.{Slots, stack_at}
use Rattle.hs_norm_sound.specs.Uses.{Use, number_uses, test_kind_uses, condition_uses, test_uses}
use Rattle.hs_lower_scope.specs.Scope.{Scope, slot_of}
use Rattle.hs_lower_scope.specs.Terms.{term_of}
use Rattle.hs_lower.specs.Conditions as code
use Rattle.hs_lower.specs.Conditions.{conj, disj, compared}
use Rattle.hs_lower_sound.specs.Lowerable.{IsThere}
use Rattle.hs_lower_sound.proofs.Passed.{split_all}
use Rattle.hs_lower_meaning.specs.Values.{Values, compares, expression_value, test_by, test_holds, holds}
use Rattle.hs_lower_meaning.proofs.Sums.{value_is}

lt-test : (a b : ℤ) → (a <ℤ b) ↔ (int_lt a b ≡ true)
lt-test a b = (λ p. grind (arith, ints), λ p. grind (arith, ints))

le-test : (a b : ℤ) → (a ≤ℤ b) ↔ (not (int_lt b a) ≡ true)
le-test a b = (λ p. grind (arith, ints), λ p. grind (arith, ints))

not-true : (b : Bool) → (not b ≡ true) ↔ (b ≡ true → ⊥)
not-true true = (λ h. absurd (true≢false (sym h)), λ h. absurd (h refl))
not-true false = (λ h e. absurd (true≢false (sym e)), λ h. refl)

or_cases : (a b : Bool) → (a || b) ≡ true → (a ≡ true) ⊎ (b ≡ true)
or_cases true b h = inl refl
or_cases false b h = inr h

or_left : (a b : Bool) → a ≡ true → (a || b) ≡ true
or_left true b h = refl
or_left false b h = absurd (true≢false (sym h))

or_right : (a b : Bool) → b ≡ true → (a || b) ≡ true
or_right true b h = refl
or_right false b h = h

module _ (s : Stack) where
  -- the formula is true where the test holds
  abbrev Tells : Bool → Pure → Type 0
  Tells b p = TrueAt s p ↔ (b ≡ true)

  tells_eq : (a b : Lin) (x y : ℤ) → value s a ≡ x → value s b ≡ y → Tells (int_eq x y) (pure_of.Eq a b)
  tells_eq a b x y e f = (λ h. (Decides-int_eq x y).1 (sym e ∙ (true-Eq s a b).0 h ∙ f), λ h. (true-Eq s a b).1 (e ∙ (Decides-int_eq x y).0 h ∙ sym f))

  tells_lt : (a b : Lin) (x y : ℤ) → value s a ≡ x → value s b ≡ y → Tells (int_lt x y) (pure_of.Lt a b)
  tells_lt a b x y e f = (
    λ h. (lt-test x y).0 (subst (λ z. z <ℤ y) e (subst (λ z. value s a <ℤ z) f ((true-Lt s a b).0 h))),
    λ h. (true-Lt s a b).1 (subst (λ z. z <ℤ value s b) (sym e) (subst (λ z. x <ℤ z) (sym f) ((lt-test x y).1 h))),
  )

  tells_le : (a b : Lin) (x y : ℤ) → value s a ≡ x → value s b ≡ y → Tells (not (int_lt y x)) (pure_of.Le a b)
  tells_le a b x y e f = (
    λ h. (le-test x y).0 (subst (λ z. z ≤ℤ y) e (subst (λ z. value s a ≤ℤ z) f ((true-Le s a b).0 h))),
    λ h. (true-Le s a b).1 (subst (λ z. z ≤ℤ value s b) (sym e) (subst (λ z. x ≤ℤ z) (sym f) ((le-test x y).1 h))),
  )

  tells_not : (b : Bool) (p : Pure) → Tells b p → Tells (not b) (pure_of.Not p)
  tells_not b p h = (λ t. (not-true b).1 (λ e. (true-Not s p).0 t (h.1 e)), λ e. (true-Not s p).1 (λ t. (not-true b).0 e (h.0 t)))

  tells_compared : (r : RelTree) (a b : Lin) (x y : ℤ) → value s a ≡ x → value s b ≡ y → Tells (compares r x y) (compared r a b)
  tells_compared rel.Eq a b x y e f = tells_eq a b x y e f
  tells_compared rel.Ne a b x y e f = tells_not (int_eq x y) (pure_of.Eq a b) (tells_eq a b x y e f)
  tells_compared rel.Lt a b x y e f = tells_lt a b x y e f
  tells_compared rel.Le a b x y e f = tells_le a b x y e f
  tells_compared rel.Gt a b x y e f = tells_lt b a y x f e
  tells_compared rel.Ge a b x y e f = tells_le b a y x f e
  tells_compared rel.Subset a b x y e f = tells_eq a b x y e f
  tells_compared rel.Within a b x y e f = tells_eq a b x y e f

  -- ---- several

  abbrev AllTell : List Bool → List Pure → Type 0
  AllTell [] [] = Unit {0}
  AllTell (b ∷ bs) (p ∷ ps) = Tells b p × AllTell bs ps
  AllTell _ _ = ⊥

  all_tell : (bs : List Bool) (ps : List Pure) → AllTell bs ps → All (TrueAt s) ps ↔ (list_all (λ t. t) bs ≡ true)
  all_tell [] [] h = (λ a. refl, λ e. All-nil (TrueAt s))
  all_tell (b ∷ bs) (p ∷ ps) h = let rest = all_tell bs ps h.1 in (
    λ a. and_from b (list_all (λ t. t) bs) (h.0.0 (All-head (TrueAt s) p ps a)) (rest.0 (All-later (TrueAt s) p ps a)),
    λ e. let parts = and_parts b (list_all (λ t. t) bs) e in All-cons (TrueAt s) p ps (h.0.1 parts.0) (rest.1 parts.1),
  )
  all_tell [] (p ∷ ps) h = absurd h
  all_tell (b ∷ bs) [] h = absurd h

  conj_tells : (bs : List Bool) (ps : List Pure) → AllTell bs ps → Tells (list_all (λ t. t) bs) (conj ps)
  conj_tells [] [] h = let all = all_tell [] [] h in (λ t. refl, λ e. (true-And s []).1 (all.1 e))
  conj_tells (b ∷ []) (p ∷ []) h = (λ t. and_from b true (h.0.0 t) refl, λ e. h.0.1 (and_parts b true e).0)
  conj_tells (b ∷ c ∷ bs) (p ∷ q ∷ ps) h =
      let all = all_tell (b ∷ c ∷ bs) (p ∷ q ∷ ps) h in
      (λ t. all.0 ((true-And s (p ∷ q ∷ ps)).0 t), λ e. (true-And s (p ∷ q ∷ ps)).1 (all.1 e))
  conj_tells [] (p ∷ ps) h = absurd h
  conj_tells (b ∷ bs) [] h = absurd h
  conj_tells (b ∷ []) (p ∷ q ∷ ps) h = absurd h.1
  conj_tells (b ∷ c ∷ bs) (p ∷ []) h = absurd h.1

  any_tell : (bs : List Bool) (ps : List Pure) → AllTell bs ps → Any (TrueAt s) ps ↔ (list_any (λ t. t) bs ≡ true)
  any_tell [] [] h = (λ a. absurd (Any-nil (TrueAt s) a), λ e. absurd (true≢false (sym e)))
  any_tell (b ∷ bs) (p ∷ ps) h = let rest = any_tell bs ps h.1 in (
    λ a. elim (Any-cases (TrueAt s) p ps a) [
      | inl t ↦ or_left b (list_any (λ t. t) bs) (h.0.0 t)
      | inr l ↦ or_right b (list_any (λ t. t) bs) (rest.0 l)
    ],
    λ e. elim (or_cases b (list_any (λ t. t) bs) e) [
      | inl k ↦ Any-first (TrueAt s) p ps (h.0.1 k)
      | inr k ↦ Any-later (TrueAt s) p ps (rest.1 k)
    ],
  )
  any_tell [] (p ∷ ps) h = absurd h
  any_tell (b ∷ bs) [] h = absurd h

  disj_tells : (bs : List Bool) (ps : List Pure) → AllTell bs ps → Tells (list_any (λ t. t) bs) (disj ps)
  disj_tells [] [] h = let any = any_tell [] [] h in (λ t. any.0 ((true-Or s []).0 t), λ e. (true-Or s []).1 (any.1 e))
  disj_tells (b ∷ []) (p ∷ []) h = (λ t. or_left b false (h.0.0 t), λ e. elim (or_cases b false e) [ inl k ↦ h.0.1 k | inr k ↦ absurd (true≢false (sym k)) ])
  disj_tells (b ∷ c ∷ bs) (p ∷ q ∷ ps) h =
      let any = any_tell (b ∷ c ∷ bs) (p ∷ q ∷ ps) h in
      (λ t. any.0 ((true-Or s (p ∷ q ∷ ps)).0 t), λ e. (true-Or s (p ∷ q ∷ ps)).1 (any.1 e))
  disj_tells [] (p ∷ ps) h = absurd h
  disj_tells (b ∷ bs) [] h = absurd h
  disj_tells (b ∷ []) (p ∷ q ∷ ps) h = absurd h.1
  disj_tells (b ∷ c ∷ bs) (p ∷ []) h = absurd h.1

  any_mapped : {X : Type 0} (f : X → Bool) (xs : List X) → list_any f xs ≡ list_any (λ t. t) (map f xs)
  any_mapped f [] = refl
  any_mapped f (x ∷ xs) = ap (λ b. f x || b) (any_mapped f xs)

-- ---- conditions

module _ (scope : Scope) (w : Values) (s : Slots) (agree : (x : Ident) → s (slot_of scope x.text) ≡ w (slot_of scope x.text)) where
  abbrev F : Use → Type 0
  F = IsThere scope

  -- where what is used is there, the formula tells whether the condition holds
  abbrev Good : List Use × (Pure × Bool) → Type 0
  Good b = AllByRecursion F b.0 → Tells (stack_at s) b.1.1 b.1.0

  abbrev cond_level : CondTree-F Pure Pure Pure → Pure
  cond_level c = disj (map conj c.cases)

  abbrev cond_uses_level : CondTree-F (List Use) (List Use) (List Use) → List Use
  cond_uses_level c = flat_map (flat_map (λ t. t)) c.cases

  abbrev cond_holds_level : CondTree-F Bool Bool Bool → Bool
  cond_holds_level c = list_any (list_all (λ t. t)) c.cases

  abbrev test_level : {A : Type 0} → TestTree-F A A A → A
  test_level t = t.kind

  abbrev kind_made : TestKind → Pure
  kind_made = fold-TestKind Pure Pure Pure (code.test_by scope) cond_level test_level

  abbrev kind_uses : TestKind → List Use
  kind_uses = fold-TestKind (List Use) (List Use) (List Use) test_kind_uses cond_uses_level test_level

  abbrev kind_holds : TestKind → Bool
  kind_holds = fold-TestKind Bool Bool Bool (test_by scope w) cond_holds_level test_level

  abbrev K : Type 0
  K = (k : TestKind) × Good (kind_uses k, (kind_made k, kind_holds k))

  abbrev C : Type 0
  C = (c : CondTree) × Good (condition_uses c, (code.condition scope c, holds scope w c))

  abbrev T : Type 0
  T = (t : TestTree) × Good (test_uses t, (code.test scope t, test_holds scope w t))

  abbrev kind_all : TestKind-F TestKind CondTree TestTree → List Use × (Pure × Bool)
  kind_all z = (
    test_kind_uses (map-TestKind TestKind CondTree TestTree (List Use) (List Use) (List Use) kind_uses condition_uses test_uses z),
    (
      code.test_by scope (map-TestKind TestKind CondTree TestTree Pure Pure Pure kind_made (code.condition scope) (code.test scope) z),
      test_by scope w (map-TestKind TestKind CondTree TestTree Bool Bool Bool kind_holds (holds scope w) (test_holds scope w) z),
    ),
  )

  kind_good : (k : TestKind-F K C T) → Good (kind_all (map-TestKind K C T TestKind CondTree TestTree (λ e. e.0) (λ e. e.0) (λ e. e.0) k))
  kind_good (TestKind-F.Not t) h = tells_not (stack_at s) (test_holds scope w t.0) (code.test scope t.0) (t.1 h)
  kind_good (TestKind-F.Group c) h = c.1 h
  kind_good (TestKind-F.Rel r a b) h =
      let parts = split_all F (number_uses a) (number_uses b) h in
      tells_compared (stack_at s) r (term_of scope a) (term_of scope b) (expression_value scope w a) (expression_value scope w b) (value_is scope w s agree a parts.0.0) (value_is scope w s agree b parts.1.0)

  abbrev trees : List T → List TestTree
  trees ts = map (λ e. e.0) ts

  tests_good : (ts : List T) → AllByRecursion F (flat_map (λ t. t) (map test_uses (trees ts))) → AllTell (stack_at s) (map (test_holds scope w) (trees ts)) (map (code.test scope) (trees ts))
  tests_good [] h = tt
  tests_good (t ∷ ts) h =
      let parts = split_all F (test_uses t.0) (flat_map (λ t. t) (map test_uses (trees ts))) h in
      (t.1 parts.0, tests_good ts parts.1)

  cases_good : (cs : List (List T)) → AllByRecursion F (flat_map (flat_map (λ t. t)) (map (map test_uses) (map (map (λ e. e.0)) cs))) →
      AllTell (stack_at s) (map (list_all (λ t. t)) (map (map (test_holds scope w)) (map (map (λ e. e.0)) cs))) (map conj (map (map (code.test scope)) (map (map (λ e. e.0)) cs)))
  cases_good [] h = tt
  cases_good (c ∷ cs) h =
      let parts = split_all F (flat_map (λ t. t) (map test_uses (trees c))) (flat_map (flat_map (λ t. t)) (map (map test_uses) (map (map (λ e. e.0)) cs))) h in
      (conj_tells (stack_at s) (map (test_holds scope w) (trees c)) (map (code.test scope) (trees c)) (tests_good c parts.0), cases_good cs parts.1)

  all_good : (cs : List (List T)) → AllByRecursion F (flat_map (flat_map (λ t. t)) (map (map test_uses) (map (map (λ e. e.0)) cs))) →
      Tells (stack_at s) (list_any (list_all (λ t. t)) (map (map (test_holds scope w)) (map (map (λ e. e.0)) cs))) (disj (map conj (map (map (code.test scope)) (map (map (λ e. e.0)) cs))))
  all_good cs h =
      let bs = map (map (test_holds scope w)) (map (map (λ e. e.0)) cs) in
      let ps = map conj (map (map (code.test scope)) (map (map (λ e. e.0)) cs)) in
      subst (λ b. Tells (stack_at s) b ps_whole) (sym (any_mapped (stack_at s) (list_all (λ t. t)) bs)) (disj_tells (stack_at s) (map (list_all (λ t. t)) bs) ps (cases_good cs h))
    where
      ps_whole : Pure
      ps_whole = disj (map conj (map (map (code.test scope)) (map (map (λ e. e.0)) cs)))

  all_kinds : (x : TestKind-F TestKind CondTree TestTree) (y : TestKind-F K C T) → map-TestKind K C T TestKind CondTree TestTree (λ e. e.0) (λ e. e.0) (λ e. e.0) y ≡ x →
      Good (kind_uses (roll-TestKind x), (kind_made (roll-TestKind x), kind_holds (roll-TestKind x)))
  all_kinds x y is = subst Good (λ i. (
    sym (fold-roll-TestKind (List Use) (List Use) (List Use) test_kind_uses cond_uses_level test_level x) i,
    (
      sym (fold-roll-TestKind Pure Pure Pure (code.test_by scope) cond_level test_level x) i,
      sym (fold-roll-TestKind Bool Bool Bool (test_by scope w) cond_holds_level test_level x) i,
    ),
  ))
      (subst (λ z. Good (kind_all z)) is (kind_good y))

  all_conditions : (x : CondTree-F TestKind CondTree TestTree) (y : CondTree-F K C T) → map-CondTree K C T TestKind CondTree TestTree (λ e. e.0) (λ e. e.0) (λ e. e.0) y ≡ x →
      Good (condition_uses (roll-CondTree x), (code.condition scope (roll-CondTree x), holds scope w (roll-CondTree x)))
  all_conditions x y is = subst Good (λ i. (
    sym (fold-roll-CondTree (List Use) (List Use) (List Use) test_kind_uses cond_uses_level test_level x) i,
    (
      sym (fold-roll-CondTree Pure Pure Pure (code.test_by scope) cond_level test_level x) i,
      sym (fold-roll-CondTree Bool Bool Bool (test_by scope w) cond_holds_level test_level x) i,
    ),
  ))
      (subst (λ z. Good (
        cond_uses_level (map-CondTree TestKind CondTree TestTree (List Use) (List Use) (List Use) kind_uses condition_uses test_uses z),
        (
          cond_level (map-CondTree TestKind CondTree TestTree Pure Pure Pure kind_made (code.condition scope) (code.test scope) z),
          cond_holds_level (map-CondTree TestKind CondTree TestTree Bool Bool Bool kind_holds (holds scope w) (test_holds scope w) z),
        ),
      )) is (all_good y.cases))

  all_tests : (x : TestTree-F TestKind CondTree TestTree) (y : TestTree-F K C T) → map-TestTree K C T TestKind CondTree TestTree (λ e. e.0) (λ e. e.0) (λ e. e.0) y ≡ x →
      Good (test_uses (roll-TestTree x), (code.test scope (roll-TestTree x), test_holds scope w (roll-TestTree x)))
  all_tests x y is = subst Good (λ i. (
    sym (fold-roll-TestTree (List Use) (List Use) (List Use) test_kind_uses cond_uses_level test_level x) i,
    (
      sym (fold-roll-TestTree Pure Pure Pure (code.test_by scope) cond_level test_level x) i,
      sym (fold-roll-TestTree Bool Bool Bool (test_by scope w) cond_holds_level test_level x) i,
    ),
  ))
      (subst (λ z. Good (
        test_level (map-TestTree TestKind CondTree TestTree (List Use) (List Use) (List Use) kind_uses condition_uses test_uses z),
        (
          test_level (map-TestTree TestKind CondTree TestTree Pure Pure Pure kind_made (code.condition scope) (code.test scope) z),
          test_level (map-TestTree TestKind CondTree TestTree Bool Bool Bool kind_holds (holds scope w) (test_holds scope w) z),
        ),
      )) is y.kind.1)

  -- the formula of a condition is true exactly where the condition holds
  pub condition_tells : (c : CondTree) → Good (condition_uses c, (code.condition scope c, holds scope w c))
  condition_tells = ind-CondTree (λ k. Good (kind_uses k, (kind_made k, kind_holds k))) (λ c. Good (condition_uses c, (code.condition scope c, holds scope w c)))
      (λ t. Good (test_uses t, (code.test scope t, test_holds scope w t))) all_kinds all_conditions all_tests
