-- What holds of each rule that is tried at a goal.
use Rattle.std.proofs.Common.{◌≡◌, ℕ, zero, suc, ◌-◌, ◌≤◌, Bool, true, false, not, ◌&&◌, ◌==◌, List, [], ◌∷◌, ◌++◌, length, map, get_or, Option, Some, None, slice_get, inl, inr, refl, sym, ap, ◌∙◌, subst, arith, if◌then◌else◌}
use Rattle.std.specs.List.{All, list_any, flat_map}
use Rattle.std.proofs.lemmas.Bool.{and_parts, eqb-true}
use Rattle.std.proofs.lemmas.List.Elements.{All-nil, All-cons, All-append, All-map, All-weaker}
use Rattle.hs_pure.specs.declared.var.Var.{Var}
use Rattle.hs_pure.specs.declared.pure.Pure.{Pure}
use Rattle.hs_pure.specs.declared.pure.Pure.TheVariants as pure_of
use Rattle.hs_pure.specs.Occurs.{has_bags}
use Rattle.hs_pure.proofs.Lists.{from_not}
use Rattle.hs_heap.specs.declared.formula.Of.{Of}
use Rattle.hs_heap.specs.declared.formula.Of.TheVariants.{Node, Pred}
use Rattle.hs_heap.specs.declared.formula.Atom.{Atom}
use Rattle.hs_heap.specs.declared.formula.Formula.{Formula}
use Rattle.hs_heap.specs.declared.definitions.Lemma.{Lemma}
use Rattle.hs_heap.specs.declared.definitions.Defs.{Defs}
use Rattle.hs_heap.specs.Instance.{body_of, lemma_at}
use Rattle.hs_heap.proofs.Booleans.{or_false_left, or_false_right, false_of_not, clash}
use Rattle.hs_goal.specs.declared.goal.Goal.{Goal}
use Rattle.hs_goal.specs.declared.rule.ERule.{ERule}
use Rattle.hs_goal.specs.declared.rule.ERule.TheVariants as rule_of
use Rattle.hs_goal.specs.Closed.{is_nil}
use Rattle.hs_goal.specs.Classes.{the_case, IsSimple, turned}
use Rattle.hs_rules.specs.Parts.{IsPlace, no_atom, atom_at, left_atoms, left_pure, right_atoms, right_pure, has_open}
use Rattle.hs_rules.specs.Questions.{question_of}
use Rattle.hs_rules.specs.Rules.{TakesTooMany}
use Rattle.hs_rules.specs.Conditions.{BindsOnly, IsPred, CanTakeCase, CanInstantiate, CanMatch, CanUnfold, CanFold, CanUseLemma, HasCondition}
use Rattle.hs_side_rules.specs.Solving.{is_equation, EquationsAreTold}
use Rattle.hs_choices.specs.Places.{places_of, all_places, first_place}
use Rattle.hs_choices.specs.Tests.{has_one_case, binds, is_mixed, is_pred, same_name, in_class, is_known, is_answered}
use Rattle.hs_choices.specs.Choices.{matches_it, may_show_it, leads_to, may_hold, matches, unfolds, lemmas_at, lemma_steps, folds, by_atom, by_place, by_atoms, by_empty, by_equation, is_contradictory, by_right, choices}
use Rattle.hs_choices.specs.Laws.{ChoicesHaveConditions, ChoicesUseUp}
use Rattle.hs_choices.specs.declared.error.Spent.{Spent}
use Rattle.hs_choices.specs.declared.error.Spent.TheVariants.{Numbers, Atoms, Wide}
use Rattle.hs_choices.specs.Asked.{UsesUp}
use Rattle.hs_choices.specs.Stuck.{AsksBy, IsSpentAt}
use Rattle.hs_choices.proofs.Leaders.{classes_told}
use Rattle.hs_choices.proofs.Passing.{IsPassing, places_pass, first_passes, is_place}

-- ---- sides

one_case : (f : Formula) → not (has_one_case f) ≡ false → length f.cases ≡ 1
one_case f e = eqb-true (length f.cases) 1 (from_not (has_one_case f) e)

not_one_case : (f : Formula) → not (has_one_case f) ≡ true → ¬ (length f.cases ≡ 1)
not_one_case f e one = let g : has_one_case f ≡ true = subst (λ n. (n == 1) ≡ true) (sym one) refl in clash g (false_of_not e)

nil_is : {A : Type 0} (xs : List A) → is_nil xs ≡ true → xs ≡ []
nil_is [] e = refl
nil_is (x ∷ xs) e = absurd cc

nil_not : {A : Type 0} (xs : List A) → is_nil xs ≡ false → ¬ (xs ≡ [])
nil_not [] e f = absurd cc
nil_not (x ∷ xs) e f = absurd cc

binds_only : (f : Formula) → not (has_one_case f) ≡ false → binds f ≡ true → BindsOnly f
binds_only f one e = record { one = one_case f one; binds = nil_not (the_case f).bound (false_of_not e) }

pub is_simple : (f : Formula) → not (has_one_case f) ≡ false → binds f ≡ false → IsSimple f
is_simple f one e = record { one = one_case f one; unbound = nil_is (the_case f).bound (from_not (is_nil (the_case f).bound) e) }

-- ---- names

name_is : (a b : Of) → same_name a b ≡ true → a ≡ b
name_is (Node m) (Node n) e = ap Node (eqb-true m n e)
name_is (Node m) (Pred n) e = absurd cc
name_is (Pred m) (Node n) e = absurd cc
name_is (Pred m) (Pred n) e = ap Pred (eqb-true m n e)

pred_is : (o : Of) → is_pred o ≡ true → IsPred o
pred_is (Node n) e = absurd cc
pred_is (Pred n) e = tt

-- what has a case is a predicate
has_case : (defs : Defs) (o : Of) (i : ℕ) → IsPlace i (body_of defs o).formula.cases → IsPred o
has_case defs (Node n) i p = let from = p.0 in let to = p.1 in absurd (omega arith)
has_case defs (Pred n) i p = tt

lemma_there : (defs : Defs) (j : ℕ) → IsPlace j defs.lemmas → (l : Lemma) × (lemma_at defs j ≡ Some l) × ((d : Lemma) → get_or defs.lemmas (j - 1) d ≡ l)
lemma_there defs zero p = let from = p.0 in absurd (omega arith)
lemma_there defs (suc j) p = go defs.lemmas j p.1
  where
    go : (ls : List Lemma) (k : ℕ) → suc k ≤ length ls → (l : Lemma) × (slice_get ls k ≡ Some l) × ((d : Lemma) → get_or ls (suc k - 1) d ≡ l)
    go [] k less = absurd (omega arith)
    go (l ∷ ls) zero less = (l, refl, λ d. refl)
    go (l ∷ ls) (suc k) less =
        let rest = go ls k (omega arith) in
        let e : suc (suc k) - 1 ≡ suc (suc k - 1) = omega arith in
        (rest.0, rest.1, λ d. rw e (rest.2 d))

-- ---- rules, one by one

-- what holds of each rule whose place in the order it is
pub record ForEach (defs : Defs) (level : ℕ) (g : Goal) (P : ERule → Type 0) : Type 0 where
  pub left_or : ¬ (length g.left.cases ≡ 1) → P rule_of.LeftOr
  pub left_exists : BindsOnly g.left → P rule_of.LeftExists
  pub contradiction : IsSimple g.left → g.looked ≡ false → P (rule_of.False level)
  pub right_or : (i : ℕ) → CanTakeCase g i → P (rule_of.RightOr i)
  pub right_exists : BindsOnly g.right → P rule_of.RightExists
  pub instantiated : (c : ℕ) → CanInstantiate g c → P (rule_of.Instantiate c)
  pub matched : (r l : ℕ) → CanMatch g r l → P (rule_of.Match r l)
  pub unfolded : (l : ℕ) → CanUnfold g l → P (rule_of.Unfold l)
  pub folded : (r i : ℕ) → CanFold defs g r i → P (rule_of.Fold r i)
  pub by_lemma : (j l : ℕ) → CanUseLemma defs g j l → P (rule_of.Lemma j l)
  pub without_atoms : IsSimple g.left → IsSimple g.right → right_atoms g ≡ [] → All (λ p. (has_open g.opens p && has_bags p) ≡ false) (right_pure g) →
      choices defs level g ≡ rule_of.Empty level ∷ [] → P (rule_of.Empty level)

else_is : (b : Bool) (xs ys : List ERule) → b ≡ false → (if b then xs else ys) ≡ ys
else_is b xs ys e = rw e refl

then_is : (b : Bool) (xs ys : List ERule) → b ≡ true → (if b then xs else ys) ≡ xs
then_is b xs ys e = rw e refl

-- no conjunct is mixed
none_mixed : (opens : List Var) (ps : List Pure) → list_any (is_mixed opens) ps ≡ false → All (λ p. (has_open opens p && has_bags p) ≡ false) ps
none_mixed opens [] e = All-nil (λ p. is_mixed opens p ≡ false)
none_mixed opens (p ∷ ps) e =
    All-cons (λ q. is_mixed opens q ≡ false) p ps (or_false_left (is_mixed opens p) (list_any (is_mixed opens) ps) e)
    (none_mixed opens ps (or_false_right (is_mixed opens p) (list_any (is_mixed opens) ps) e))

module _ (equations_told : EquationsAreTold) (defs : Defs) (level : ℕ) (g : Goal) (P : ERule → Type 0) (for_each : ForEach defs level g P) where
  abbrev Each : List ERule → Type 0
  Each rules = All P rules

  one : (rule : ERule) → P rule → Each (rule ∷ [])
  one rule p = All-cons P rule [] p (All-nil P)

  by_bool : (b : Bool) (xs ys : List ERule) → (b ≡ true → Each xs) → (b ≡ false → Each ys) → Each (if b then xs else ys)
  by_bool true xs ys f h = f refl
  by_bool false xs ys f h = h refl

  -- at the places of the items that pass
  at_places : {X : Type 0} (test : X → Bool) (xs : List X) (rule : ℕ → ERule) → ((l : ℕ) → IsPassing test 1 xs l → P (rule l)) → Each (map rule (places_of test xs))
  at_places test xs rule f = All-map P rule (places_of test xs) (All-weaker (IsPassing test 1 xs) (λ l. P (rule l)) f (places_of test xs) (places_pass test 1 xs))

  flat_all : (Q : ℕ → Type 0) (f : ℕ → List ERule) (ls : List ℕ) → ((l : ℕ) → Q l → Each (f l)) → All Q ls → Each (flat_map f ls)
  flat_all Q f [] h a = All-nil P
  flat_all Q f (l ∷ ls) h a =
      let first : Q l = a 0 l (omega arith) in
      let rest : All Q ls = λ k d less. a (suc k) d (omega arith) in
      All-append P (f l) (flat_map f ls) (h l first) (flat_all Q f ls h rest)

  module _ (left : IsSimple g.left) (right : IsSimple g.right) where
    module _ (r : ℕ) (place : IsPlace r (right_atoms g)) (known : is_known g (atom_at r (right_atoms g)) ≡ true) where
      abbrev Taken : Atom
      Taken = atom_at r (right_atoms g)

      each_match : Each (matches g r Taken)
      unfolding matches_it
      each_match = at_places (matches_it g Taken) (left_atoms g) (λ l. rule_of.Match r l) (λ l p. for_each.matched r l (can l p))
        where
          can : (l : ℕ) → IsPassing (matches_it g Taken) 1 (left_atoms g) l → CanMatch g r l
          can l p =
              let a = atom_at l (left_atoms g) in
              let parts = and_parts (same_name a.of Taken.of) (in_class g a Taken) (p.passes no_atom) in
              record {
                left = left;
                right = right;
                right_place = place;
                left_place = is_place (matches_it g Taken) (left_atoms g) l p;
                one_name = sym (name_is a.of Taken.of parts.0);
                one_class = turned ((classes_told (left_pure g) a.root Taken.root).0 parts.1);
                known = false_of_not known;
              }

      each_unfold : Each (unfolds g Taken)
      unfolding may_show_it
      each_unfold = at_places (may_show_it g Taken) (left_atoms g) (λ l. rule_of.Unfold l) (λ l p. for_each.unfolded l (can l p))
        where
          can : (l : ℕ) → IsPassing (may_show_it g Taken) 1 (left_atoms g) l → CanUnfold g l
          can l p =
              let a = atom_at l (left_atoms g) in
              let parts = and_parts (is_pred a.of) (not (same_name a.of Taken.of) && in_class g a Taken) (p.passes no_atom) in
              record { left = left; place = is_place (may_show_it g Taken) (left_atoms g) l p; pred = pred_is a.of parts.0 }

      each_lemma_at : (l : ℕ) → IsPlace l (left_atoms g) → Each (lemmas_at defs Taken l (atom_at l (left_atoms g)))
      unfolding leads_to
      each_lemma_at l at = at_places (leads_to (atom_at l (left_atoms g)).of Taken.of) defs.lemmas (λ j. rule_of.Lemma j l) (λ j p. for_each.by_lemma j l (can j p))
        where
          can : (j : ℕ) → IsPassing (leads_to (atom_at l (left_atoms g)).of Taken.of) 1 defs.lemmas j → CanUseLemma defs g j l
          can j p =
              let from = (atom_at l (left_atoms g)).of in
              let there = lemma_there defs j (is_place (leads_to from Taken.of) defs.lemmas j p) in
              let k = there.0 in
              let parts = and_parts _ _ (subst (λ (m : Lemma). leads_to from Taken.of m ≡ true) (there.2 k) (p.passes k)) in
              record { left = left; lemma = k; there = there.1; place = at; of_pred = name_is from (Pred k.pred) parts.0 }

      each_lemma : Each (lemma_steps defs g Taken)
      each_lemma =
          let test = λ (a : Atom). in_class g a Taken in
          flat_all (IsPassing test 1 (left_atoms g)) (λ l. lemmas_at defs Taken l (atom_at l (left_atoms g))) (places_of test (left_atoms g)) (λ l p. each_lemma_at l (is_place test (left_atoms g) l p)) (places_pass test 1 (left_atoms g))

      each_fold : Each (folds defs g r Taken)
      each_fold =
          let cases = (body_of defs Taken.of).formula.cases in
          at_places (may_hold g Taken) cases (λ i. rule_of.Fold r i) (λ i p.
          let at = is_place (may_hold g Taken) cases i p in
          for_each.folded r i (record { right = right; place = place; pred = has_case defs Taken.of i at; case_place = at }))

      each_atom : Each (by_atom defs g r Taken)
      each_atom =
          All-append P (matches g r Taken ++ unfolds g Taken ++ lemma_steps defs g Taken) (folds defs g r Taken)
          (All-append P (matches g r Taken ++ unfolds g Taken) (lemma_steps defs g Taken) (All-append P (matches g r Taken) (unfolds g Taken) each_match each_unfold) each_lemma) each_fold

    each_at_atoms : Each (by_atoms defs g)
    unfolding by_atoms
    each_at_atoms = go (first_place (is_known g) (right_atoms g)) refl
      where
        go : (o : Option ℕ) → first_place (is_known g) (right_atoms g) ≡ o → Each (by_place (λ r. by_atom defs g r (atom_at r (right_atoms g))) o)
        go None e = All-nil P
        go (Some r) e = let p = first_passes (is_known g) 1 (right_atoms g) r e in each_atom r (is_place (is_known g) (right_atoms g) r p) (p.passes no_atom)

    each_empty : right_atoms g ≡ [] → choices defs level g ≡ by_empty level g → Each (by_empty level g)
    unfolding by_empty
    each_empty none is =
        let mixed = list_any (is_mixed g.opens) (right_pure g) in
        by_bool mixed [] (rule_of.Empty level ∷ []) (λ e. All-nil P)
        (λ e. one (rule_of.Empty level) (for_each.without_atoms left right none (none_mixed g.opens (right_pure g) e) (is ∙ else_is mixed [] (rule_of.Empty level ∷ []) e)))

    each_by_equation : (o : Option ℕ) → first_place (is_equation g.opens) (right_pure g) ≡ o → choices defs level g ≡ by_equation defs level g o → Each (by_equation defs level g o)
    each_by_equation None e is =
        by_bool (is_nil (right_atoms g)) (by_empty level g) (by_atoms defs g)
        (λ f. each_empty (nil_is (right_atoms g) f) (is ∙ then_is (is_nil (right_atoms g)) (by_empty level g) (by_atoms defs g) f)) (λ f. each_at_atoms)
    each_by_equation (Some c) e is =
        let p = first_passes (is_equation g.opens) 1 (right_pure g) c e in
        let h = (equations_told g.opens (get_or (right_pure g) (c - 1) (pure_of.And []))).0 (p.passes (pure_of.And [])) in
        one (rule_of.Instantiate c) (for_each.instantiated c (record { left = left; right = right; place = is_place (is_equation g.opens) (right_pure g) c p; variable = h.0; equation = h.1 }))

  abbrev Many : Bool
  Many = not (has_one_case g.right)

  abbrev Cases : List ERule
  Cases = map (λ i. rule_of.RightOr i) (all_places g.right.cases)

  abbrev Parts : List ERule
  Parts = by_equation defs level g (first_place (is_equation g.opens) (right_pure g))

  abbrev Unbound : List ERule
  Unbound = if binds g.right then rule_of.RightExists ∷ [] else Parts

  each_right : IsSimple g.left → choices defs level g ≡ by_right defs level g → Each (by_right defs level g)
  unfolding by_right
  each_right left is = by_bool Many Cases Unbound
      (λ many. at_places (λ d. true) g.right.cases (λ i. rule_of.RightOr i) (λ i p. for_each.right_or i (can i many p)))
      (λ one_right. by_bool (binds g.right) (rule_of.RightExists ∷ []) Parts
      (λ bound. one rule_of.RightExists (for_each.right_exists (binds_only g.right one_right bound)))
      (λ unbound. each_by_equation left (is_simple g.right one_right unbound) (first_place (is_equation g.opens) (right_pure g)) refl
      (is ∙ else_is Many Cases Unbound one_right ∙ else_is (binds g.right) (rule_of.RightExists ∷ []) Parts unbound)))
    where
      can : (i : ℕ) → not (has_one_case g.right) ≡ true → IsPassing (λ d. true) 1 g.right.cases i → CanTakeCase g i
      can i many p =
          let place = is_place (λ d. true) g.right.cases i p in
          let from = place.0 in
          let to = place.1 in
          let other = not_one_case g.right many in
          record { several = omega arith; place = place }

  abbrev Later : List ERule
  Later = if is_contradictory defs level g then rule_of.False level ∷ [] else by_right defs level g

  abbrev Bare : List ERule
  Bare = if binds g.left then rule_of.LeftExists ∷ [] else Later

  not_looked : is_contradictory defs level g ≡ true → g.looked ≡ false
  unfolding is_contradictory
  not_looked e = false_of_not (and_parts (not g.looked) (is_answered (question_of defs g (rule_of.False level))) e).0

  pub each_choice : Each (choices defs level g)
  unfolding choices
  each_choice = by_bool (not (has_one_case g.left)) (rule_of.LeftOr ∷ []) Bare (λ many. one rule_of.LeftOr (for_each.left_or (not_one_case g.left many)))
      (λ one_left. by_bool (binds g.left) (rule_of.LeftExists ∷ []) Later (λ bound. one rule_of.LeftExists (for_each.left_exists (binds_only g.left one_left bound)))
      (λ unbound.
      let simple = is_simple g.left one_left unbound in
      by_bool (is_contradictory defs level g) (rule_of.False level ∷ []) (by_right defs level g) (λ e. one (rule_of.False level) (for_each.contradiction simple (not_looked e)))
      (λ e. each_right simple
      (else_is (not (has_one_case g.left)) (rule_of.LeftOr ∷ []) Bare one_left ∙ else_is (binds g.left) (rule_of.LeftExists ∷ []) Later unbound
      ∙ else_is (is_contradictory defs level g) (rule_of.False level ∷ []) (by_right defs level g) e))))

-- ---- the laws

pub have_conditions : EquationsAreTold → ChoicesHaveConditions
have_conditions equations defs level small g = each_choice equations defs level g (HasCondition defs g) (record {
  left_or = λ h. h;
  left_exists = λ h. h;
  contradiction = λ left fresh. record { level = small; left = left };
  right_or = λ i h. h;
  right_exists = λ h. h;
  instantiated = λ c h. h;
  matched = λ r l h. h;
  unfolded = λ l h. h;
  folded = λ r i h. h;
  by_lemma = λ j l h. h;
  without_atoms = λ left right none bags alone. record { level = small; left = left; right = right; no_atoms = none; bags = bags };
})

-- what the question of a rule uses up is used up at a goal where it is asked
asked_at : (defs : Defs) (level atoms : ℕ) (g : Goal) (rule : ERule) → AsksBy defs level g rule → (s : Spent) → UsesUp defs g rule atoms s → IsSpentAt defs level atoms g s
asked_at defs level atoms g rule asks Numbers used = inr (rule, asks, used)
asked_at defs level atoms g rule asks (Atoms q) used = ((rule, asks, used.0), used.1)
asked_at defs level atoms g rule asks (Wide q) used = ((rule, asks, used.0), used.1)

-- a rule without a question uses up nothing
uses_none : (defs : Defs) (level atoms : ℕ) (g : Goal) (rule : ERule) → question_of defs g rule ≡ None → ¬ (TakesTooMany defs g rule) → (s : Spent) → UsesUp defs g rule atoms s → IsSpentAt defs level atoms g s
uses_none defs level atoms g rule none few Numbers used = absurd (few used)
uses_none defs level atoms g rule none few (Atoms q) used = let e : None ≡ Some q = sym none ∙ used.0 in absurd cc
uses_none defs level atoms g rule none few (Wide q) used = let e : None ≡ Some q = sym none ∙ used.0 in absurd cc

pub use_up : EquationsAreTold → ChoicesUseUp
use_up equations defs level atoms g =
    let P : ERule → Type 0 = λ rule. (s : Spent) → UsesUp defs g rule atoms s → IsSpentAt defs level atoms g s in
    each_choice equations defs level g P (record {
      left_or = λ h. uses_none defs level atoms g rule_of.LeftOr refl (λ t. t);
      left_exists = λ h. uses_none defs level atoms g rule_of.LeftExists refl (λ t. t);
      contradiction = λ left fresh. asked_at defs level atoms g (rule_of.False level) (inl (refl, left, fresh));
      right_or = λ i h. uses_none defs level atoms g (rule_of.RightOr i) refl (λ t. t);
      right_exists = λ h. uses_none defs level atoms g rule_of.RightExists refl (λ t. t);
      instantiated = λ c h. uses_none defs level atoms g (rule_of.Instantiate c) refl (λ t. t);
      matched = λ r l h. uses_none defs level atoms g (rule_of.Match r l) refl (λ t. t);
      unfolded = λ l h. uses_none defs level atoms g (rule_of.Unfold l) refl (λ t. t);
      folded = λ r i h. uses_none defs level atoms g (rule_of.Fold r i) refl (λ t. t);
      by_lemma = λ j l h. uses_none defs level atoms g (rule_of.Lemma j l) refl (λ t. t);
      without_atoms = λ left right none bags alone. asked_at defs level atoms g (rule_of.Empty level) (inr (refl, alone));
    })
