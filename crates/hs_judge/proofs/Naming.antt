-- What the premises of a node name, number by number.
use Rattle.std.proofs.Common.{◌≡◌, ℕ, zero, suc, ◌+◌, ◌<◌, ◌≤◌, List, [], ◌∷◌, ◌++◌, length, get_or, drop, slice_get, Option, Some, None, refl, sym, ap, ◌∙◌, subst, arith}
use Rattle.std.specs.List.{All}
use Rattle.std.proofs.lemmas.List.{drop_more, drop_all, append_assoc, append-nil}
use Rattle.std.proofs.lemmas.List.Elements.{All-nil, All-cons, All-head, All-tail}
use Rattle.std.proofs.lemmas.Option.{slice_get_within, slice_get-get_or}
use Rattle.hs_heap.specs.declared.formula.Formula.{Formula}
use Rattle.hs_goal.specs.declared.goal.Goal.{Goal}
use Rattle.hs_core.specs.Sound.{IsUpTo}
use Rattle.hs_node.specs.declared.judgement.Judgement.{Judgement}
use Rattle.hs_node.specs.declared.judgement.Judgement.TheVariants.{Shown, Entails, Runs}
use Rattle.hs_node.specs.declared.derivation.Node.{Node}
use Rattle.hs_judge.specs.Named.{item_at, in_front, named, AreEarlier, IsEntailment, goal_and_residue, entailment_of, pair_in_front, entailments}

pub empty_is : {A : Type 0} (xs : List A) → length xs ≡ 0 → xs ≡ []
empty_is [] e = refl
empty_is (x ∷ xs) e = absurd (omega (arith, e))

-- ---- numbers of nodes

module _ {A : Type 0} (xs : List A) where
  -- an item that is there has a number up to their count
  pub numbered_up_to : (k : ℕ) (x : A) → item_at xs k ≡ Some x → IsUpTo (length xs) k
  numbered_up_to zero x e = absurd cc
  numbered_up_to (suc l) x e = let within = slice_get_within xs l x e in (omega arith, omega (arith, within))

  -- where there is none the number is not
  pub not_numbered : (k : ℕ) → item_at xs k ≡ None → ¬ (IsUpTo (length xs) k)
  not_numbered zero e h = let low = h.0 in absurd (omega (arith, low))
  not_numbered (suc l) e h = missing xs l e (let high = h.1 in omega (arith, high))
    where
      missing : (ys : List A) (i : ℕ) → slice_get ys i ≡ None → i < length ys → ⊥
      missing [] i e less = absurd (omega (arith, less))
      missing (y ∷ ys) zero e less = absurd cc
      missing (y ∷ ys) (suc i) e less = missing ys i e (omega (arith, less))

module _ (before : List Node) where
  -- ---- one number more

  pub named_more : (ks : List ℕ) (i k : ℕ) → i < length ks → k ≡ get_or ks i k → named before (drop i ks) ≡ in_front (item_at before k) (named before (drop (i + 1) ks))
  named_more ks i k less is = ap (named before) (drop_more ks i k less) ∙ ap (λ (j : ℕ). in_front (item_at before j) (named before (drop (i + 1) ks))) (sym is)

  pub entailments_more : (ks : List ℕ) (i k : ℕ) → i < length ks → k ≡ get_or ks i k →
      entailments (named before (drop i ks)) ≡ pair_in_front (entailment_of (item_at before k)) (entailments (named before (drop (i + 1) ks)))
  entailments_more ks i k less is = ap entailments (named_more ks i k less is) ∙ by (item_at before k)
    where
      by : (o : Option Node) → entailments (in_front o (named before (drop (i + 1) ks))) ≡ pair_in_front (entailment_of o) (entailments (named before (drop (i + 1) ks)))
      by None = refl
      by (Some n) = refl

  -- ---- what a loop over the numbers has taken

  pub named_pushed : (ks : List ℕ) (all new : List Judgement) (i k : ℕ) (n : Node) → i < length ks → k ≡ get_or ks i k → item_at before k ≡ Some n →
      all ++ named before (drop i ks) ≡ named before ks → new ≡ all ++ n.judgement ∷ [] → new ++ named before (drop (i + 1) ks) ≡ named before ks
  named_pushed ks all new i k n less is there so pushed =
      ap (λ (js : List Judgement). js ++ named before (drop (i + 1) ks)) pushed
      ∙ append_assoc all (n.judgement ∷ []) (named before (drop (i + 1) ks))
      ∙ ap (λ (o : Option Node). all ++ in_front o (named before (drop (i + 1) ks))) (sym there)
      ∙ ap (λ (js : List Judgement). all ++ js) (sym (named_more ks i k less is))
      ∙ so

  pub named_stopped : (ks : List ℕ) (all : List Judgement) (i k : ℕ) → i < length ks → k ≡ get_or ks i k → item_at before k ≡ None →
      all ++ named before (drop i ks) ≡ named before ks → all ≡ named before ks
  named_stopped ks all i k less is there so =
      sym (append-nil all)
      ∙ ap (λ (js : List Judgement). all ++ js) (sym (named_more ks i k less is ∙ ap (λ (o : Option Node). in_front o (named before (drop (i + 1) ks))) there))
      ∙ so

  pub named_ended : (ks : List ℕ) (all : List Judgement) (i : ℕ) → length ks ≤ i → all ++ named before (drop i ks) ≡ named before ks → all ≡ named before ks
  named_ended ks all i past so = sym (append-nil all) ∙ ap (λ (rest : List ℕ). all ++ named before rest) (sym (drop_all i ks past)) ∙ so

  pub pairs_pushed : (ks : List ℕ) (all new : List (Goal × Formula)) (i k : ℕ) (p : Goal × Formula) → i < length ks → k ≡ get_or ks i k →
      Some p ≡ entailment_of (item_at before k) → all ++ entailments (named before (drop i ks)) ≡ entailments (named before ks) → new ≡ all ++ p ∷ [] →
      new ++ entailments (named before (drop (i + 1) ks)) ≡ entailments (named before ks)
  pairs_pushed ks all new i k p less is there so pushed =
      ap (λ (ps : List (Goal × Formula)). ps ++ entailments (named before (drop (i + 1) ks))) pushed
      ∙ append_assoc all (p ∷ []) (entailments (named before (drop (i + 1) ks)))
      ∙ ap (λ (o : Option (Goal × Formula)). all ++ pair_in_front o (entailments (named before (drop (i + 1) ks)))) there
      ∙ ap (λ (ps : List (Goal × Formula)). all ++ ps) (sym (entailments_more ks i k less is))
      ∙ so

  pub pairs_stopped : (ks : List ℕ) (all : List (Goal × Formula)) (i k : ℕ) → i < length ks → k ≡ get_or ks i k →
      None ≡ entailment_of (item_at before k) → all ++ entailments (named before (drop i ks)) ≡ entailments (named before ks) → all ≡ entailments (named before ks)
  pairs_stopped ks all i k less is there so =
      sym (append-nil all)
      ∙ ap (λ (o : Option (Goal × Formula)). all ++ pair_in_front o (entailments (named before (drop (i + 1) ks)))) there
      ∙ ap (λ (ps : List (Goal × Formula)). all ++ ps) (sym (entailments_more ks i k less is))
      ∙ so

  pub pairs_ended : (ks : List ℕ) (all : List (Goal × Formula)) (i : ℕ) → length ks ≤ i → all ++ entailments (named before (drop i ks)) ≡ entailments (named before ks) →
      all ≡ entailments (named before ks)
  pairs_ended ks all i past so = sym (append-nil all) ∙ ap (λ (rest : List ℕ). all ++ entailments (named before rest)) (sym (drop_all i ks past)) ∙ so

  -- ---- all numbers

  few_in_front : (o : Option Node) (js : List Judgement) (n : ℕ) → length js ≤ n → length (in_front o js) ≤ suc n
  few_in_front None js n few = omega arith
  few_in_front (Some m) js n few = omega (arith, few)

  pub named_few : (ks : List ℕ) → length (named before ks) ≤ length ks
  named_few [] = omega arith
  named_few (k ∷ ks) = few_in_front (item_at before k) (named before ks) (length ks) (named_few ks)

  earlier_in_front : (k : ℕ) (ks : List ℕ) (o : Option Node) → item_at before k ≡ o → (length (named before ks) ≡ length ks → AreEarlier before ks) →
      length (in_front o (named before ks)) ≡ suc (length ks) → AreEarlier before (k ∷ ks)
  earlier_in_front k ks None is rest e = absurd (omega (arith, e))
  earlier_in_front k ks (Some n) is rest e = All-cons (IsUpTo (length before)) k ks (numbered_up_to before k n is) (rest (omega (arith, e)))

  -- where each number names a judgement, each is of a node before
  pub all_earlier : (ks : List ℕ) → length (named before ks) ≡ length ks → AreEarlier before ks
  all_earlier [] e = All-nil (IsUpTo (length before))
  all_earlier (k ∷ ks) e = earlier_in_front k ks (item_at before k) refl (all_earlier ks) e

  named_in_front : (k : ℕ) (ks : List ℕ) (o : Option Node) → item_at before k ≡ o → IsUpTo (length before) k → length (named before ks) ≡ length ks →
      length (in_front o (named before ks)) ≡ suc (length ks)
  named_in_front k ks None is up e = absurd (not_numbered before k is up)
  named_in_front k ks (Some n) is up e = ap suc e

  pub earlier_are_named : (ks : List ℕ) → AreEarlier before ks → length (named before ks) ≡ length ks
  earlier_are_named [] h = refl
  earlier_are_named (k ∷ ks) h =
      named_in_front k ks (item_at before k) refl (All-head (IsUpTo (length before)) k ks h) (earlier_are_named ks (All-tail (IsUpTo (length before)) k ks h))

-- ---- entailments alone

pub entailments_few : (js : List Judgement) → length (entailments js) ≤ length js
entailments_few [] = omega arith
entailments_few (Shown pred ∷ js) = omega arith
entailments_few (Entails g residue ∷ js) = let few = entailments_few js in omega (arith, few)
entailments_few (Runs at ∷ js) = omega arith

pub all_entailments : (js : List Judgement) → length (entailments js) ≡ length js → All IsEntailment js
all_entailments [] e = All-nil IsEntailment
all_entailments (Shown pred ∷ js) e = absurd (omega (arith, e))
all_entailments (Entails g residue ∷ js) e = All-cons IsEntailment (Entails g residue) js tt (all_entailments js (omega (arith, e)))
all_entailments (Runs at ∷ js) e = absurd (omega (arith, e))

pub entailments_are_all : (js : List Judgement) → All IsEntailment js → length (entailments js) ≡ length js
entailments_are_all [] h = refl
entailments_are_all (Shown pred ∷ js) h = absurd (All-head IsEntailment (Shown pred) js h)
entailments_are_all (Entails g residue ∷ js) h = ap suc (entailments_are_all js (All-tail IsEntailment (Entails g residue) js h))
entailments_are_all (Runs at ∷ js) h = absurd (All-head IsEntailment (Runs at) js h)
