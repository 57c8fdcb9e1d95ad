-- The rules on disjuncts keep what a goal means.
use Rattle.std.proofs.Common.{ℕ, ◌-◌, ◌≤◌, ◌≡◌, false, ◌⊎◌, inl, inr, List, [], ◌∷◌, ◌++◌, length, map, take, drop, sym, subst}
use Rattle.std.specs.List.{AllByRecursion}
use Rattle.hs_pure.specs.declared.var.Var.{Var}
use Rattle.hs_pure.specs.declared.pure.Pure.{Pure}
use Rattle.hs_pure.specs.declared.pure.Pure.TheVariants as pure_of
use Rattle.hs_pure.specs.Stack.{Stack}
use Rattle.hs_pure.specs.Truth.{TrueAt}
use Rattle.hs_pure.proofs.Truths.{true-Not}
use Rattle.hs_heap.specs.declared.formula.Disjunct.{Disjunct}
use Rattle.hs_heap.specs.declared.formula.Formula.{Formula}
use Rattle.hs_heap.specs.Heap.{Heap, IsHeap, Parts}
use Rattle.hs_heap.specs.Meaning.{Meaning, AtomsHold, SomeHolds, FormulaHolds}
use Rattle.hs_goal.specs.declared.goal.Goal.{Goal}
use Rattle.hs_goal.specs.Classes.{nothing}
use Rattle.hs_rules.specs.Parts.{only, left_atoms, left_pure, case_at}
use Rattle.hs_rules.specs.Conditions.{CanSplit, CanTakeCase}
use Rattle.hs_rules.specs.Subgoals.{one_each, with_conjunct, with_right_case}
use Rattle.hs_rules.specs.Residues.{joined}
use Rattle.hs_rules.specs.Rules.{Judgement}
use Rattle.hs_rules.proofs.Places.{at_place}
use Rattle.hs_rules.proofs.Plain.{simple_is, plain_holds, plain_from, AllTrue-append}
use Rattle.hs_rules.proofs.Holds.{SplitsBy, HoldsTo}

abbrev pub AllHoldTo : Meaning → ℕ → List Judgement → Type 0
AllHoldTo x m ps = AllByRecursion (λ (p : Judgement). HoldsTo x m p.goal p.residue) ps

abbrev pub residues : List Judgement → List Formula
residues ps = map (λ (p : Judgement). p.residue) ps

abbrev pub goals : List Judgement → List Goal
goals ps = map (λ (p : Judgement). p.goal) ps

module _ (x : Meaning) where
  pub first_cases : (s : Stack) (h : Heap) (ds es : List Disjunct) → SomeHolds x s h ds → SomeHolds x s h (ds ++ es)
  first_cases s h [] es p = absurd p
  first_cases s h (d ∷ ds) es (inl p) = inl p
  first_cases s h (d ∷ ds) es (inr p) = inr (first_cases s h ds es p)

  pub second_cases : (s : Stack) (h : Heap) (ds es : List Disjunct) → SomeHolds x s h es → SomeHolds x s h (ds ++ es)
  second_cases s h [] es p = p
  second_cases s h (d ∷ ds) es p = inr (second_cases s h ds es p)

  pub wider : {opens : List Var} {right f g : Formula} {s : Stack} {h : Heap} →
      ((t : Stack) (k : Heap) → FormulaHolds x t k f → FormulaHolds x t k g) → SplitsBy x opens right f s h → SplitsBy x opens right g s h
  wider into p = record {
    at = p.at;
    same = p.same;
    part = p.part;
    rest = p.rest;
    parts = p.parts;
    right_holds = p.right_holds;
    residue_holds = into p.at p.rest p.residue_holds;
  }

  pub wider_right : {opens : List Var} {right f g : Formula} {s : Stack} {h : Heap} →
      ((t : Stack) (k : Heap) → FormulaHolds x t k right → FormulaHolds x t k g) → SplitsBy x opens right f s h → SplitsBy x opens g f s h
  wider_right into p = record {
    at = p.at;
    same = p.same;
    part = p.part;
    rest = p.rest;
    parts = p.parts;
    right_holds = into p.at p.part p.right_holds;
    residue_holds = p.residue_holds;
  }

  -- where each case is a premise's left side, one of the premises splits
  premises_split : (m : ℕ) (g : Goal) (ds : List Disjunct) (ps : List Judgement) → goals ps ≡ one_each g ds → AllHoldTo x m ps →
      (s : Stack) (h hu hr : Heap) → IsHeap h → length h ≤ m → Parts h hu hr → AtomsHold x s hu g.used → SomeHolds x s hr ds →
      SplitsBy x g.opens g.right (joined (residues ps)) s hr
  premises_split m g [] ps e all s h hu hr is_heap size parts used p = absurd p
  premises_split m g (d ∷ ds) [] e all s h hu hr is_heap size parts used p = absurd cc
  premises_split m g (d ∷ ds) (j ∷ ps) e (holds, more) s h hu hr is_heap size parts used (inl p) =
      let head : j.goal ≡ record g { left = only d; looked = false } = cc in
      let P : Goal → Type 0 = λ t. HoldsTo x m t j.residue in
      wider (λ t k. first_cases t k j.residue.cases (joined (residues ps)).cases) ((subst P head holds).splits s h hu hr is_heap size parts used (inl p))
  premises_split m g (d ∷ ds) (j ∷ ps) e (holds, more) s h hu hr is_heap size parts used (inr p) =
      let tail : goals ps ≡ one_each g ds = cc in
      wider (λ t k. second_cases t k j.residue.cases (joined (residues ps)).cases) (premises_split m g ds ps tail more s h hu hr is_heap size parts used p)

  pub left_or_keeps : (m : ℕ) (g : Goal) (ps : List Judgement) → goals ps ≡ one_each g g.left.cases → AllHoldTo x m ps → HoldsTo x m g (joined (residues ps))
  left_or_keeps m g ps e all = record {
    splits = λ s h hu hr is_heap size parts used left.
        premises_split m g g.left.cases ps e all s h hu hr is_heap size parts used left;
  }

  pub right_or_keeps : (m : ℕ) (g : Goal) (i : ℕ) (r : Formula) → CanTakeCase g i → HoldsTo x m (with_right_case g i) r → HoldsTo x m g r
  right_or_keeps m g i r can holds = record {
    splits = λ s h hu hr is_heap size parts used left.
        let before = take (i - 1) g.right.cases in
        let one = case_at i g.right.cases in
        let after = drop i g.right.cases in
        let whole : g.right ≡ record { cases = before ++ one ∷ after } = λ j. record { cases = at_place i g.right.cases nothing can.place j } in
        let Q : Formula → Type 0 = λ f. SplitsBy x g.opens f r s hr in
        subst Q (sym whole) (wider_right (λ t k p. second_cases t k before (one ∷ after) (first_cases t k (one ∷ []) after p))
        (holds.splits s h hu hr is_heap size parts used left));
  }

  pub split_keeps : (m : ℕ) (f : Pure) (g : Goal) (ps : List Judgement) → ((s : Stack) → TrueAt s f ⊎ ¬ (TrueAt s f)) →
      CanSplit g f → goals ps ≡ with_conjunct g f ∷ with_conjunct g (pure_of.Not f) ∷ [] → AllHoldTo x m ps → HoldsTo x m g (joined (residues ps))
  split_keeps m f g [] decided can e all = absurd cc
  split_keeps m f g (a ∷ []) decided can e all = absurd cc
  split_keeps m f g (a ∷ b ∷ (c ∷ ps)) decided can e all = absurd cc
  split_keeps m f g (a ∷ b ∷ []) decided can e (one, (other, more)) =
      let Q : Judgement → Goal → Type 0 = λ j t. HoldsTo x m t j.residue in
      let first : a.goal ≡ with_conjunct g f = cc in
      let second : b.goal ≡ with_conjunct g (pure_of.Not f) = cc in
      let a_holds = subst (Q a) first one in
      let b_holds = subst (Q b) second other in
      record {
        splits = λ s h hu hr is_heap size parts used left.
            let R : Formula → Type 0 = λ k. FormulaHolds x s hr k in
            let l = plain_holds x s hr (left_atoms g) (left_pure g) (subst R (simple_is g.left can.left) left) in
            elim (decided s) [
              | inl holds ↦ wider (λ t k. first_cases t k a.residue.cases (b.residue.cases ++ []))
                  (a_holds.splits s h hu hr is_heap size parts used (plain_from x s hr (left_atoms g) _ (AllTrue-append s (left_pure g) (f ∷ []) l.pure_true (holds, tt)) l.atoms_hold))
              | inr fails ↦ wider (λ t k p. second_cases t k a.residue.cases (b.residue.cases ++ []) (first_cases t k b.residue.cases [] p))
                  (b_holds.splits s h hu hr is_heap size parts used (plain_from x s hr (left_atoms g) _ (AllTrue-append s (left_pure g) (pure_of.Not f ∷ []) l.pure_true ((true-Not s f).1 fails, tt)) l.atoms_hold))
            ];
      }
