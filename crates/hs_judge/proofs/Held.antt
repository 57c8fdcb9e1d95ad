-- What right nodes say is true, by induction on their places.
use Rattle.std.proofs.Common.{◌≡◌, ℕ, zero, suc, ◌+◌, ◌<◌, ◌≤◌, List, [], ◌∷◌, map, length, take, slice_get, Option, Some, None, IsSomeAnd, refl, sym, ap, ◌∙◌, subst, inl, inr, arith}
use Rattle.std.specs.List.{All, AllByRecursion}
use Rattle.std.proofs.lemmas.Option.{slice_get_within}
use Rattle.hs_heap.specs.declared.formula.Formula.{Formula}
use Rattle.hs_heap.specs.declared.definitions.Lemma.{Lemma}
use Rattle.hs_heap.specs.declared.definitions.Defs.{Defs}
use Rattle.hs_heap.specs.Instance.{lemma_at}
use Rattle.hs_heap.specs.Sound.{IsSound}
use Rattle.hs_xpure.specs.Invariants.{InvariantsHold}
use Rattle.hs_goal.specs.declared.goal.Goal.{Goal}
use Rattle.hs_goal.specs.declared.rule.ERule.{ERule}
use Rattle.hs_goal.specs.Goal.{Holds, IsFreshResidue}
use Rattle.hs_rules.specs.Residues.{residue_of}
use Rattle.hs_rules.specs.Rules.{Judgement as OfGoal, IsRightStep}
use Rattle.hs_rules.specs.Laws.{LemmasHold, RightStepsKeepMeaning, RightStepsStayFresh}
use Rattle.hs_erule.specs.Judged.{Premises, goals_of, residues_of, judgements_of}
use Rattle.hs_core.specs.declared.program.Program.{Program}
use Rattle.hs_core.specs.declared.state.At.{At}
use Rattle.hs_core.specs.declared.state.PRule.{PRule}
use Rattle.hs_program_rules.specs.States.{no_formula}
use Rattle.hs_program_rules.specs.Table.{goal_of, premises_of}
use Rattle.hs_program_rules.specs.Laws.{Entailed, IsAsked, Concluded, AllConcluded}
use Rattle.hs_program_rules.specs.Laws as rules
use Rattle.hs_prule.specs.Judged.{Gives, further, HasRule, HasPremises}
use Rattle.hs_node.specs.declared.judgement.Judgement.{Judgement}
use Rattle.hs_node.specs.declared.judgement.Judgement.TheVariants.{Shown, Entails, Runs}
use Rattle.hs_node.specs.declared.judgement.Rule.{Rule}
use Rattle.hs_node.specs.declared.judgement.Rule.TheVariants.{Inv, E, P}
use Rattle.hs_node.specs.declared.derivation.Node.{Node}
use Rattle.hs_judge.specs.Named.{item_at, in_front, named, IsEntailment, goal_and_residue, entailments}
use Rattle.hs_judge.specs.Right.{IsRight}
use Rattle.hs_judge.specs.Listed.{IsAt}
use Rattle.hs_judge.proofs.Judging.{goals_told, residues_told}
use Rattle.hs_judge.proofs.Placing.{of_place, get_taken}
use Rattle.hs_judge.proofs.Found.{up_to_more}

-- ---- lemmas

none_there : (defs : Defs) → defs.lemmas ≡ [] → (j : ℕ) → lemma_at defs j ≡ None
none_there defs e zero = refl
none_there defs e (suc n) = ap (λ (ls : List Lemma). slice_get ls n) e

-- without lemmas all lemmas hold
pub no_lemmas : (defs : Defs) → defs.lemmas ≡ [] → LemmasHold defs
no_lemmas defs e size j l at = let never : None ≡ Some l = sym (none_there defs e j) ∙ at in absurd cc

-- ---- what a judgement says

module _ (defs : Defs) (program : Program) where
  -- goals hold with fresh residues, and states are concluded
  abbrev pub IsTold : Judgement → Type 0
  IsTold (Shown pred) = Unit {0}
  IsTold (Entails g residue) = Entailed defs g residue
  IsTold (Runs at) = Concluded defs program at

  abbrev AreTold : List Judgement → Type 0
  AreTold = AllByRecursion IsTold

  -- ---- by a rule of entailments

  all_hold : (js : List Judgement) → AreTold js → AllByRecursion (λ (p : OfGoal). Holds defs p.goal p.residue) (judgements_of (entailments js))
  all_hold [] h = tt
  all_hold (Shown pred ∷ js) h = tt
  all_hold (Entails g residue ∷ js) h = (h.0.holds, all_hold js h.1)
  all_hold (Runs at ∷ js) h = tt

  all_fresh : (js : List Judgement) → AreTold js → AllByRecursion (λ (p : OfGoal). IsFreshResidue p.goal p.residue) (judgements_of (entailments js))
  all_fresh [] h = tt
  all_fresh (Shown pred ∷ js) h = tt
  all_fresh (Entails g residue ∷ js) h = (h.0.fresh, all_fresh js h.1)
  all_fresh (Runs at ∷ js) h = tt

  module _ (sound : IsSound defs) (none : defs.lemmas ≡ []) (known : InvariantsHold defs) (keep : RightStepsKeepMeaning) (fresh : RightStepsStayFresh) where
    module _ (before : List Node) (ks : List ℕ) (told : AreTold (named before ks)) where
      step_of : (g : Goal) (residue : Formula) (rule : ERule) → IsRight defs program before (Entails g residue) (E rule) ks →
          IsRightStep defs g residue rule (judgements_of (entailments (named before ks)))
      step_of g residue rule h =
          let ps : Premises = entailments (named before ks) in
          record {
            shape = h.passes.shape;
            applies = h.passes.applies;
            goals_are = goals_told ps ∙ h.passes.premises.stated.1;
            residue_is = h.passes.residue ∙ ap (residue_of g rule) (sym (residues_told ps));
            answered = h.answered;
          }

      entailed_is : (g : Goal) (residue : Formula) (rule : ERule) → IsRight defs program before (Entails g residue) (E rule) ks → Entailed defs g residue
      entailed_is g residue rule h =
          let step = step_of g residue rule h in
          record {
            holds = keep defs sound known (no_lemmas defs none) g residue rule (judgements_of (entailments (named before ks))) step (all_hold (named before ks) told);
            fresh = fresh defs sound g residue rule (judgements_of (entailments (named before ks))) step (all_fresh (named before ks) told);
          }

      -- ---- by a rule of programs

      asked_is : (at : At) (rule : PRule) (residue : Formula) (o : Option Goal) (js : List Judgement) → AreTold js → Gives defs program at rule o js residue →
          IsAsked (Entailed defs) o residue
      asked_is at rule residue None js all gives = tt
      asked_is at rule residue (Some g) [] all gives = absurd gives
      asked_is at rule residue (Some g) (j ∷ js) all gives = subst IsTold gives all.0

      others_told : (at : At) (rule : PRule) (o : Option Goal) (js : List Judgement) → AreTold js → AreTold (further defs program at rule o js)
      others_told at rule None js all = all
      others_told at rule (Some g) [] all = tt
      others_told at rule (Some g) (j ∷ js) all = all.1

      all_concluded : (ps : List At) → AreTold (map (λ p. Runs p) ps) → AllConcluded defs program ps
      all_concluded [] h = AllConcluded.nothing
      all_concluded (p ∷ ps) h = AllConcluded.more h.0 (all_concluded ps h.1)

      concluded_is : (at : At) (rule : PRule) → IsRight defs program before (Runs at) (P rule) ks → Concluded defs program at
      concluded_is at rule h =
          let applies : HasRule defs program at rule (named before ks) = h.passes.applies in
          let are : HasPremises defs program at rule (named before ks) = h.passes.premises.stated in
          let next : List At = premises_of defs program at rule are.residue in
          Concluded.by at rule next (record {
            fits = h.passes.shape;
            form = applies.asks.form;
            residue = are.residue;
            goal = asked_is at rule are.residue (goal_of defs program at rule) (named before ks) told are.gives;
            premises_are = refl;
            goal_low = applies.asks.low;
            low = applies.low are.residue are.gives;
          })
          (all_concluded next (subst AreTold are.others (others_told at rule (goal_of defs program at rule) (named before ks) told)))

      -- ---- by either

      judgement_is : (j : Judgement) (rule : Rule) → IsRight defs program before j rule ks → IsTold j
      judgement_is (Shown pred) rule h = tt
      judgement_is (Entails g residue) Inv h = absurd h.passes.applies
      judgement_is (Entails g residue) (E rule) h = entailed_is g residue rule h
      judgement_is (Entails g residue) (P rule) h = absurd h.passes.applies
      judgement_is (Runs at) Inv h = absurd h.passes.applies
      judgement_is (Runs at) (E rule) h = absurd h.passes.applies
      judgement_is (Runs at) (P rule) h = concluded_is at rule h

    -- ---- nodes

    module _ (nodes : List Node) (right : (i : ℕ) → i < length nodes → IsAt (λ before n. IsRight defs program before n.judgement n.rule n.premises) nodes i) where
      abbrev ToldBelow : ℕ → Type 0
      ToldBelow i = (l : ℕ) (n : Node) → l < i → slice_get nodes l ≡ Some n → IsTold n.judgement

      node_told : (i : ℕ) → ToldBelow i → (k : ℕ) (n : Node) → item_at (take i nodes) k ≡ Some n → IsTold n.judgement
      node_told i below zero n e = absurd cc
      node_told i below (suc l) n e = let at = get_taken nodes i l n e in below l n at.0 at.1

      told_in_front : (i : ℕ) → ToldBelow i → (k : ℕ) (js : List Judgement) → AreTold js → (o : Option Node) → item_at (take i nodes) k ≡ o → AreTold (in_front o js)
      told_in_front i below k js all None is = tt
      told_in_front i below k js all (Some n) is = (node_told i below k n is, all)

      named_told : (i : ℕ) → ToldBelow i → (ks : List ℕ) → AreTold (named (take i nodes) ks)
      named_told i below [] = tt
      named_told i below (k ∷ ks) = told_in_front i below k (named (take i nodes) ks) (named_told i below ks) (item_at (take i nodes) k) refl

      told_at : (i : ℕ) → ToldBelow i → (n : Node) → slice_get nodes i ≡ Some n → IsTold n.judgement
      told_at i below n e =
          judgement_is (take i nodes) n.premises (named_told i below n.premises) n.judgement n.rule
          (of_place (λ before m. IsRight defs program before m.judgement m.rule m.premises) nodes i n e (right i (slice_get_within nodes i n e)))

      told_below : (i : ℕ) → ToldBelow i
      told_below zero l n less e = absurd (omega (arith, less))
      told_below (suc i) l n less e = elim (up_to_more (suc l) i less) [
        | inl low ↦ told_below i l n low e
        | inr is ↦ let same : l ≡ i = omega (arith, is) in told_at l (subst ToldBelow (sym same) (told_below i)) n e
      ]

      -- each node of a list of right nodes is true
      pub node_is : (i : ℕ) (n : Node) → slice_get nodes i ≡ Some n → IsTold n.judgement
      node_is i n e = told_below (length nodes) i n (slice_get_within nodes i n e) e
