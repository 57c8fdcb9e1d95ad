-- Each derivation of a goal is a proof of it, with the residue that it shows.
use Rattle.std.proofs.Common.{◌≡◌, ◌≤◌, ◌^◌, true, List, [], ◌∷◌, map, refl, sym, ap, subst}
use Rattle.std.specs.List.{All, AllByRecursion, AllZip, Contains}
use Rattle.std.proofs.lemmas.List.Elements.{All-contains, recursion_from_All}
use Rattle.hs_heap.specs.declared.formula.Formula.{Formula}
use Rattle.hs_heap.specs.declared.definitions.Defs.{Defs}
use Rattle.hs_goal.specs.declared.goal.Goal.{Goal}
use Rattle.hs_goal.specs.declared.rule.ERule.{ERule}
use Rattle.hs_goal.specs.declared.rule.Limits.{Limits}
use Rattle.hs_rules.specs.Conditions.{HasCondition}
use Rattle.hs_rules.specs.Subgoals.{subgoals_of}
use Rattle.hs_rules.specs.Residues.{residue_of}
use Rattle.hs_rules.specs.Rules.{Applies, Judgement, IsRightStep}
use Rattle.hs_rules.specs.Laws.{SubgoalsAreWellFormed}
use Rattle.hs_erule.specs.declared.step.Proof.{Proof}
use Rattle.hs_steps.specs.Steps.{IsProofOf}
use Rattle.hs_steps.specs.Joined.{residue_shown}
use Rattle.hs_steps.specs.Laws.{AreProofsOf, JoinedProofsAreProofs, ResidueIsShown}
use Rattle.hs_choices.specs.Choices.{choices}
use Rattle.hs_choices.specs.Laws.{ChoicesHaveConditions, QuestionsAreTold}
use Rattle.hs_search.specs.Entailments.{holds, subgoals_with_room, proof_by}
use Rattle.hs_search.specs.Sleek.{IsSleekGoal}
use Rattle.hs_search.proofs.Rooms.{holds_parts, room_from, with_room}

-- a proof of a goal, with the residue that it shows
abbrev pub Proves : Defs → Goal → Proof → Type 0
Proves defs g p = IsProofOf defs g (residue_shown p) p

-- goals with the residues that proofs show
abbrev judgements : List Goal → List Proof → List Judgement
judgements [] ps = []
judgements (g ∷ gs) [] = []
judgements (g ∷ gs) (p ∷ ps) = record { goal = g; residue = residue_shown p } ∷ judgements gs ps

module _ (defs : Defs) where
  goals_of : (gs : List Goal) (ps : List Proof) → AllZip (Proves defs) gs ps → map (λ (j : Judgement). j.goal) (judgements gs ps) ≡ gs
  goals_of [] ps h = refl
  goals_of (g ∷ gs) [] h = absurd h
  goals_of (g ∷ gs) (p ∷ ps) h = ap (λ (rest : List Goal). g ∷ rest) (goals_of gs ps h.1)

  residues_of : (gs : List Goal) (ps : List Proof) → AllZip (Proves defs) gs ps → map (λ (j : Judgement). j.residue) (judgements gs ps) ≡ map residue_shown ps
  residues_of [] [] h = refl
  residues_of [] (p ∷ ps) h = absurd h
  residues_of (g ∷ gs) [] h = absurd h
  residues_of (g ∷ gs) (p ∷ ps) h = ap (λ (rest : List Formula). residue_shown p ∷ rest) (residues_of gs ps h.1)

  are_proofs : (gs : List Goal) (ps : List Proof) → AllZip (Proves defs) gs ps → AreProofsOf defs (judgements gs ps) ps
  are_proofs [] [] h = tt
  are_proofs [] (p ∷ ps) h = absurd h
  are_proofs (g ∷ gs) [] h = absurd h
  are_proofs (g ∷ gs) (p ∷ ps) h = (h.0, are_proofs gs ps h.1)

-- ---- what a choice hands on

module _ (conditions : ChoicesHaveConditions) (defs : Defs) (limits : Limits) where
  pub choice_applies : (g : Goal) (rule : ERule) → IsSleekGoal defs limits g → Contains (choices defs limits.level g) rule
      → All (λ (sub : Goal). sub.next ≤ 2 ^ 30) (subgoals_of defs g rule) → Applies defs g rule
  choice_applies g rule is choice room = record {
    condition = All-contains (HasCondition defs g) (choices defs limits.level g) rule (conditions defs limits.level is.limits_fit.level g) choice;
    room = room;
  }

  module _ (well_formed : SubgoalsAreWellFormed) where
    pub subgoals_are_goals : (g : Goal) (rule : ERule) → IsSleekGoal defs limits g → Contains (choices defs limits.level g) rule
        → Applies defs g rule → All (IsSleekGoal defs limits) (subgoals_of defs g rule)
    subgoals_are_goals g rule is choice applies = λ k d low.
        record {
          sound = is.sound;
          limits_fit = is.limits_fit;
          fits = well_formed defs is.sound g rule is.fits applies k d low;
        }

    pub kept : (g : Goal) (rule : ERule) → IsSleekGoal defs limits g → Contains (choices defs limits.level g) rule → holds defs g rule ≡ true
        → AllByRecursion (IsSleekGoal defs limits) (subgoals_with_room defs g rule)
    kept g rule is choice granted =
        let room = (holds_parts defs g rule granted).0 in
        subst (AllByRecursion (IsSleekGoal defs limits)) (sym (with_room defs g rule room))
        (recursion_from_All (IsSleekGoal defs limits) (subgoals_of defs g rule) (subgoals_are_goals g rule is choice (choice_applies g rule is choice (room_from defs g rule room))))

  module _ (told : QuestionsAreTold) (joined : JoinedProofsAreProofs) (shown : ResidueIsShown) where
    -- the step that concludes from proofs of the subgoals is right
    right_step : (g : Goal) (rule : ERule) (parts : List Proof) → IsSleekGoal defs limits g → Contains (choices defs limits.level g) rule → holds defs g rule ≡ true
        → AllZip (Proves defs) (subgoals_of defs g rule) parts
        → IsRightStep defs g (residue_of g rule (map residue_shown parts)) rule (judgements (subgoals_of defs g rule) parts)
    right_step g rule parts is choice granted zip =
        let both = holds_parts defs g rule granted in
        record {
          shape = is.fits;
          applies = choice_applies g rule is choice (room_from defs g rule both.0);
          goals_are = goals_of defs (subgoals_of defs g rule) parts zip;
          residue_is = ap (residue_of g rule) (sym (residues_of defs (subgoals_of defs g rule) parts zip));
          answered = (told defs is.sound g is.fits rule (choice_applies g rule is choice (room_from defs g rule both.0)).condition).0 both.1;
        }

    pub step_proves : (g : Goal) (rule : ERule) (parts : List Proof) → IsSleekGoal defs limits g → Contains (choices defs limits.level g) rule → holds defs g rule ≡ true
        → AllZip (Proves defs) (subgoals_with_room defs g rule) parts → Proves defs g (proof_by g rule parts)
    step_proves g rule parts is choice granted zip =
        let room = (holds_parts defs g rule granted).0 in
        let all : AllZip (Proves defs) (subgoals_of defs g rule) parts = subst (λ (gs : List Goal). AllZip (Proves defs) gs parts) (with_room defs g rule room) zip in
        let residue : Formula = residue_of g rule (map residue_shown parts) in
        let proof : IsProofOf defs g residue (proof_by g rule parts)
        = joined defs g residue rule (judgements (subgoals_of defs g rule) parts) parts (are_proofs defs (subgoals_of defs g rule) parts all) (right_step g rule parts is choice granted all) in
        subst (λ (r : Formula). IsProofOf defs g r (proof_by g rule parts)) (sym (shown defs g residue (proof_by g rule parts) proof)) proof
