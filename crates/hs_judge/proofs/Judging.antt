-- What the answers of the parts of a node say of it.
use Rattle.std.proofs.Common.{◌≡◌, ℕ, ◌<◌, Bool, true, false, IsTrue, ◌↔◌, List, [], ◌∷◌, map, length, Option, Some, None, IsSome, IsSomeAnd, refl, sym, ap, ◌∙◌, subst, arith}
use Rattle.std.specs.List.{All}
use Rattle.std.proofs.lemmas.List.Elements.{All-nil}
use Rattle.hs_pure.specs.Eval.{stack_of}
use Rattle.hs_heap.specs.declared.formula.Formula.{Formula}
use Rattle.hs_heap.specs.declared.definitions.PredDef.{PredDef}
use Rattle.hs_heap.specs.declared.definitions.Defs.{Defs}
use Rattle.hs_heap.specs.Meaning.{pred_at}
use Rattle.hs_goal.specs.declared.goal.Goal.{Goal}
use Rattle.hs_goal.specs.declared.rule.ERule.{ERule}
use Rattle.hs_goal.specs.Shape.{GoalFits}
use Rattle.hs_xpure.specs.Invariants.{InvariantFollows}
use Rattle.hs_rules.specs.Rules.{Judgement as OfGoal, Applies}
use Rattle.hs_rules.specs.Residues.{residue_of}
use Rattle.hs_erule.specs.Judged.{Premises, goals_of, residues_of, judgements_of, IsJudged as IsJudgedStep, Passes as PassesStep}
use Rattle.hs_decide.specs.Size.{size_of}
use Rattle.hs_decide.specs.Span.{SpanIsWide}
use Rattle.hs_inv.specs.declared.answer.InvAnswer.{InvAnswer}
use Rattle.hs_inv.specs.declared.answer.InvAnswer.TheVariants as inv
use Rattle.hs_inv.specs.Answer.{question_of as inv_question, IsInvAnswer}
use Rattle.hs_core.specs.declared.program.Program.{Program}
use Rattle.hs_core.specs.declared.state.At.{At}
use Rattle.hs_core.specs.declared.state.PRule.{PRule}
use Rattle.hs_program_rules.specs.States.{StateFits}
use Rattle.hs_prule.specs.Judged.{HasRule, IsJudged as IsJudgedRun}
use Rattle.hs_node.specs.declared.judgement.Judgement.{Judgement}
use Rattle.hs_node.specs.declared.judgement.Judgement.TheVariants.{Shown, Entails, Runs}
use Rattle.hs_node.specs.declared.judgement.Rule.{Rule}
use Rattle.hs_node.specs.declared.judgement.Rule.TheVariants.{Inv, E, P}
use Rattle.hs_node.specs.declared.derivation.Node.{Node}
use Rattle.hs_check.specs.declared.verdict.Reason.{Reason}
use Rattle.hs_check.specs.declared.verdict.Reason.TheVariants as reason
use Rattle.hs_check.specs.declared.verdict.NodeAnswer.{NodeAnswer}
use Rattle.hs_check.specs.declared.verdict.NodeAnswer.TheVariants as answer
use Rattle.hs_judge.specs.Named.{named, entailments, AreEarlier, IsEntailment}
use Rattle.hs_judge.specs.Told.{without_premise, of_other_kind, of_invariant}
use Rattle.hs_judge.specs.Right.{HasShape, RuleApplies, ArePremises, Passes, IsRight, Fails, IsJudged}
use Rattle.hs_judge.proofs.Naming.{named_few, all_earlier, earlier_are_named, entailments_few, all_entailments, entailments_are_all}

-- ---- a test that fails

-- a node that fails a test is not right
pub failing_is_wrong : (defs : Defs) (program : Program) (before : List Node) (j : Judgement) (rule : Rule) (ks : List ℕ) (r : Reason) →
    Fails defs program before j rule ks r → ¬ (IsRight defs program before j rule ks)
failing_is_wrong defs program before j rule ks reason.Shape f h = f h.passes.shape
failing_is_wrong defs program before j rule ks reason.Rule f h = f.1 h.passes.applies
failing_is_wrong defs program before j rule ks reason.Premise f h = f.2 h.passes.premises
failing_is_wrong defs program before j rule ks reason.Residue f h = f.3 h.passes.residue
failing_is_wrong defs program before j rule ks reason.Question f h = f.1 h.answered

-- a rule of another kind applies to nothing
pub of_other_kind_is : (defs : Defs) (program : Program) (before : List Node) (j : Judgement) (rule : Rule) (ks : List ℕ) (atoms : ℕ) (shape : Bool) →
    (IsTrue shape ↔ HasShape defs program j) → ¬ (RuleApplies defs program j rule (named before ks)) →
    IsJudged defs program before j rule ks atoms (of_other_kind shape)
of_other_kind_is defs program before j rule ks atoms true same other = (same.0 refl, other)
of_other_kind_is defs program before j rule ks atoms false same other = λ h. let is : IsTrue false = same.1 h in absurd cc

-- ---- invariants

module _ (defs : Defs) (program : Program) (before : List Node) (pred : ℕ) (p : PredDef) (there : pred_at defs pred ≡ Some p) (atoms : ℕ) where
  abbrev Judged : NodeAnswer → Type 0
  Judged a = IsJudged defs program before (Shown pred) Inv [] atoms a

  passing : Passes defs program before (Shown pred) Inv []
  passing = record {
    shape = subst IsSome (sym there) refl;
    applies = tt;
    premises = record { earlier = earlier; stated = refl };
    residue = tt;
  }
    where
      earlier : AreEarlier before []
      earlier = λ i d less. absurd (omega (arith, less))

  pub invariant_is : (r : InvAnswer) → IsInvAnswer defs p atoms r → Judged (of_invariant r)
  invariant_is inv.Shown h = record { passes = passing; answered = subst (λ (o : Option PredDef). IsSomeAnd o (InvariantFollows defs)) (sym there) h }
  invariant_is (inv.Fails v) h = (passing, λ yes. h.1 (subst (λ (o : Option PredDef). IsSomeAnd o (InvariantFollows defs)) there yes (stack_of v) h.0))
  invariant_is inv.Atoms h = (passing, subst (λ (o : Option PredDef). IsSomeAnd o (λ q. atoms < size_of (inv_question defs q))) (sym there) h)
  invariant_is inv.Wide h = (passing, subst (λ (o : Option PredDef). IsSomeAnd o (λ q. SpanIsWide (inv_question defs q))) (sym there) h)

-- the answer to the question of a predicate that is there
pub invariant_answered : (defs : Defs) (program : Program) (before : List Node) (pred : ℕ) (ks : List ℕ) (atoms : ℕ) (r : InvAnswer) → IsSome (pred_at defs pred) → ks ≡ [] →
    ((p : PredDef) → pred_at defs pred ≡ Some p → IsInvAnswer defs p atoms r) → IsJudged defs program before (Shown pred) Inv ks atoms (of_invariant r)
invariant_answered defs program before pred ks atoms r there none is =
    subst (λ (ns : List ℕ). IsJudged defs program before (Shown pred) Inv ns atoms (of_invariant r)) (sym none) (by (pred_at defs pred) refl there)
  where
    by : (o : Option PredDef) → pred_at defs pred ≡ o → IsSome o → IsJudged defs program before (Shown pred) Inv [] atoms (of_invariant r)
    by None at some = absurd cc
    by (Some p) at some = invariant_is defs program before pred p at atoms r (is p at)

-- a premise of a node that shows an invariant is one too many
pub no_premise : (defs : Defs) (program : Program) (before : List Node) (pred : ℕ) (ks : List ℕ) (atoms : ℕ) → IsSome (pred_at defs pred) → ¬ (ks ≡ []) →
    IsJudged defs program before (Shown pred) Inv ks atoms (answer.Wrong reason.Premise)
no_premise defs program before pred ks atoms there some = (there, tt, λ h. some (none ks (sym (ap length h.stated) ∙ earlier_are_named before ks h.earlier)))
  where
    none : (ns : List ℕ) → 0 ≡ length ns → ns ≡ []
    none [] e = refl
    none (n ∷ ns) e = absurd (omega (arith, e))

-- ---- entailments

pub goals_told : (ps : Premises) → map (λ (p : OfGoal). p.goal) (judgements_of ps) ≡ goals_of ps
goals_told [] = refl
goals_told (p ∷ ps) = ap (λ (gs : List Goal). p.0 ∷ gs) (goals_told ps)

pub residues_told : (ps : Premises) → map (λ (p : OfGoal). p.residue) (judgements_of ps) ≡ residues_of ps
residues_told [] = refl
residues_told (p ∷ ps) = ap (λ (rs : List Formula). p.1 ∷ rs) (residues_told ps)

module _ (defs : Defs) (program : Program) (before : List Node) (g : Goal) (residue : Formula) (rule : ERule) (ks : List ℕ) (atoms : ℕ) where
  abbrev pairs : Premises
  pairs = entailments (named before ks)

  abbrev OfStep : NodeAnswer → Type 0
  OfStep a = IsJudgedStep defs g residue rule pairs atoms a

  abbrev OfNode : NodeAnswer → Type 0
  OfNode a = IsJudged defs program before (Entails g residue) (E rule) ks atoms a

  -- all numbers name entailments where there are as many of these
  all_named : length pairs ≡ length ks → AreEarlier before ks × All IsEntailment (named before ks)
  all_named e =
      let few = named_few before ks in
      let fewer = entailments_few (named before ks) in
      (all_earlier before ks (omega (arith, e, few, fewer)), all_entailments (named before ks) (omega (arith, e, few, fewer)))

  module _ (e : length pairs ≡ length ks) where
    passes_node : PassesStep defs g residue rule pairs → Passes defs program before (Entails g residue) (E rule) ks
    passes_node h = record {
      shape = h.shape;
      applies = h.applies;
      premises = record { earlier = (all_named e).0; stated = ((all_named e).1, h.goals_are) };
      residue = h.residue_is;
    }

    pub whole_step : (a : NodeAnswer) → OfStep a → OfNode a
    whole_step answer.Right h = record {
      passes = passes_node (record { shape = h.shape; applies = h.applies; goals_are = sym (goals_told pairs) ∙ h.goals_are; residue_is = h.residue_is ∙ ap (residue_of g rule) (residues_told pairs) });
      answered = h.answered;
    }
    whole_step (answer.Wrong reason.Shape) h = h
    whole_step (answer.Wrong reason.Rule) h = h
    whole_step (answer.Wrong reason.Premise) h = (h.0, h.1, λ p. h.2 p.stated.1)
    whole_step (answer.Wrong reason.Residue) h = (h.0, h.1, record { earlier = (all_named e).0; stated = ((all_named e).1, h.2) }, h.3)
    whole_step (answer.Wrong reason.Question) h = (passes_node h.0, h.1)
    whole_step answer.Numbers h = (passes_node h.0, h.1)
    whole_step answer.Atoms h = (passes_node h.0, h.1)
    whole_step answer.Wide h = (passes_node h.0, h.1)

  module _ (part : ¬ (length pairs ≡ length ks)) where
    lacks : GoalFits defs g → Applies defs g rule → OfNode (answer.Wrong reason.Premise)
    lacks shape applies = (shape, applies, λ p. part (entailments_are_all (named before ks) p.stated.0 ∙ earlier_are_named before ks p.earlier))

    pub part_of_step : (a : NodeAnswer) → OfStep a → OfNode (without_premise a)
    part_of_step answer.Right h = lacks h.shape h.applies
    part_of_step (answer.Wrong reason.Shape) h = h
    part_of_step (answer.Wrong reason.Rule) h = h
    part_of_step (answer.Wrong reason.Premise) h = lacks h.0 h.1
    part_of_step (answer.Wrong reason.Residue) h = lacks h.0 h.1
    part_of_step (answer.Wrong reason.Question) h = lacks h.0.shape h.0.applies
    part_of_step answer.Numbers h = lacks h.0.shape h.0.applies
    part_of_step answer.Atoms h = lacks h.0.shape h.0.applies
    part_of_step answer.Wide h = lacks h.0.shape h.0.applies

-- ---- states

module _ (defs : Defs) (program : Program) (before : List Node) (at : At) (rule : PRule) (ks : List ℕ) (atoms : ℕ) where
  abbrev OfRun : NodeAnswer → Type 0
  OfRun a = IsJudgedRun defs program at rule (named before ks) a

  abbrev OfState : NodeAnswer → Type 0
  OfState a = IsJudged defs program before (Runs at) (P rule) ks atoms a

  pub whole_run : length (named before ks) ≡ length ks → (a : NodeAnswer) → OfRun a → OfState a
  whole_run e answer.Right h = record {
    passes = record { shape = h.fits; applies = h.applies; premises = record { earlier = all_earlier before ks e; stated = h.premises_are }; residue = tt };
    answered = tt;
  }
  whole_run e (answer.Wrong reason.Shape) h = h
  whole_run e (answer.Wrong reason.Rule) h = h
  whole_run e (answer.Wrong reason.Premise) h = (h.0, h.1, λ p. h.2 p.stated)
  whole_run e (answer.Wrong reason.Residue) h = absurd h
  whole_run e (answer.Wrong reason.Question) h = absurd h
  whole_run e answer.Numbers h = absurd h
  whole_run e answer.Atoms h = absurd h
  whole_run e answer.Wide h = absurd h

  module _ (part : ¬ (length (named before ks) ≡ length ks)) where
    lacks_one : StateFits defs program at → HasRule defs program at rule (named before ks) → OfState (answer.Wrong reason.Premise)
    lacks_one shape applies = (shape, applies, λ p. part (earlier_are_named before ks p.earlier))

    pub part_of_run : (a : NodeAnswer) → OfRun a → OfState (without_premise a)
    part_of_run answer.Right h = lacks_one h.fits h.applies
    part_of_run (answer.Wrong reason.Shape) h = h
    part_of_run (answer.Wrong reason.Rule) h = h
    part_of_run (answer.Wrong reason.Premise) h = lacks_one h.0 h.1
    part_of_run (answer.Wrong reason.Residue) h = absurd h
    part_of_run (answer.Wrong reason.Question) h = absurd h
    part_of_run answer.Numbers h = absurd h
    part_of_run answer.Atoms h = absurd h
    part_of_run answer.Wide h = absurd h

-- ---- the same of equal lists

module _ (defs : Defs) (program : Program) (before : List Node) (g : Goal) (residue : Formula) (rule : ERule) (ks : List ℕ) (atoms : ℕ) where
  pub step_whole : (ps : Premises) (a : NodeAnswer) → ps ≡ entailments (named before ks) → length ps ≡ length ks → IsJudgedStep defs g residue rule ps atoms a →
      IsJudged defs program before (Entails g residue) (E rule) ks atoms a
  step_whole ps a is e h =
      whole_step defs program before g residue rule ks atoms (sym (ap length is) ∙ e) a (subst (λ (qs : Premises). IsJudgedStep defs g residue rule qs atoms a) is h)

  pub step_part : (ps : Premises) (a : NodeAnswer) → ps ≡ entailments (named before ks) → ¬ (length ps ≡ length ks) → IsJudgedStep defs g residue rule ps atoms a →
      IsJudged defs program before (Entails g residue) (E rule) ks atoms (without_premise a)
  step_part ps a is e h =
      part_of_step defs program before g residue rule ks atoms (λ f. e (ap length is ∙ f)) a (subst (λ (qs : Premises). IsJudgedStep defs g residue rule qs atoms a) is h)

module _ (defs : Defs) (program : Program) (before : List Node) (at : At) (rule : PRule) (ks : List ℕ) (atoms : ℕ) where
  pub run_whole : (js : List Judgement) (a : NodeAnswer) → js ≡ named before ks → length js ≡ length ks → IsJudgedRun defs program at rule js a →
      IsJudged defs program before (Runs at) (P rule) ks atoms a
  run_whole js a is e h =
      whole_run defs program before at rule ks atoms (sym (ap length is) ∙ e) a (subst (λ (qs : List Judgement). IsJudgedRun defs program at rule qs a) is h)

  pub run_part : (js : List Judgement) (a : NodeAnswer) → js ≡ named before ks → ¬ (length js ≡ length ks) → IsJudgedRun defs program at rule js a →
      IsJudged defs program before (Runs at) (P rule) ks atoms (without_premise a)
  run_part js a is e h =
      part_of_run defs program before at rule ks atoms (λ f. e (ap length is ∙ f)) a (subst (λ (qs : List Judgement). IsJudgedRun defs program at rule qs a) is h)
