-- When a node is right beside the nodes before it: five tests, one after another.
use Rattle.std.specs.Prelude.{◌≡◌, ℕ, ◌<◌, List, [], IsSome, IsSomeAnd}
use Rattle.std.specs.List.{All}
use Rattle.hs_heap.specs.declared.definitions.Defs.{Defs}
use Rattle.hs_heap.specs.Meaning.{pred_at}
use Rattle.hs_goal.specs.Shape.{GoalFits}
use Rattle.hs_xpure.specs.Invariants.{InvariantFollows}
use Rattle.hs_rules.specs.Rules.{Applies, TakesTooMany}
use Rattle.hs_rules.specs.Questions.{question_of, IsAnswered}
use Rattle.hs_erule.specs.Judged.{OfQuestion, TakesMoreAtoms, IsWideQuestion, GoalsAre, ResidueIs}
use Rattle.hs_decide.specs.Size.{size_of}
use Rattle.hs_decide.specs.Span.{SpanIsWide}
use Rattle.hs_inv.specs.Answer.{question_of as inv_question}
use Rattle.hs_core.specs.declared.program.Program.{Program}
use Rattle.hs_program_rules.specs.States.{StateFits}
use Rattle.hs_prule.specs.Judged.{HasRule, HasPremises}
use Rattle.hs_node.specs.declared.judgement.Judgement.{Judgement}
use Rattle.hs_node.specs.declared.judgement.Judgement.TheVariants.{Shown, Entails, Runs}
use Rattle.hs_node.specs.declared.judgement.Rule.{Rule}
use Rattle.hs_node.specs.declared.judgement.Rule.TheVariants.{Inv, E, P}
use Rattle.hs_node.specs.declared.derivation.Node.{Node}
use Rattle.hs_check.specs.declared.verdict.Reason.{Reason}
use Rattle.hs_check.specs.declared.verdict.Reason.TheVariants as reason
use Rattle.hs_check.specs.declared.verdict.Spent.{Spent}
use Rattle.hs_check.specs.declared.verdict.Spent.TheVariants as spent
use Rattle.hs_check.specs.declared.verdict.NodeAnswer.{NodeAnswer}
use Rattle.hs_check.specs.declared.verdict.NodeAnswer.TheVariants as answer
use Rattle.hs_judge.specs.Named.{named, AreEarlier, IsEntailment, entailments}

module _ (defs : Defs) (program : Program) where
  -- ---- the tests, by judgement and rule, beside the judgements that the premises name

  -- the predicate is there, the goal or the state is well formed
  abbrev pub HasShape : Judgement → Type 0
  HasShape (Shown pred) = IsSome (pred_at defs pred)
  HasShape (Entails g residue) = GoalFits defs g
  HasShape (Runs at) = StateFits defs program at

  -- the rule is of the judgement's kind, and applies
  abbrev pub RuleApplies : Judgement → Rule → List Judgement → Type 0
  RuleApplies (Shown pred) Inv js = Unit {0}
  RuleApplies (Entails g residue) (E rule) js = Applies defs g rule
  RuleApplies (Runs at) (P rule) js = HasRule defs program at rule js
  RuleApplies j rule js = ⊥

  -- the judgements are those that the rule states, in order
  abbrev pub AreStated : Judgement → Rule → List Judgement → Type 0
  AreStated (Shown pred) Inv js = js ≡ []
  AreStated (Entails g residue) (E rule) js = All IsEntailment js × GoalsAre defs g rule (entailments js)
  AreStated (Runs at) (P rule) js = HasPremises defs program at rule js
  AreStated j rule js = ⊥

  -- the residue of an entailment is the one that the rule states
  abbrev pub HasResidue : Judgement → Rule → List Judgement → Type 0
  HasResidue (Entails g residue) (E rule) js = ResidueIs g residue rule (entailments js)
  HasResidue j rule js = Unit {0}

  -- the question of an invariant or of an entailment rule has the answer yes
  abbrev pub IsTrueOf : Judgement → Rule → Type 0
  IsTrueOf (Shown pred) Inv = IsSomeAnd (pred_at defs pred) (InvariantFollows defs)
  IsTrueOf (Entails g residue) (E rule) = IsAnswered (question_of defs g rule)
  IsTrueOf j rule = Unit {0}

  -- that question passes a bound
  abbrev pub PassesBound : ℕ → Judgement → Rule → Spent → Type 0
  PassesBound atoms (Shown pred) Inv spent.Atoms = IsSomeAnd (pred_at defs pred) (λ p. atoms < size_of (inv_question defs p))
  PassesBound atoms (Shown pred) Inv spent.Wide = IsSomeAnd (pred_at defs pred) (λ p. SpanIsWide (inv_question defs p))
  PassesBound atoms (Entails g residue) (E rule) spent.Numbers = TakesTooMany defs g rule
  PassesBound atoms (Entails g residue) (E rule) spent.Atoms = OfQuestion (TakesMoreAtoms atoms) (question_of defs g rule)
  PassesBound atoms (Entails g residue) (E rule) spent.Wide = OfQuestion IsWideQuestion (question_of defs g rule)
  PassesBound atoms j rule s = ⊥

  -- ---- a node with a judgement, a rule and the numbers of its premises, behind others

  module _ (before : List Node) (j : Judgement) (rule : Rule) (ks : List ℕ) where
    -- every premise is a node before this one, and these are what the rule states
    pub record ArePremises : Type 0 where
      pub earlier : AreEarlier before ks
      pub stated : AreStated j rule (named before ks)

    -- all tests but that of the question
    pub record Passes : Type 0 where
      pub shape : HasShape j
      pub applies : RuleApplies j rule (named before ks)
      pub premises : ArePremises
      pub residue : HasResidue j rule (named before ks)

    pub record IsRight : Type 0 where
      pub passes : Passes
      pub answered : IsTrueOf j rule

    -- the first test that fails, with those before it
    abbrev pub Fails : Reason → Type 0
    Fails reason.Shape = ¬ (HasShape j)
    Fails reason.Rule = HasShape j × ¬ (RuleApplies j rule (named before ks))
    Fails reason.Premise = HasShape j × RuleApplies j rule (named before ks) × ¬ ArePremises
    Fails reason.Residue = HasShape j × RuleApplies j rule (named before ks) × ArePremises × ¬ (HasResidue j rule (named before ks))
    Fails reason.Question = Passes × ¬ (IsTrueOf j rule)

    -- only the question is left, and it passes a bound
    abbrev pub Stops : ℕ → Spent → Type 0
    Stops atoms s = Passes × PassesBound atoms j rule s

    -- what is answered of a node
    abbrev pub IsJudged : ℕ → NodeAnswer → Type 0
    IsJudged atoms answer.Right = IsRight
    IsJudged atoms (answer.Wrong r) = Fails r
    IsJudged atoms answer.Numbers = Stops atoms spent.Numbers
    IsJudged atoms answer.Atoms = Stops atoms spent.Atoms
    IsJudged atoms answer.Wide = Stops atoms spent.Wide
