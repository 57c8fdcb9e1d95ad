-- Answers of one node, from those of its parts.
use Rattle.std.specs.Prelude.{Bool, true, false}
use Rattle.hs_check.specs.declared.verdict.Reason.TheVariants as reason
use Rattle.hs_check.specs.declared.verdict.NodeAnswer.{NodeAnswer}
use Rattle.hs_check.specs.declared.verdict.NodeAnswer.TheVariants.{Right, Wrong, Numbers, Atoms, Wide}
use Rattle.hs_inv.specs.declared.answer.InvAnswer.{InvAnswer}
use Rattle.hs_inv.specs.declared.answer.InvAnswer.TheVariants as inv

-- the answer where a premise is missing: the tests before that of the premises stand
abbrev pub without_premise : NodeAnswer → NodeAnswer
without_premise (Wrong reason.Shape) = Wrong reason.Shape
without_premise (Wrong reason.Rule) = Wrong reason.Rule
without_premise a = Wrong reason.Premise

-- the answer to a rule of another kind, by whether the judgement has its shape
abbrev pub of_other_kind : Bool → NodeAnswer
of_other_kind true = Wrong reason.Rule
of_other_kind false = Wrong reason.Shape

-- the answer to the question of an invariant
abbrev pub of_invariant : InvAnswer → NodeAnswer
of_invariant inv.Shown = Right
of_invariant (inv.Fails v) = Wrong reason.Question
of_invariant inv.Atoms = Atoms
of_invariant inv.Wide = Wide
