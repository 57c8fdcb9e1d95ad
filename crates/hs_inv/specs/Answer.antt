-- What is answered of an invariant.
use Rattle.std.specs.Prelude.{ℕ, ◌<◌}
use Rattle.hs_pure.specs.Assertion.{Assertion, assertion_of}
use Rattle.hs_pure.specs.Eval.{stack_of}
use Rattle.hs_pure.specs.Truth.{TrueAt}
use Rattle.hs_heap.specs.declared.definitions.PredDef.{PredDef}
use Rattle.hs_heap.specs.declared.definitions.Defs.{Defs}
use Rattle.hs_decide.specs.Question.{question}
use Rattle.hs_decide.specs.Size.{size_of}
use Rattle.hs_decide.specs.Span.{SpanIsWide}
use Rattle.hs_xpure.specs.Invariants.{invariant_premise, InvariantFollows}
use Rattle.hs_decide.specs.declared.answer.Answer.{Answer}
use Rattle.hs_decide.specs.declared.answer.Answer.TheVariants as decide
use Rattle.hs_inv.specs.declared.answer.InvAnswer.{InvAnswer}
use Rattle.hs_inv.specs.declared.answer.InvAnswer.TheVariants.{Shown, Fails, Atoms, Wide}

-- the premise and not the invariant
abbrev pub question_of : Defs → PredDef → Assertion
question_of defs p = question (assertion_of (invariant_premise defs p)) (assertion_of p.inv)

-- what the answer says of the predicate's invariant is true
abbrev pub IsInvAnswer : Defs → PredDef → ℕ → InvAnswer → Type 0
IsInvAnswer defs p atoms Shown = InvariantFollows defs p
IsInvAnswer defs p atoms (Fails v) = TrueAt (stack_of v) (invariant_premise defs p) × (¬ (TrueAt (stack_of v) p.inv))
IsInvAnswer defs p atoms Atoms = atoms < size_of (question_of defs p)
IsInvAnswer defs p atoms Wide = SpanIsWide (question_of defs p)

-- Shown or Fails
abbrev pub IsDecidedInv : InvAnswer → Type 0
IsDecidedInv Shown = Unit {0}
IsDecidedInv (Fails v) = Unit {0}
IsDecidedInv Atoms = ⊥
IsDecidedInv Wide = ⊥

-- an answer to the question, as one of the invariant
abbrev pub inv_answer : Answer → InvAnswer
inv_answer decide.Yes = Shown
inv_answer (decide.No v) = Fails v
inv_answer decide.Atoms = Atoms
inv_answer decide.Wide = Wide
