-- Claims that are written behind others.
use Rattle.std.specs.Prelude.{◌≡◌, ℕ, List, ◌++◌, Option, Some, None}
use Rattle.hs_heap.specs.declared.definitions.PredDef.{PredDef}
use Rattle.hs_heap.specs.declared.definitions.Defs.{Defs}
use Rattle.hs_goal.specs.declared.rule.Limits.{Limits}
use Rattle.hs_core.specs.declared.program.Program.{Program}
use Rattle.hs_xpure.specs.Invariants.{InvariantFollows}
use Rattle.hs_numbering.specs.declared.names.Names.{Names}
use Rattle.hs_node.specs.declared.derivation.Derivation.{Derivation}
use Rattle.hs_norm_item.specs.declared.forms.PairTree.{PairTree}
use Rattle.hs_print.specs.declared.why.Why.{Why}
use Rattle.hs_verify.specs.declared.answer.HipAnswer.{HipAnswer}
use Rattle.hs_verify.specs.declared.answer.HipAnswer.TheVariants as hip
use Rattle.hs_verify.specs.Answer.{IsAnswer}
use Rattle.hs_program_rules.specs.States.{entry}
use Rattle.hs_proof_lines.specs.declared.written.Written.{Written}
use Rattle.hs_proof_lines.specs.declared.written.Outcome.{Outcome}
use Rattle.hs_proof_lines.specs.declared.written.Outcome.TheVariants as outcome
use Rattle.hs_proof_lines.specs.Open.{IsInvariantWhy, IsNotAccepted, open_text}
use Rattle.hs_proof_lines.specs.Proved.{Subject, AreWritten}

-- the invariant is shown, or this is why it is not
abbrev pub IsInvariantAnswer : Defs → PredDef → Names → ℕ → Option Why → Type 0
IsInvariantAnswer defs p names atoms None = InvariantFollows defs p
IsInvariantAnswer defs p names atoms (Some w) = IsInvariantWhy defs p names atoms w

-- the nodes of a pair that is accepted, else what its line says
abbrev pub IsOutcome : Defs → PairTree → Limits → HipAnswer → Outcome → Type 0
IsOutcome defs p limits answer (outcome.Proved own) = (d : Derivation) × (answer ≡ hip.Accepted d) × (own ≡ d.nodes)
IsOutcome defs p limits answer (outcome.Open cause) = IsNotAccepted answer × (cause ≡ open_text defs p limits answer)

-- what is found of pair i of method m, by the answer of the verifier
pub record IsFound (defs : Defs) (program : Program) (limits : Limits) (m i : ℕ) (p : PairTree) (found : Outcome) : Type 0 where
  pub answer : HipAnswer
  pub right : IsAnswer defs program limits (entry program m i) answer
  pub says : IsOutcome defs p limits answer found

-- these are written behind those before
pub record Adds (defs : Defs) (program : Program) (limits : Limits) (unshown : Option (List ℕ)) (added : List Subject) (old new : Written) : Type 0 where
  pub more : (before : List Subject) → AreWritten defs program limits unshown before old.nodes old.lines →
      AreWritten defs program limits unshown (before ++ added) new.nodes new.lines
