-- The one line of `check`: the verdict on a derivation.
use Rattle.std.specs.Prelude.{◌≡◌, ℕ, List, [], ◌∷◌, length, Ok, Err}
use Rattle.hs_core.specs.declared.program.Program.{Program}
use Rattle.hs_norm.specs.declared.resolved.Resolved.{Resolved}
use Rattle.hs_node.specs.declared.derivation.Derivation.{Derivation}
use Rattle.hs_dtext.specs.declared.fault.DTextError.{DTextError}
use Rattle.hs_dtext.specs.declared.fault.DTextError.TheVariants as text
use Rattle.hs_dtext.specs.Lines.{derivation_of}
use Rattle.hs_check.specs.declared.verdict.Reason.{Reason}
use Rattle.hs_check.specs.declared.verdict.Reason.TheVariants as reason
use Rattle.hs_check.specs.declared.verdict.Spent.{Spent}
use Rattle.hs_check.specs.declared.verdict.Spent.TheVariants as spent
use Rattle.hs_check.specs.declared.verdict.Verdict.{Verdict}
use Rattle.hs_check.specs.declared.verdict.Verdict.TheVariants.{Accepted, Refused, MissingClaim, Stopped}
use Rattle.hs_check.specs.Listed.{HasCause, IsListed}
use Rattle.hs_judge.specs.Listed.{calculus_of, claim_count}
use Rattle.hs_print.specs.declared.line.Line.{Line}
use Rattle.hs_print.specs.declared.line.Line.TheVariants as line
use Rattle.hs_print.specs.declared.word.Word.{Word}
use Rattle.hs_print.specs.declared.word.Word.TheVariants as word
use Rattle.hs_print.specs.declared.refusal.Refusal.{Refusal}
use Rattle.hs_print.specs.declared.refusal.Refusal.TheVariants.{ProofVersion, ProofForward, ProofLine}
use Rattle.hs_proof_lines.specs.declared.error.CheckError.{CheckError}
use Rattle.hs_proof_lines.specs.declared.error.CheckError.TheVariants as error

-- ---- texts that are no derivation

-- the refusal that a fault prints
abbrev pub IsRefusalOf : DTextError → Refusal → Type 0
IsRefusalOf (text.Version v) cause = cause ≡ ProofVersion v
IsRefusalOf (text.Forward n) cause = cause ≡ ProofForward n
IsRefusalOf (text.Line n fault) cause = cause ≡ ProofLine n
IsRefusalOf text.Memory cause = ⊥

-- this is the first fault of the text
pub record HasTextFault (r : Resolved) (bytes : List ℕ) (cause : Refusal) : Type 0 where
  pub fault : DTextError
  pub first : derivation_of r.defs bytes ≡ Err fault
  pub is : IsRefusalOf fault cause

-- a refusal has its fault; want of memory needs none
abbrev pub HasCheckCause : Resolved → List ℕ → CheckError → Type 0
HasCheckCause r bytes (error.Refused cause) = HasTextFault r bytes cause
HasCheckCause r bytes error.Memory = Unit {0}

-- ---- verdicts

abbrev pub test_word : Reason → Word
test_word reason.Shape = word.Shape
test_word reason.Rule = word.Rule
test_word reason.Premise = word.Premise
test_word reason.Residue = word.Residue
test_word reason.Question = word.Question

abbrev pub bound_word : Spent → Word
bound_word spent.Numbers = word.NumbersSpent
bound_word spent.Atoms = word.AtomsSpent
bound_word spent.Wide = word.PastBits

-- the line of a verdict on so many nodes and claims
abbrev pub verdict_line : ℕ → ℕ → Verdict → Line
verdict_line nodes claims Accepted = line.ProofAccepted nodes claims
verdict_line nodes claims (Refused k reason) = line.ProofRefused k (test_word reason)
verdict_line nodes claims (MissingClaim k) = line.ProofMissing k
verdict_line nodes claims (Stopped k spent) = line.ProofStopped k (bound_word spent)

-- the one line of a derivation against the claims of a source: its text is read as nodes and lines of claims, and this is
-- their verdict
pub record IsCheckReport (r : Resolved) (program : Program) (atoms : ℕ) (bytes : List ℕ) (lines : List Line) : Type 0 where
  pub derivation : Derivation
  pub read : derivation_of r.defs bytes ≡ Ok derivation
  pub verdict : Verdict
  pub true_of : HasCause (calculus_of r program atoms) (claim_count r program) derivation.nodes derivation.claims verdict
  -- a list that proves every claim and passes no bound is accepted
  pub complete : IsListed (calculus_of r program atoms) (claim_count r program) derivation.nodes derivation.claims →
      ((i : ℕ) (s : Spent) → ¬ ((calculus_of r program atoms).is_spent derivation.nodes i s)) → verdict ≡ Accepted
  pub is : lines ≡ verdict_line (length derivation.nodes) (claim_count r program) verdict ∷ []
