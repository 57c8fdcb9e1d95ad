-- What reports with status 0 promise of the programs and derivations that they are about.
use Rattle.std.specs.Prelude.{◌≡◌, ℕ, ◌∷◌, [], List, Ok, Some, slice_get}
use Rattle.std.specs.List.{list_any}
use Rattle.hs_cli.specs.declared.jobs.Options.{Options}
use Rattle.hs_tree.specs.declared.source.Source.{Source}
use Rattle.hs_norm.specs.declared.resolved.Resolved.{Resolved}
use Rattle.hs_norm_item.specs.declared.forms.Entailment.{Entailment}
use Rattle.hs_source.specs.Resolved.{IsResolved}
use Rattle.hs_core.specs.declared.program.Program.{Program}
use Rattle.hs_core_lines.specs.Core.{HasProgram}
use Rattle.hs_heap.specs.declared.formula.Formula.{Formula}
use Rattle.hs_goal.specs.Goal.{Holds}
use Rattle.hs_claims.specs.Claims.{goal_of}
use Rattle.hs_program_rules.specs.States.{entry}
use Rattle.hs_program_rules.specs.Laws.{PairExists}
use Rattle.hs_program_rules.specs.Safe.{IsSafe}
use Rattle.hs_node.specs.declared.derivation.Node.{Node}
use Rattle.hs_node.specs.declared.derivation.Derivation.{Derivation}
use Rattle.hs_check.specs.Listed.{IsListed}
use Rattle.hs_judge.specs.Listed.{calculus_of, claim_count}
use Rattle.hs_judge.specs.Laws.{Names, entailment_number}
use Rattle.hs_dtext.specs.declared.claims.ClaimLine.{ClaimLine}
use Rattle.hs_dtext.specs.Lines.{derivation_of}
use Rattle.hs_dtext.specs.Text.{proved_text, shown_claims}
use Rattle.hs_proof_lines.specs.Proved.{is_open}
use Rattle.hs_proof_laws.specs.Laws.{IsRightText}
use Rattle.hs_print.specs.declared.line.Line.{Line}
use Rattle.hs_print.specs.declared.line.Line.TheVariants as line
use Rattle.hs_tool.specs.declared.reply.Reply.TheVariants.{Answered}
use Rattle.hs_tool.specs.Reply.{IsSourceReply}
use Rattle.hs_tool.specs.Status.{status_of}
use Rattle.hs_tool.specs.Hip.{IsHipReply}
use Rattle.hs_tool.specs.Proofs.{IsProveReply, IsCheckReply}

-- the bytes are a source with this normal form and this core program
pub record IsProgramOf (bytes : List ℕ) (r : Resolved) (program : Program) : Type 0 where
  pub tree : Source
  pub read : IsResolved bytes tree r
  pub lowered : HasProgram r program

-- the start of each pair is safe for every number of steps
abbrev pub PairsAreSafe : Resolved → Program → Type 0
PairsAreSafe r program = (m i : ℕ) → PairExists program m i → (n : ℕ) → IsSafe r.defs program n (entry program m i)

-- ---- `hip`

-- a report of `hip` with status 0 is of a program whose pairs are safe
abbrev pub AcceptedProgramsAreSafe : Type 0
AcceptedProgramsAreSafe = (options : Options) (bytes : List ℕ) (report : List Line) →
    IsSourceReply (IsHipReply options) bytes (Answered report) → status_of report ≡ 0 →
    (r : Resolved) × (program : Program) × IsProgramOf bytes r program × PairsAreSafe r program

-- ---- `check`

-- a line of the derivation names a node with the goal of each entailment, which holds with the residue of each such node
abbrev pub EntailmentsHold : Resolved → Derivation → Type 0
EntailmentsHold r d = (e : ℕ) (entailment : Entailment) → slice_get r.entailments e ≡ Some entailment →
    ((residue : Formula) × Names d.nodes d.claims (entailment_number r e) (goal_of entailment) residue)
    × ((residue : Formula) → Names d.nodes d.claims (entailment_number r e) (goal_of entailment) residue → Holds r.defs (goal_of entailment) residue)

-- what a text proves of a source: it is read as a derivation that lists every claim; entailments hold, and pairs are safe
pub record IsProvedBy (bytes text : List ℕ) (atoms : ℕ) : Type 0 where
  pub resolved : Resolved
  pub program : Program
  pub is : IsProgramOf bytes resolved program
  pub derivation : Derivation
  pub text_is : derivation_of resolved.defs text ≡ Ok derivation
  pub listed : IsListed (calculus_of resolved program atoms) (claim_count resolved program) derivation.nodes derivation.claims
  pub entailments : EntailmentsHold resolved derivation
  pub pairs : PairsAreSafe resolved program

-- a report of `check` with status 0 is of a text that proves every claim of the source
abbrev pub AcceptedTextsProve : Type 0
AcceptedTextsProve = (options : Options) (bytes text : List ℕ) (report : List Line) →
    IsSourceReply (IsCheckReply text options) bytes (Answered report) → status_of report ≡ 0 → IsProvedBy bytes text options.atoms

-- ---- `prove`

-- the report is the text of right nodes and of lines that name what they conclude
pub record IsRightReport (bytes : List ℕ) (atoms : ℕ) (report : List Line) : Type 0 where
  pub resolved : Resolved
  pub program : Program
  pub is : IsProgramOf bytes resolved program
  pub nodes : List Node
  pub claims : List ClaimLine
  pub lines : report ≡ line.DerivationText (proved_text resolved.defs nodes claims) (list_any is_open claims) ∷ []
  pub right : IsRightText resolved program atoms nodes claims
  -- with status 0 every claim is listed
  pub listed : status_of report ≡ 0 → IsListed (calculus_of resolved program atoms) (claim_count resolved program) nodes (shown_claims claims)

abbrev pub WrittenProofsAreRight : Type 0
WrittenProofsAreRight = (options : Options) (bytes : List ℕ) (report : List Line) (atoms : ℕ) →
    IsSourceReply (IsProveReply options) bytes (Answered report) → IsRightReport bytes atoms report
