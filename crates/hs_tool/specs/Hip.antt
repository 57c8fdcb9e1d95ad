-- The reply of `hip`: a true line for each predicate and pair and a summary, or the refusal of the source.
use Rattle.std.specs.Prelude.{◌≡◌, List, [], ◌∷◌, ◌++◌, length, count_by, Bool, true, false}
use Rattle.hs_core.specs.declared.program.Program.{Program}
use Rattle.hs_cli.specs.declared.jobs.Options.{Options}
use Rattle.hs_norm.specs.declared.resolved.Resolved.{Resolved}
use Rattle.hs_print.specs.declared.line.Line.{Line}
use Rattle.hs_print.specs.declared.line.Line.TheVariants as line
use Rattle.hs_pred_lines.specs.Lines.{ArePredicateLines, first_unshown}
use Rattle.hs_hip_lines.specs.Lines.{ArePairLines}
use Rattle.hs_tool.specs.declared.reply.Reply.{Reply}
use Rattle.hs_tool.specs.Served.{IsClaimsReply, HasNone}
use Rattle.hs_tool.specs.Sleek.{limits_of, is_shown}

abbrev pub is_accepted : Line → Bool
is_accepted (line.Accepted name pair) = true
is_accepted _ = false

-- the line that counts what is shown and what is accepted
abbrev pub summary_of : List Line → List Line → Line
summary_of preds pairs = line.HipSummary (count_by is_shown preds) (length preds) (count_by is_accepted pairs) (length pairs)

-- a line for each predicate, one for each pair, and a summary that counts them
pub record IsHipReport (options : Options) (r : Resolved) (program : Program) (report : List Line) : Type 0 where
  pub preds : List Line
  pub shown : ArePredicateLines r options.atoms preds
  pub pairs : List Line
  pub each : ArePairLines r.defs program (limits_of options) (first_unshown preds) r.methods pairs
  pub lines : report ≡ preds ++ pairs ++ summary_of preds pairs ∷ []

-- the reply to a source with a normal form
abbrev pub IsHipReply : Options → Resolved → Reply → Type 0
IsHipReply options = IsClaimsReply HasNone (IsHipReport options)
