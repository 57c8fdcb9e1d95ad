-- The reply of `sleek`: a true line for each predicate and entailment and a summary, or the refusal of the source.
use Rattle.std.specs.Prelude.{◌≡◌, List, [], ◌∷◌, ◌++◌, length, count_by, Bool, true, false}
use Rattle.hs_goal.specs.declared.rule.Limits.{Limits}
use Rattle.hs_cli.specs.declared.jobs.Options.{Options}
use Rattle.hs_norm.specs.declared.resolved.Resolved.{Resolved}
use Rattle.hs_print.specs.declared.line.Line.{Line}
use Rattle.hs_print.specs.declared.line.Line.TheVariants as line
use Rattle.hs_pred_lines.specs.Lines.{ArePredicateLines, first_unshown}
use Rattle.hs_entail_lines.specs.Lines.{AreEntailmentLines}
use Rattle.hs_tool.specs.declared.reply.Reply.{Reply}
use Rattle.hs_tool.specs.Served.{IsClaimsReply, HasNone}

-- the limits of a search
abbrev pub limits_of : Options → Limits
limits_of o = record { rank = o.rank; goals = o.goals; atoms = o.atoms; level = o.level; residues = o.residues }

abbrev pub is_shown : Line → Bool
is_shown (line.Shown pred) = true
is_shown _ = false

abbrev pub is_valid : Line → Bool
is_valid (line.Valid number residues) = true
is_valid _ = false

-- the line that counts what is shown and what is valid
abbrev pub summary_of : List Line → List Line → Line
summary_of preds entailments = line.SleekSummary (count_by is_shown preds) (length preds) (count_by is_valid entailments) (length entailments)

-- a line for each predicate, one for each entailment, and a summary that counts them
pub record IsSleekReport (options : Options) (r : Resolved) (report : List Line) : Type 0 where
  pub preds : List Line
  pub shown : ArePredicateLines r options.atoms preds
  pub entailments : List Line
  pub each : AreEntailmentLines r.defs (limits_of options) (first_unshown preds) r.entailments entailments
  pub lines : report ≡ preds ++ entailments ++ summary_of preds entailments ∷ []

-- the reply to a source with a normal form
abbrev pub IsSleekReply : Options → Resolved → Reply → Type 0
IsSleekReply options = IsClaimsReply HasNone (λ r p lines. IsSleekReport options r lines)
