-- The statuses of reports.
use Rattle.std.specs.Prelude.{ℕ, List, [], ◌∷◌, Bool, true, false, not, nat_eq, ◌&&◌, if◌then◌else◌}
use Rattle.hs_print.specs.declared.line.Line.{Line}
use Rattle.hs_print.specs.declared.line.Line.TheVariants as line

-- a good verdict, or a line that is no verdict
abbrev pub is_good : Line → Bool
-- good verdicts
is_good (line.Shown pred) = true
is_good (line.Valid number residues) = true
is_good (line.Accepted name pair) = true
is_good (line.ProofAccepted nodes claims) = true
is_good (line.Returned value steps heap) = true
-- other verdicts
is_good (line.Fails pred valuation) = false
is_good (line.InvStopped pred cause) = false
is_good (line.Unknown number why) = false
is_good (line.Rejected name pair point causes) = false
is_good (line.PairInvariant name pair pred) = false
is_good (line.ProofRefused node cause) = false
is_good (line.ProofMissing claim) = false
is_good (line.ProofStopped node cause) = false
is_good (line.Running steps) = false
is_good (line.Fault name point location) = false
is_good (line.RunWide name point) = false
-- a text of derivations is a verdict by what it leaves unproved
is_good (line.DerivationText text unproved) = not unproved
-- summaries and other texts are no verdicts
is_good (line.SleekSummary shown preds valid entailments) = true
is_good (line.HipSummary shown preds accepted pairs) = true
is_good (line.CoreText text) = true
is_good (line.SourceText text) = true
-- refusals and faults are none either: they stand alone, and have statuses of their own
is_good line.RefusedWords = true
is_good (line.FileFault name) = true
is_good (line.Refused cause) = true

abbrev pub all_good : List Line → Bool
all_good [] = true
all_good (l ∷ report) = is_good l && all_good report

abbrev pub by_verdicts : Bool → ℕ
by_verdicts good = if good then 0 else 1

-- the status of a line that stands alone: a refusal, a fault, a summary that is a verdict, or another line
abbrev pub status_alone : Line → ℕ
status_alone line.RefusedWords = 3
status_alone (line.FileFault name) = 4
status_alone (line.Refused cause) = 2
status_alone (line.HipSummary shown preds accepted pairs) = by_verdicts (nat_eq shown preds && nat_eq accepted pairs)
status_alone l = by_verdicts (is_good l)

abbrev pub status_of : List Line → ℕ
status_of [] = 0
status_of (l ∷ []) = status_alone l
status_of (l ∷ (m ∷ report)) = by_verdicts (all_good (l ∷ (m ∷ report)))
