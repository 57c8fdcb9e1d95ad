-- The replies of `core` and `run`: the core program of a source, or how a run of it ends, or the refusal.
use Rattle.std.specs.Prelude.{◌≡◌, ℕ, List, Result, Ok, Err}
use Rattle.hs_norm.specs.declared.resolved.Resolved.{Resolved}
use Rattle.hs_founding.specs.Fault.{HasFoundingFault}
use Rattle.hs_core_lines.specs.Core.{HasLoweringFault, AreCoreLines}
use Rattle.hs_core_lines.specs.Run.{HasRunFault, AreRunLines}
use Rattle.hs_core_lines.specs.declared.error.CoreError.{CoreError}
use Rattle.hs_core_lines.specs.declared.error.CoreError.TheVariants as error
use Rattle.hs_print.specs.declared.line.Line.{Line}
use Rattle.hs_tool.specs.declared.reply.Reply.{Reply}
use Rattle.hs_tool.specs.declared.reply.Reply.TheVariants.{Refused, Answered}
use Rattle.hs_tool.specs.Reply.{IsStagedReply}

-- the core program is printed, where the definitions are founded and the methods have no fault
abbrev pub IsCoreReply : Resolved → Reply → Type 0
IsCoreReply = IsStagedReply HasFoundingFault HasLoweringFault AreCoreLines

-- the method is run on the heap text, where that may be too
abbrev pub IsRunReply : (method text : List ℕ) → (steps : ℕ) → Resolved → Reply → Type 0
IsRunReply method text steps =
    IsStagedReply HasFoundingFault (λ r cause. HasRunFault r method text cause) (λ r lines. AreRunLines r method text steps lines)

-- lines, or a refusal, as a reply
abbrev pub IsReplyOf : Result (List Line) CoreError → Reply → Type 0
IsReplyOf (Ok lines) reply = reply ≡ Answered lines
IsReplyOf (Err (error.Refused cause)) reply = reply ≡ Refused cause
IsReplyOf (Err error.Memory) reply = ⊥
