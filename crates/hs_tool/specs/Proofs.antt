-- The replies of `prove` and `check`: the derivation of what is proved, the verdict on a derivation, or the refusal.
use Rattle.std.specs.Prelude.{◌≡◌, ℕ, List, Result, Ok, Err}
use Rattle.hs_cli.specs.declared.jobs.Options.{Options}
use Rattle.hs_norm.specs.declared.resolved.Resolved.{Resolved}
use Rattle.hs_print.specs.declared.line.Line.{Line}
use Rattle.hs_proof_lines.specs.declared.error.CheckError.{CheckError}
use Rattle.hs_proof_lines.specs.declared.error.CheckError.TheVariants as error
use Rattle.hs_proof_lines.specs.Proved.{IsProofReport}
use Rattle.hs_proof_lines.specs.Checked.{HasTextFault, IsCheckReport}
use Rattle.hs_tool.specs.declared.reply.Reply.{Reply}
use Rattle.hs_tool.specs.declared.reply.Reply.TheVariants.{Refused, Answered}
use Rattle.hs_tool.specs.Served.{IsClaimsReply, HasNone}
use Rattle.hs_tool.specs.Sleek.{limits_of}

-- the derivation of every claim that is proved
abbrev pub IsProveReply : Options → Resolved → Reply → Type 0
IsProveReply options = IsClaimsReply HasNone (λ r p lines. IsProofReport r p (limits_of options) lines)

-- the verdict on the text of a derivation, which is refused for its first fault
abbrev pub IsCheckReply : (text : List ℕ) → Options → Resolved → Reply → Type 0
IsCheckReply text options = IsClaimsReply (λ r p cause. HasTextFault r text cause) (λ r p lines. IsCheckReport r p options.atoms text lines)

-- lines, or a refusal, as a reply
abbrev pub IsCheckReplyOf : Result (List Line) CheckError → Reply → Type 0
IsCheckReplyOf (Ok lines) reply = reply ≡ Answered lines
IsCheckReplyOf (Err (error.Refused cause)) reply = reply ≡ Refused cause
IsCheckReplyOf (Err error.Memory) reply = ⊥
