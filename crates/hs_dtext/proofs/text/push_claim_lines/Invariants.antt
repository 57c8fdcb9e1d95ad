use Rattle.std.proofs.Common.{◌≡◌, ◌++◌, drop}
use Rattle.std.specs.String.{string_bytes}
use Rattle.hs_dtext.specs.Text.{lines_text, all_claim_lines}
use Rattle.hs_dtext.proofs.text.push_claim_lines.Given as goal

abbrev pub invariant-loop-line : goal.invariant-loop-line
invariant-loop-line l = string_bytes l.out ++ lines_text (all_claim_lines (drop l.line-index l.lines)) ≡ string_bytes l.initial.out ++ lines_text (all_claim_lines l.lines)
