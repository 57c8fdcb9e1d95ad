use Rattle.std.proofs.Common.{◌≡◌, ◌++◌, drop}
use Rattle.std.specs.String.{string_bytes}
use Rattle.hs_dtext.specs.Text.{lines_text, claim_lines}
use Rattle.hs_dtext.proofs.text.push_claims.Given as goal

abbrev pub invariant-loop-claim : goal.invariant-loop-claim
invariant-loop-claim l = string_bytes l.out ++ lines_text (claim_lines (drop l.claim-index l.claims)) ≡ string_bytes l.initial.out ++ lines_text (claim_lines l.claims)
