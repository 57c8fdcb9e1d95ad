use Rattle.std.proofs.Common.{◌≡◌, ◌-◌, ◌≤◌, length}
use Rattle.hs_lex.specs.Scan.{tokens_from, after}
use Rattle.hs_lex.proofs.lexer.scan.Given as goal

abbrev pub invariant-loop-rest : goal.invariant-loop-rest
invariant-loop-rest l = record {
  so_far : after l.tokens.items (tokens_from l.top 0 (length l.text - length l.rest) l.rest) ≡ tokens_from l.top 0 0 l.text;
  within : length l.rest ≤ length l.text;
}

abbrev pub decreases-loop-rest : goal.decreases-loop-rest
decreases-loop-rest l = length l.rest
