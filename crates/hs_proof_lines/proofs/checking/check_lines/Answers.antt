use Rattle.std.proofs.Common.{◌≡◌, ℕ, [], ◌∷◌, length, ap, ◌∙◌}
use Rattle.hs_proof_lines.specs.Checked.{verdict_line}
use Rattle.hs_proof_lines.proofs.checking.check_lines.Goals as goal

pub returns-clause-lines : goal.returns-clause-lines
returns-clause-lines W c =
    let d = c.in_ok-derivation.derivation in
    let nodes : c.in_ok-nodes.nodes ≡ length d.nodes = c.in_ok-nodes.ensures ∙ c.len.ensures in
    let verdict = c.in_ok-verdict.verdict in
    record {
      derivation = d;
      read = c.in_ok-derivation.ensures.read;
      verdict = verdict;
      true_of = c.in_ok-verdict.ensures.cause;
      complete = c.in_ok-verdict.ensures.complete;
      is = c.in_ok-verdict_lines.ensures
          ∙ ap (λ (n : ℕ). verdict_line n c.in_ok-claims.claims verdict ∷ []) nodes
          ∙ ap (λ (k : ℕ). verdict_line (length d.nodes) k verdict ∷ []) c.in_ok-claims.ensures;
    }
