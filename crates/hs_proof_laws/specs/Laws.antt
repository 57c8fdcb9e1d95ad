-- What the layers above use of derivations that are written and checked.
use Rattle.std.specs.Prelude.{◌≡◌, ℕ, ◌++◌, false, List, length, Option}
use Rattle.std.specs.List.{All, AllZip, list_any}
use Rattle.hs_heap.specs.declared.definitions.Defs.{Defs}
use Rattle.hs_goal.specs.declared.rule.Limits.{Limits}
use Rattle.hs_core.specs.declared.program.Program.{Program}
use Rattle.hs_norm.specs.declared.resolved.Resolved.{Resolved}
use Rattle.hs_lower_sound.specs.Laws.{MethodIsKept}
use Rattle.hs_node.specs.declared.derivation.Node.{Node}
use Rattle.hs_proof_nodes.specs.Right.{AreRightNodes}
use Rattle.hs_check.specs.Listed.{Claims, IsListed}
use Rattle.hs_judge.specs.Listed.{calculus_of, claim_count}
use Rattle.hs_dtext.specs.declared.claims.ClaimLine.{ClaimLine}
use Rattle.hs_dtext.specs.Text.{shown_claims}
use Rattle.hs_proof_lines.specs.Proved.{AreWritten, subjects_of, is_open, moved}

-- nodes that are right stay right behind others
abbrev pub MovedNodesAreRight : Type 0
MovedNodesAreRight = (defs : Defs) (program : Program) (nodes own : List Node) →
    AreRightNodes defs program nodes → AreRightNodes defs program own → AreRightNodes defs program (nodes ++ moved (length nodes) own)

-- what is written of a source and its program
pub record IsProved (r : Resolved) (program : Program) (limits : Limits) (unshown : Option (List ℕ)) (nodes : List Node) (claims : List ClaimLine) : Type 0 where
  pub kept : AllZip MethodIsKept r.methods program.methods
  pub named : length r.pred_names ≡ length r.defs.preds
  pub written : AreWritten r.defs program limits unshown (subjects_of r) nodes claims

-- all nodes are right, and each line that is not open names a node which concludes its claim
pub record IsRightText (r : Resolved) (program : Program) (atoms : ℕ) (nodes : List Node) (claims : List ClaimLine) : Type 0 where
  pub right : AreRightNodes r.defs program nodes
  pub named : All (λ (line : ℕ × ℕ). Claims (calculus_of r program atoms) nodes line.0 line) (shown_claims claims)
  -- there is a line for each claim
  pub each : length claims ≡ claim_count r program
  -- where none is open, every claim is listed
  pub listed : list_any is_open claims ≡ false → IsListed (calculus_of r program atoms) (claim_count r program) nodes (shown_claims claims)

abbrev pub ProvedTextsAreRight : Type 0
ProvedTextsAreRight = (r : Resolved) (program : Program) (limits : Limits) (unshown : Option (List ℕ)) (nodes : List Node) (claims : List ClaimLine) (atoms : ℕ) →
    IsProved r program limits unshown nodes claims → IsRightText r program atoms nodes claims
