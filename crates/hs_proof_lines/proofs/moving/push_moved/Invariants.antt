use Rattle.std.proofs.Common.{◌≡◌, ◌++◌, map, length, reverse}
use Rattle.hs_proof_lines.specs.Proved.{moved_node}
use Rattle.hs_proof_lines.proofs.moving.push_moved.Given as goal

abbrev pub invariant-loop-node : goal.invariant-loop-node
invariant-loop-node l = l.nodes ++ map (moved_node l.before) (reverse l.rest) ≡ l.initial.nodes ++ map (moved_node l.before) (reverse l.initial.rest)

abbrev pub decreases-loop-node : goal.decreases-loop-node
decreases-loop-node l = length l.rest
