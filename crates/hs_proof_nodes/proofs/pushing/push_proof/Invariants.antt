use Rattle.std.proofs.Common.{◌≡◌, ◌++◌, map, length, reverse}
use Rattle.hs_proof_nodes.specs.Placed.{node_behind}
use Rattle.hs_proof_nodes.proofs.pushing.push_proof.Given as goal

abbrev pub invariant-loop-step : goal.invariant-loop-step
invariant-loop-step l = l.nodes ++ map (node_behind l.before) (reverse l.rest) ≡ l.initial.nodes ++ map (node_behind l.before) (reverse l.initial.rest)

abbrev pub decreases-loop-step : goal.decreases-loop-step
decreases-loop-step l = length l.rest
