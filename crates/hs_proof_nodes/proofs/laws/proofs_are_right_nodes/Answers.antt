use Rattle.hs_proof_nodes.proofs.Steps.{proofs_are_right_nodes}
use Rattle.hs_proof_nodes.proofs.laws.proofs_are_right_nodes.Goals as goal

pub returns : goal.returns
returns c = proofs_are_right_nodes
