use Rattle.hs_proof_laws.proofs.Moving.{moved_nodes_are_right}
use Rattle.hs_proof_laws.proofs.laws.moved_nodes_are_right.Goals as goal

pub returns : goal.returns
returns c = moved_nodes_are_right
