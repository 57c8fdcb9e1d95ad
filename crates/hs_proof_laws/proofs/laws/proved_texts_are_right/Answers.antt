use Rattle.hs_proof_laws.proofs.Writing.{proved_texts_are_right}
use Rattle.hs_proof_laws.proofs.laws.proved_texts_are_right.Goals as goal

pub returns : goal.returns
returns c = proved_texts_are_right c.proofs_are_right_nodes.ensures
