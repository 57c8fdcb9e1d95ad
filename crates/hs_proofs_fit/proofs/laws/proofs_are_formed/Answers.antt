-- The residue of a proof is formed.
use Rattle.hs_proofs_fit.proofs.Concluding.{proofs_formed}
use Rattle.hs_proofs_fit.proofs.laws.proofs_are_formed.Goals as goal

pub returns : goal.returns
returns c = proofs_formed c.right_steps_stay_fresh.ensures c.right_steps_stay_formed.ensures
