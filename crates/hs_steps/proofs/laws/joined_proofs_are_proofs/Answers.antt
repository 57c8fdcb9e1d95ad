use Rattle.hs_steps.proofs.Placed.{joined_proofs_are_proofs}
use Rattle.hs_steps.proofs.laws.joined_proofs_are_proofs.Goals as goal

pub returns : goal.returns
returns c = joined_proofs_are_proofs
