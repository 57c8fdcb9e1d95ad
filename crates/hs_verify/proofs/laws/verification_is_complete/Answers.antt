use Rattle.hs_verify.proofs.Complete.{verification_is_complete}
use Rattle.hs_verify.proofs.laws.verification_is_complete.Goals as goal

pub returns : goal.returns
returns c = verification_is_complete
