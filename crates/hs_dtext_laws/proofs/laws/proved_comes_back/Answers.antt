use Rattle.hs_dtext_laws.proofs.Whole.{proved_comes_back as is}
use Rattle.hs_dtext_laws.proofs.laws.proved_comes_back.Goals as goal

pub returns : goal.returns
returns c = is
