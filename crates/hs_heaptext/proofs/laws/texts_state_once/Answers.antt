use Rattle.hs_heaptext.proofs.Once.{texts_state_once}
use Rattle.hs_heaptext.proofs.laws.texts_state_once.Goals as goal

pub returns : goal.returns
returns c = texts_state_once
