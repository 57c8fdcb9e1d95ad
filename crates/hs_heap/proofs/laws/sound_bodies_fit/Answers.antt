use Rattle.hs_heap.proofs.Satisfied.{sound_bodies_fit}
use Rattle.hs_heap.proofs.laws.sound_bodies_fit.Goals as goal

pub returns : goal.returns
returns c = sound_bodies_fit
