use Rattle.std.proofs.Common.{sym, subst}
use Rattle.hs_heap.specs.Sound.{IsSound}
use Rattle.hs_heap.proofs.Tells.{Tells}
use Rattle.hs_heap.proofs.Soundness.{sound_told}
use Rattle.hs_heap.proofs.definitions.Defs.sound.Goals as goal

pub returns : goal.returns
returns c = subst (λ b. Tells b (IsSound c.args.self.now)) (sym c.fit.ensures) (sound_told c.args.self.now)
