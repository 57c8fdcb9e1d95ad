use Rattle.std.proofs.Common.{sym, subst}
use Rattle.hs_heap.specs.Sound.{NodeFits}
use Rattle.hs_heap.proofs.Tells.{Tells}
use Rattle.hs_heap.proofs.Fitting.{node_told}
use Rattle.hs_heap.proofs.node.HeapNode.fits.Goals as goal

pub returns : goal.returns
returns c = subst (λ b. Tells b (NodeFits c.args.defs.now c.args.self.now)) (sym c.test.ensures) (node_told c.args.defs.now c.args.self.now)
