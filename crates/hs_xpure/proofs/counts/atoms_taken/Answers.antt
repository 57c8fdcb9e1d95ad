use Rattle.std.proofs.Common.{ap, ◌∙◌}
use Rattle.std.proofs.lemmas.List.{take_all}
use Rattle.hs_xpure.specs.Counts.{capped, listed, atoms_taken}
use Rattle.hs_xpure.proofs.Capped.{atoms_step}
use Rattle.hs_xpure.proofs.counts.atoms_taken.Goals as goal

pub loop-atom-preserved : goal.loop-atom-preserved
loop-atom-preserved c = atoms_step (listed c.args.counts.now) c.args.atoms.now c.loop-atom.atom-index c.atom-item.result c.loop-atom.total c.of_count.result c.sum-total.result c.loop-atom-test.true c.atom-item.is c.loop-atom.invariant c.of_count.ensures c.sum-total.ensures

pub returns : goal.returns
returns c = c.loop-atom.invariant ∙ ap (λ xs. capped (atoms_taken (listed c.args.counts.now) xs)) (take_all c.loop-atom.atom-index c.args.atoms.now c.loop-atom-test.false)
