use Rattle.std.proofs.Common.{◌∙◌}
use Rattle.hs_xpure.proofs.Capped.{atoms_told}
use Rattle.hs_xpure.proofs.counts.numbers_of_atoms.Goals as goal

pub returns : goal.returns
returns c = atoms_told c.args.defs.now c.args.level c.args.atoms.now c.as_slice.result.now c.atoms_taken.result (c.as_slice.ensures ∙ c.in_ok-counts.ensures) c.atoms_taken.ensures
