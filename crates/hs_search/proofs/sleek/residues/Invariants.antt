use Rattle.std.proofs.Common.{◌≡◌, map, take}
use Rattle.hs_steps.specs.Joined.{residue_shown}
use Rattle.hs_search.proofs.sleek.residues.Given as goal

abbrev pub invariant-loop-part : goal.invariant-loop-part
invariant-loop-part l = l.all ≡ map residue_shown (take l.part-index l.parts)
