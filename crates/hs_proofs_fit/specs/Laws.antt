-- Residues of proofs are formed.
use Rattle.hs_heap.specs.declared.formula.Formula.{Formula}
use Rattle.hs_heap.specs.declared.definitions.Defs.{Defs}
use Rattle.hs_heap.specs.Sound.{IsSound}
use Rattle.hs_goal.specs.declared.goal.Goal.{Goal}
use Rattle.hs_erule.specs.declared.step.Proof.{Proof}
use Rattle.hs_steps.specs.Steps.{IsProofOf}
use Rattle.hs_program_fits.specs.Formed.{IsFormed}

-- the residue of a proof is formed
abbrev pub ProofsAreFormed : Type 0
ProofsAreFormed = (defs : Defs) → IsSound defs → (g : Goal) (residue : Formula) (p : Proof) → IsProofOf defs g residue p → IsFormed defs residue
