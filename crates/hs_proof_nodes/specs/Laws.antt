-- The nodes of a proof behind right nodes are right.
use Rattle.std.specs.Prelude.{◌++◌, List, length}
use Rattle.hs_heap.specs.declared.formula.Formula.{Formula}
use Rattle.hs_heap.specs.declared.definitions.Defs.{Defs}
use Rattle.hs_goal.specs.declared.goal.Goal.{Goal}
use Rattle.hs_core.specs.declared.program.Program.{Program}
use Rattle.hs_erule.specs.declared.step.Proof.{Proof}
use Rattle.hs_steps.specs.Steps.{IsProofOf}
use Rattle.hs_node.specs.declared.derivation.Node.{Node}
use Rattle.hs_node.specs.declared.judgement.Judgement.TheVariants.{Entails}
use Rattle.hs_proof_nodes.specs.Right.{AreRightNodes}
use Rattle.hs_proof_nodes.specs.Placed.{placed, Says}

abbrev pub ProofsAreRightNodes : Type 0
ProofsAreRightNodes = (defs : Defs) (program : Program) (nodes : List Node) (g : Goal) (residue : Formula) (p : Proof) →
    AreRightNodes defs program nodes → IsProofOf defs g residue p →
    let all = nodes ++ placed (length nodes) p in
    AreRightNodes defs program all × Says all (length all) (Entails g residue)
