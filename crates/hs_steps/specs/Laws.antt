-- Goals with proofs hold, residues of proofs keep numbers apart, and proofs make proofs.
use Rattle.std.specs.Prelude.{◌≡◌, List}
use Rattle.std.specs.List.{AllZip}
use Rattle.hs_heap.specs.declared.formula.Formula.{Formula}
use Rattle.hs_heap.specs.declared.definitions.Defs.{Defs}
use Rattle.hs_heap.specs.Sound.{IsSound}
use Rattle.hs_xpure.specs.Invariants.{InvariantsHold}
use Rattle.hs_goal.specs.declared.goal.Goal.{Goal}
use Rattle.hs_goal.specs.declared.rule.ERule.{ERule}
use Rattle.hs_goal.specs.Goal.{Holds, IsFreshResidue}
use Rattle.hs_rules.specs.Rules.{Judgement, IsRightStep}
use Rattle.hs_rules.specs.Laws.{LemmasHold}
use Rattle.hs_erule.specs.declared.step.Proof.{Proof}
use Rattle.hs_steps.specs.Steps.{IsProofOf}
use Rattle.hs_steps.specs.Joined.{residue_shown, joined_by}

-- a goal with a proof holds where the lemmas do
abbrev pub ProofsHold : Type 0
ProofsHold = (defs : Defs) → IsSound defs → InvariantsHold defs → LemmasHold defs →
    (g : Goal) (residue : Formula) (p : Proof) → IsProofOf defs g residue p → Holds defs g residue

-- the residue of a proof keeps numbers apart
abbrev pub ProofsAreFresh : Type 0
ProofsAreFresh = (defs : Defs) → IsSound defs → (g : Goal) (residue : Formula) (p : Proof) → IsProofOf defs g residue p → IsFreshResidue g residue

-- each part proves its judgement
abbrev pub AreProofsOf : Defs → List Judgement → List Proof → Type 0
AreProofsOf defs = AllZip (λ (j : Judgement) (p : Proof). IsProofOf defs j.goal j.residue p)

-- proofs of the premises of a right step make a proof of what it concludes
abbrev pub JoinedProofsAreProofs : Type 0
JoinedProofsAreProofs = (defs : Defs) (g : Goal) (residue : Formula) (rule : ERule) (premises : List Judgement) (parts : List Proof) →
    AreProofsOf defs premises parts → IsRightStep defs g residue rule premises → IsProofOf defs g residue (joined_by g rule residue parts)

-- the residue of a proof is the one that it shows
abbrev pub ResidueIsShown : Type 0
ResidueIsShown = (defs : Defs) (g : Goal) (residue : Formula) (p : Proof) → IsProofOf defs g residue p → residue_shown p ≡ residue
