-- What is found of the further premises.
use Rattle.std.specs.Prelude.{◌≡◌, List, map}
use Rattle.hs_heap.specs.declared.formula.Formula.{Formula}
use Rattle.hs_heap.specs.declared.definitions.Defs.{Defs}
use Rattle.hs_core.specs.declared.program.Program.{Program}
use Rattle.hs_core.specs.declared.state.At.{At}
use Rattle.hs_core.specs.declared.state.PRule.{PRule}
use Rattle.hs_node.specs.declared.judgement.Judgement.{Judgement}
use Rattle.hs_node.specs.declared.judgement.Judgement.TheVariants.{Runs}
use Rattle.hs_check.specs.declared.verdict.Reason.TheVariants as reason
use Rattle.hs_check.specs.declared.verdict.NodeAnswer.{NodeAnswer}
use Rattle.hs_check.specs.declared.verdict.NodeAnswer.TheVariants as answer
use Rattle.hs_program_rules.specs.Table.{premises_of}
use Rattle.hs_prule.specs.Judged.{GoesOn}

-- right, or wrong as to the premises, as a statement holds
abbrev pub IsCompared : Type 0 → NodeAnswer → Type 0
IsCompared A answer.Right = A
IsCompared A (answer.Wrong reason.Premise) = ¬ A
IsCompared A _ = ⊥

module _ (defs : Defs) (program : Program) (at : At) (rule : PRule) (residue : Formula) (others : List Judgement) where
  -- the rule goes on by the residue, and the others are its further premises
  abbrev pub IsFollowed : NodeAnswer → Type 0
  IsFollowed answer.Right = GoesOn defs program at rule residue × (others ≡ map (λ p. Runs p) (premises_of defs program at rule residue))
  IsFollowed (answer.Wrong reason.Rule) = ¬ (GoesOn defs program at rule residue)
  IsFollowed (answer.Wrong reason.Premise) = GoesOn defs program at rule residue × ¬ (others ≡ map (λ p. Runs p) (premises_of defs program at rule residue))
  IsFollowed _ = ⊥
