-- What listed claims say: entailments hold, and the starts of pairs are safe.
use Rattle.std.specs.Prelude.{◌≡◌, ℕ, suc, ◌+◌, ◌<◌, List, [], length, Some, slice_get}
use Rattle.std.specs.List.{Contains}
use Rattle.hs_heap.specs.declared.formula.Formula.{Formula}
use Rattle.hs_heap.specs.declared.definitions.Defs.{Defs}
use Rattle.hs_heap.specs.Sound.{IsSound}
use Rattle.hs_xpure.specs.Invariants.{InvariantsHold}
use Rattle.hs_goal.specs.declared.goal.Goal.{Goal}
use Rattle.hs_goal.specs.Goal.{Holds}
use Rattle.hs_core.specs.declared.program.Program.{Program}
use Rattle.hs_core.specs.declared.state.At.{At}
use Rattle.hs_core.specs.Sound.{IsSoundProgram}
use Rattle.hs_program_rules.specs.States.{entry}
use Rattle.hs_program_rules.specs.Safe.{IsSafe}
use Rattle.hs_program_rules.specs.Laws.{PairExists, Concluded}
use Rattle.hs_node.specs.declared.judgement.Judgement.TheVariants.{Entails, Runs}
use Rattle.hs_node.specs.declared.derivation.Node.{Node}
use Rattle.hs_norm.specs.declared.resolved.Resolved.{Resolved}
use Rattle.hs_norm_item.specs.declared.forms.Entailment.{Entailment}
use Rattle.hs_claims.specs.Claims.{goal_of}
use Rattle.hs_check.specs.Listed.{IsListed}
use Rattle.hs_judge.specs.Right.{IsRight}
use Rattle.hs_judge.specs.Listed.{IsAt, calculus_of, claim_count}

-- what right nodes may take for granted: sound definitions without lemmas, with every claim listed
pub record IsShown (r : Resolved) (program : Program) (atoms : ℕ) (nodes : List Node) (lines : List (ℕ × ℕ)) : Type 0 where
  pub sound : IsSound r.defs
  pub no_lemmas : r.defs.lemmas ≡ []
  pub listed : IsListed (calculus_of r program atoms) (claim_count r program) nodes lines

-- a line of claim k names, by number from 1, a node that concludes the goal with the residue
pub record Names (nodes : List Node) (lines : List (ℕ × ℕ)) (k : ℕ) (g : Goal) (residue : Formula) : Type 0 where
  pub place : ℕ
  pub line : Contains lines (k, suc place)
  pub node : Node
  pub there : slice_get nodes place ≡ Some node
  pub concludes : node.judgement ≡ Entails g residue

-- the claim of the entailment at a place from 0
abbrev pub entailment_number : Resolved → ℕ → ℕ
entailment_number r e = length r.defs.preds + suc e

-- each entailment has a line that names a node with its goal, and holds with the residue of each such node
abbrev pub ListedEntailmentsHold : Type 0
ListedEntailmentsHold = (r : Resolved) (program : Program) (atoms : ℕ) (nodes : List Node) (lines : List (ℕ × ℕ)) → IsShown r program atoms nodes lines →
    (e : ℕ) (entailment : Entailment) → slice_get r.entailments e ≡ Some entailment →
    ((residue : Formula) × Names nodes lines (entailment_number r e) (goal_of entailment) residue)
    × ((residue : Formula) → Names nodes lines (entailment_number r e) (goal_of entailment) residue → Holds r.defs (goal_of entailment) residue)

-- the start of each pair is safe for every number of steps
abbrev pub ListedPairsAreSafe : Type 0
ListedPairsAreSafe = (r : Resolved) (program : Program) (atoms : ℕ) (nodes : List Node) (lines : List (ℕ × ℕ)) → IsShown r program atoms nodes lines →
    IsSoundProgram r.defs program → (m i : ℕ) → PairExists program m i → (n : ℕ) → IsSafe r.defs program n (entry program m i)

-- where all invariants hold, each state that a node of a list of right nodes has is concluded
abbrev pub RightStatesAreConcluded : Type 0
RightStatesAreConcluded = (defs : Defs) (program : Program) (nodes : List Node) → IsSound defs → defs.lemmas ≡ [] → InvariantsHold defs →
    ((i : ℕ) → i < length nodes → IsAt (λ before n. IsRight defs program before n.judgement n.rule n.premises) nodes i) →
    (i : ℕ) (n : Node) (at : At) → slice_get nodes i ≡ Some n → n.judgement ≡ Runs at → Concluded defs program at
