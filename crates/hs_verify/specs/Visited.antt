-- What visiting and concluding a state leave.
use Rattle.std.specs.Prelude.{◌≡◌, ℕ, List, [], ◌∷◌, ◌++◌, length, map, reverse, Option, Some, None}
use Rattle.std.specs.List.{AllByRecursion}
use Rattle.hs_heap.specs.declared.formula.Formula.{Formula}
use Rattle.hs_heap.specs.declared.definitions.Defs.{Defs}
use Rattle.hs_goal.specs.declared.goal.Goal.{Goal}
use Rattle.hs_goal.specs.declared.rule.Limits.{Limits}
use Rattle.hs_core.specs.declared.program.Program.{Program}
use Rattle.hs_core.specs.declared.state.At.{At}
use Rattle.hs_core.specs.Set.{optional}
use Rattle.hs_erule.specs.declared.step.Proof.{Proof}
use Rattle.hs_node.specs.declared.derivation.Node.{Node}
use Rattle.hs_node.specs.declared.judgement.Judgement.TheVariants.{Entails, Runs}
use Rattle.hs_node.specs.declared.judgement.Rule.TheVariants.{P}
use Rattle.hs_proof_nodes.specs.Right.{AreRightNodes}
use Rattle.hs_proof_nodes.specs.Placed.{placed, Says}
use Rattle.hs_program_rules.specs.States.{StateFits}
use Rattle.hs_program_rules.specs.Table.{goal_of, premises_of}
use Rattle.hs_program_fits.specs.Prepared.{IsPrepared}
use Rattle.hs_verify.specs.declared.answer.HipAnswer.{HipAnswer}
use Rattle.hs_verify.specs.declared.answer.HipAnswer.TheVariants as answer
use Rattle.hs_verify.specs.declared.task.Task.{Task}
use Rattle.hs_verify.specs.declared.task.Taken.{Taken}
use Rattle.hs_verify.specs.declared.visiting.Visited.{Visited}
use Rattle.hs_verify.specs.declared.visiting.Visited.TheVariants as visited
use Rattle.hs_verify.specs.Tree.{Takes, IsStuck, IsCrowded}

-- ---- nodes

-- the nodes of a proof behind n nodes, if there is one
abbrev pub nodes_by : ℕ → Option Proof → List Node
nodes_by n None = []
nodes_by n (Some p) = placed n p

-- the number of the last of n nodes, if there is a proof
abbrev pub last_by : ℕ → Option Proof → Option ℕ
last_by n None = None
last_by n (Some p) = Some n

-- the node of a state whose rule was taken, from its goal and its further premises
abbrev pub node_of : At → Taken → List ℕ → Node
node_of at taken ends = record { judgement = Runs at; rule = P taken.rule; premises = optional taken.goal ++ ends }

-- where a goal is asked the node of this number concludes it with the residue
abbrev pub GivesGoal : List Node → Option Goal → Option ℕ → Formula → Type 0
GivesGoal nodes None None residue = Unit {0}
GivesGoal nodes None (Some k) residue = ⊥
GivesGoal nodes (Some g) None residue = ⊥
GivesGoal nodes (Some g) (Some k) residue = Says nodes k (Entails g residue)

-- ---- states

-- the state is well formed and prepared
pub record IsFit (defs : Defs) (program : Program) (at : At) : Type 0 where
  pub fits : StateFits defs program at
  pub prepared : IsPrepared program at

module _ (defs : Defs) (program : Program) (limits : Limits) (at : At) where
  -- the rule is taken, its goal concluded by a node, and its further premises are these
  pub record IsTakenTo (nodes : List Node) (taken : Taken) (premises : List At) : Type 0 where
    pub residue : Formula
    pub takes : Takes defs program limits at taken.rule residue
    pub goal : GivesGoal nodes (goal_of defs program at taken.rule) taken.goal residue
    pub premises_are : premises ≡ premises_of defs program at taken.rule residue

  -- and the nodes are right behind those before
  pub record GoesTo (before nodes : List Node) (taken : Taken) (premises : List At) : Type 0 where
    pub is_taken : IsTakenTo nodes taken premises
    pub further : taken.further ≡ length premises
    pub fit : AllByRecursion (IsFit defs program) premises
    pub more : List Node
    pub kept : nodes ≡ before ++ more
    pub right : AreRightNodes defs program nodes

  -- what came of the state
  abbrev pub IsVisited : List Node → List Node → Visited → Type 0
  IsVisited before nodes (visited.Goes taken premises) = GoesTo before nodes taken premises
  IsVisited before nodes (visited.Stuck causes) = IsStuck defs program limits at causes
  IsVisited before nodes visited.Crowded = IsCrowded defs program limits at

-- ---- tasks

abbrev pub to_visit : At → Task
to_visit at = record { at = at; taken = None }

abbrev pub to_conclude : At → Taken → Task
to_conclude at taken = record { at = at; taken = Some taken }

-- what a state that is visited leaves: its premises are to be visited, the first first, and then it is to be concluded
pub record LeavesTasks (defs : Defs) (program : Program) (limits : Limits) (at : At) (before nodes : List Node) (old new : List Task) : Type 0 where
  pub taken : Taken
  pub premises : List At
  pub goes : GoesTo defs program limits at before nodes taken premises
  pub tasks_are : new ≡ (old ++ to_conclude at taken ∷ []) ++ map to_visit (reverse premises)

-- or what is answered of it
abbrev pub IsNext : Defs → Program → Limits → At → List Node → List Node → List Task → List Task → Option HipAnswer → Type 0
IsNext defs program limits at before nodes old new None = LeavesTasks defs program limits at before nodes old new
IsNext defs program limits at before nodes old new (Some (answer.Accepted d)) = ⊥
IsNext defs program limits at before nodes old new (Some (answer.Unknown other causes)) = (other ≡ at) × IsStuck defs program limits at causes
IsNext defs program limits at before nodes old new (Some (answer.States other)) = ⊥
IsNext defs program limits at before nodes old new (Some (answer.Numbers other)) = (other ≡ at) × IsCrowded defs program limits at

-- the last so many numbers, and those before them
pub record IsSplit (ends left : List ℕ) (count : ℕ) (turned : List ℕ) : Type 0 where
  pub split : ends ≡ left ++ reverse turned
  pub long : length turned ≡ count

-- the last numbers name the further premises, and the number of the new node takes their place
pub record IsConcluded (at : At) (taken : Taken) (old : List Node) (ends : List ℕ) (nodes : List Node) (left : List ℕ) : Type 0 where
  pub front : List ℕ
  pub last : List ℕ
  pub split : ends ≡ front ++ last
  pub long : length last ≡ taken.further
  pub nodes_are : nodes ≡ old ++ node_of at taken last ∷ []
  pub ends_are : left ≡ front ++ length nodes ∷ []
