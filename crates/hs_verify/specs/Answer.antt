-- What the verifier answers of a pair.
use Rattle.std.specs.Prelude.{◌≡◌, ℕ, ◌<◌, ◌≤◌, List, [], ◌∷◌, ◌++◌}
use Rattle.hs_heap.specs.declared.definitions.Defs.{Defs}
use Rattle.hs_goal.specs.declared.rule.Limits.{Limits}
use Rattle.hs_core.specs.declared.program.Program.{Program}
use Rattle.hs_core.specs.declared.state.At.{At}
use Rattle.hs_node.specs.declared.judgement.Judgement.TheVariants.{Runs}
use Rattle.hs_node.specs.declared.derivation.Node.{Node}
use Rattle.hs_node.specs.declared.derivation.Derivation.{Derivation}
use Rattle.hs_proof_nodes.specs.Right.{AreRightNodes}
use Rattle.hs_verify.specs.declared.answer.HipAnswer.{HipAnswer}
use Rattle.hs_verify.specs.declared.answer.HipAnswer.TheVariants.{Accepted, Unknown, States, Numbers}
use Rattle.hs_verify.specs.Tree.{Reaches, IsStuck, IsCrowded}

-- right nodes, of which the last concludes the state; no claims
pub record IsDerivationOf (defs : Defs) (program : Program) (at : At) (d : Derivation) : Type 0 where
  pub right : AreRightNodes defs program d.nodes
  pub front : List Node
  pub last : Node
  pub ends : d.nodes ≡ front ++ last ∷ []
  pub concludes : last.judgement ≡ Runs at
  pub no_claims : d.claims ≡ []

module _ (defs : Defs) (program : Program) (limits : Limits) (start : At) where
  -- the tree comes to its end within the limit of states
  pub record IsClosed : Type 0 where
    pub states : ℕ
    pub few : states ≤ limits.goals
    pub ends : Reaches defs program limits start states []

  -- a state of the tree, with how many were before it
  pub record IsStateOf (at : At) : Type 0 where
    pub before : ℕ
    pub rest : List At
    pub reached : Reaches defs program limits start before (at ∷ rest)

  abbrev pub IsAnswer : HipAnswer → Type 0
  IsAnswer (Accepted d) = IsClosed × IsDerivationOf defs program start d
  IsAnswer (Unknown at causes) = (s : IsStateOf at) × (s.before < limits.goals) × IsStuck defs program limits at causes
  -- so many states were before it
  IsAnswer (States at) = (s : IsStateOf at) × (limits.goals ≤ s.before)
  IsAnswer (Numbers at) = IsStateOf at × IsCrowded defs program limits at
