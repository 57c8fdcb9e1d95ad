-- The steps of a proof as nodes behind others.
use Rattle.std.specs.Prelude.{◌≡◌, ℕ, ◌+◌, ◌-◌, ◌≤◌, List, map, slice_get, Some}
use Rattle.hs_erule.specs.declared.step.Step.{Step}
use Rattle.hs_erule.specs.declared.step.Proof.{Proof}
use Rattle.hs_node.specs.declared.derivation.Node.{Node}
use Rattle.hs_node.specs.declared.judgement.Judgement.{Judgement}
use Rattle.hs_node.specs.declared.judgement.Judgement.TheVariants.{Entails}
use Rattle.hs_node.specs.declared.judgement.Rule.TheVariants.{E}

-- the step as a node when n nodes are put before those that its premises count
abbrev pub node_behind : ℕ → Step → Node
node_behind n s = record { judgement = Entails s.goal s.residue; rule = E s.rule; premises = map (λ p. n + p) s.premises }

-- the steps of a proof behind n nodes
abbrev pub placed : ℕ → Proof → List Node
placed n p = map (node_behind n) p.steps

-- the node of a number, from 1, says this
pub record Says (nodes : List Node) (k : ℕ) (judgement : Judgement) : Type 0 where
  pub first : 1 ≤ k
  pub node : Node
  pub there : slice_get nodes (k - 1) ≡ Some node
  pub says : node.judgement ≡ judgement
