-- What the premises of a node name: judgements of the nodes before it.
use Rattle.std.specs.Prelude.{ℕ, zero, suc, List, [], ◌∷◌, length, Option, Some, None, slice_get}
use Rattle.std.specs.List.{All}
use Rattle.hs_heap.specs.declared.formula.Formula.{Formula}
use Rattle.hs_goal.specs.declared.goal.Goal.{Goal}
use Rattle.hs_core.specs.Sound.{IsUpTo}
use Rattle.hs_node.specs.declared.judgement.Judgement.{Judgement}
use Rattle.hs_node.specs.declared.judgement.Judgement.TheVariants.{Shown, Entails, Runs}
use Rattle.hs_node.specs.declared.derivation.Node.{Node}

-- the item of a number from 1
abbrev pub item_at : {A : Type 0} → List A → ℕ → Option A
item_at xs zero = None
item_at xs (suc n) = slice_get xs n

-- the judgement of a node in front of others; where there is no node, none
abbrev pub in_front : Option Node → List Judgement → List Judgement
in_front None js = []
in_front (Some n) js = n.judgement ∷ js

-- the judgements of the nodes of these numbers, up to the first number that is of no node
abbrev pub named : List Node → List ℕ → List Judgement
named before [] = []
named before (k ∷ ks) = in_front (item_at before k) (named before ks)

-- each is the number of a node
abbrev pub AreEarlier : List Node → List ℕ → Type 0
AreEarlier before ks = All (IsUpTo (length before)) ks

-- ---- entailments

-- the judgement is an entailment
abbrev pub IsEntailment : Judgement → Type 0
IsEntailment (Shown pred) = ⊥
IsEntailment (Entails g residue) = Unit {0}
IsEntailment (Runs at) = ⊥

-- the goal and the residue of an entailment
abbrev pub goal_and_residue : Judgement → Option (Goal × Formula)
goal_and_residue (Shown pred) = None
goal_and_residue (Entails g residue) = Some (g, residue)
goal_and_residue (Runs at) = None

-- those of a node
abbrev pub entailment_of : Option Node → Option (Goal × Formula)
entailment_of None = None
entailment_of (Some n) = goal_and_residue n.judgement

abbrev pub pair_in_front : Option (Goal × Formula) → List (Goal × Formula) → List (Goal × Formula)
pair_in_front None ps = []
pair_in_front (Some p) ps = p ∷ ps

-- the goals and the residues of entailments, up to the first judgement that is none
abbrev pub entailments : List Judgement → List (Goal × Formula)
entailments [] = []
entailments (j ∷ js) = pair_in_front (goal_and_residue j) (entailments js)
