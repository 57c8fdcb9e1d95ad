-- When a list of nodes shows every claim, and what a verdict says. What right nodes and conclusions are is a parameter.
use Rattle.std.specs.Prelude.{◌≡◌, ℕ, suc, ◌<◌, ◌≤◌, List, length, slice_get, Some}
use Rattle.std.specs.List.{Any}
use Rattle.hs_check.specs.declared.verdict.NodeAnswer.{NodeAnswer}
use Rattle.hs_check.specs.declared.verdict.NodeAnswer.TheVariants as answer
use Rattle.hs_check.specs.declared.verdict.Reason.{Reason}
use Rattle.hs_check.specs.declared.verdict.Spent.{Spent}
use Rattle.hs_check.specs.declared.verdict.Spent.TheVariants as spent
use Rattle.hs_check.specs.declared.verdict.Verdict.{Verdict}
use Rattle.hs_check.specs.declared.verdict.Verdict.TheVariants.{Accepted, Refused, MissingClaim, Stopped}

-- what is asked of the nodes of a list, whose places count from 0
pub record Calculus (N : Type 0) : Type 1 where
  pub is_right : List N → ℕ → Type 0
  -- this test of the node fails, and those before it hold
  pub fails : List N → ℕ → Reason → Type 0
  -- a question of the node is past this bound
  pub is_spent : List N → ℕ → Spent → Type 0
  -- the claim of a number, from 1, is what the node concludes
  pub concludes : ℕ → N → Type 0

module _ {N : Type 0} (c : Calculus N) where
  -- what an answer says of the node at a place
  abbrev pub IsAnswer : List N → ℕ → NodeAnswer → Type 0
  IsAnswer nodes i answer.Right = c.is_right nodes i
  IsAnswer nodes i (answer.Wrong reason) = c.fails nodes i reason × ¬ (c.is_right nodes i)
  IsAnswer nodes i answer.Numbers = c.is_spent nodes i spent.Numbers
  IsAnswer nodes i answer.Atoms = c.is_spent nodes i spent.Atoms
  IsAnswer nodes i answer.Wide = c.is_spent nodes i spent.Wide

  -- the first n nodes are right
  abbrev pub AreRight : List N → ℕ → Type 0
  AreRight nodes n = (i : ℕ) → i < n → c.is_right nodes i

  -- the line is of claim k, and names by number from 1 a node that concludes it
  abbrev pub Claims : List N → ℕ → ℕ × ℕ → Type 0
  Claims nodes k line = (line.0 ≡ k) × ((i : ℕ) × ((suc i ≡ line.1) × ((n : N) × ((slice_get nodes i ≡ Some n) × c.concludes k n))))

  abbrev pub IsClaimed : List N → List (ℕ × ℕ) → ℕ → Type 0
  IsClaimed nodes lines k = Any (Claims nodes k) lines

  -- every node is right, and each of so many claims has a line; a line of another number claims nothing
  pub record IsListed (count : ℕ) (nodes : List N) (lines : List (ℕ × ℕ)) : Type 0 where
    pub right : AreRight nodes (length nodes)
    pub claimed : (k : ℕ) → 1 ≤ k → k ≤ count → IsClaimed nodes lines k

  -- what a verdict says
  abbrev pub HasCause : ℕ → List N → List (ℕ × ℕ) → Verdict → Type 0
  HasCause count nodes lines Accepted = IsListed count nodes lines
  HasCause count nodes lines (Refused k reason) = (i : ℕ) × ((suc i ≡ k) × ((i < length nodes) × (c.fails nodes i reason × AreRight nodes i)))
  HasCause count nodes lines (MissingClaim k) =
      (1 ≤ k) × ((k ≤ count) × (AreRight nodes (length nodes) × ((¬ (IsClaimed nodes lines k)) × ((j : ℕ) → 1 ≤ j → j < k → IsClaimed nodes lines j))))
  HasCause count nodes lines (Stopped k s) = (i : ℕ) × ((suc i ≡ k) × ((i < length nodes) × (c.is_spent nodes i s × AreRight nodes i)))

-- the verdicts on nodes and claims that are listed
abbrev pub AcceptsOrStops : Verdict → Type 0
AcceptsOrStops Accepted = Unit {0}
AcceptsOrStops (Refused k reason) = ⊥
AcceptsOrStops (MissingClaim k) = ⊥
AcceptsOrStops (Stopped k s) = Unit {0}
