-- Where to look for a free location.
use Rattle.std.specs.Prelude.{ℕ, ◌≤◌, ℤ, pos, ◌<ℤ◌, IsSome}
use Rattle.hs_heap.specs.Heap.{Heap, find_node}

-- low is positive, and each location below it has a node
pub record AreTaken (h : Heap) (low : ℕ) : Type 0 where
  pub positive : 1 ≤ low
  pub taken : (p : ℤ) → pos 0 <ℤ p → p <ℤ pos low → IsSome (find_node h p)
