-- Where the instances of a reduction take a number past 128 bits.
use Rattle.std.specs.Prelude.{ℕ, not, Bool, true, false, ◌+◌, ◌<◌, ◌⊎◌, length}
use Rattle.hs_pure.specs.Assertion.{Assertion, truth, eq, lt, le, divides, bag_eq, subset, member, all_of, negation, both, either, exists, forall}
use Rattle.hs_reduction.specs.Layout.{denied, Layout, layout, width, element, after}
use Rattle.hs_reduction.specs.Instance.{Instance}
use Rattle.hs_bag_parts.specs.Substituting.{InstanceIsWide}

module _ (l : Layout) (way : Instance) (end : ℕ) where
  -- some instance of the reduced assertion, or of its denial, has such a sum
  abbrev pub ReducedIsWide : Bool → Assertion → ℕ → Type 0
  ReducedIsWide asserted truth new = ⊥
  ReducedIsWide asserted (eq a b) new = ⊥
  ReducedIsWide asserted (lt a b) new = ⊥
  ReducedIsWide asserted (le a b) new = ⊥
  ReducedIsWide asserted (divides d a) new = ⊥
  ReducedIsWide asserted (bag_eq a b) new = ⊥
  ReducedIsWide asserted (subset a b) new = ⊥
  ReducedIsWide asserted (member a b) new = ⊥
  ReducedIsWide true (all_of u b p) new = (i : ℕ) × ((i < width l) × InstanceIsWide way u (element l i) end p)
  ReducedIsWide false (all_of u b p) new = InstanceIsWide way u (element l (length l.listed + new)) end p
  ReducedIsWide asserted (negation p) new = ReducedIsWide (not asserted) p new
  ReducedIsWide asserted (both p q) new = ReducedIsWide asserted p new ⊎ ReducedIsWide asserted q (new + denied asserted p)
  ReducedIsWide asserted (either p q) new = ReducedIsWide asserted p new ⊎ ReducedIsWide asserted q (new + denied asserted p)
  ReducedIsWide asserted (exists u p) new = ⊥
  ReducedIsWide asserted (forall u p) new = ⊥

-- the reduction takes a number past 128 bits
abbrev pub ReductionIsWide : Instance → ℕ → Assertion → Type 0
ReductionIsWide way start p = ReducedIsWide (layout start p) way (after (layout start p) p) true p 0
