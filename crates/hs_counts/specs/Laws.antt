-- What the layers above use of counts.
use Rattle.std.specs.Prelude.{◌≡◌, ℕ, ◌<◌, ℤ, pos, List}
use Rattle.std.specs.List.{All}
use Rattle.hs_pure.specs.declared.var.Var.{Var}
use Rattle.hs_pure.specs.Multiset
use Rattle.hs_pure.specs.Stack.{Stack}
use Rattle.hs_pure.specs.Truth.{value}
use Rattle.hs_pure.specs.Occurs.{lin_top}
use Rattle.hs_pure.specs.Assertion.{Assertion}
use Rattle.hs_pure.specs.Mirror.{assertion_top}
use Rattle.hs_reduction.specs.Layout.{Layout, layout, after}
use Rattle.hs_reduction.specs.Rebuilt.{CountsAreRight, rebuilt}
use Rattle.hs_counts.specs.declared.count.Count.{Count}
use Rattle.hs_counts.specs.Counts.{stack_with_counts, ItemsAreRight, counts_of}

-- right counts say how often their elements are there
abbrev pub CountsAreSaid : Type 0
CountsAreSaid = (t : Stack) (cs : List Count) → ItemsAreRight t cs → All (λ c. pos (Multiset.count (stack_with_counts t cs c.of).bag (value t c.element)) ≡ (t c.count).number) cs

-- nothing but elements is there
abbrev pub NothingElseIsSaid : Type 0
NothingElseIsSaid = (t : Stack) (cs : List Count) (v : Var) (x : ℤ) → All (λ c. c.of ≡ v → ¬ (value t c.element ≡ x)) cs → Multiset.count (stack_with_counts t cs v).bag x ≡ 0

-- the counts of a layout say the bags that are rebuilt of it
abbrev pub RebuiltByCounts : Type 0
RebuiltByCounts = (l : Layout) (t : Stack) → stack_with_counts t (counts_of l) ≡ rebuilt l t

-- where the counts of a layout are right, those of its list are
abbrev pub RightItems : Type 0
RightItems = (l : Layout) (t : Stack) → CountsAreRight l t → ItemsAreRight t (counts_of l)

-- the numbers of a reduction's counts are below the first number after its new ones
abbrev pub ItemsAreBelow : Type 0
ItemsAreBelow =
    (start : ℕ) (p : Assertion) → assertion_top p < start
    → All (λ c. (c.of.number < after (layout start p) p) × (lin_top c.element < after (layout start p) p) × (c.count.number < after (layout start p) p)) (counts_of (layout start p))
