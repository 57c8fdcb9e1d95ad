-- What a reduction is, by its meaning.
use Rattle.std.specs.Prelude.{◌≡◌, ℕ, ◌<◌, ◌≤◌, ◌↔◌, false}
use Rattle.std.specs.List.{All}
use Rattle.hs_pure.specs.declared.pure.Pure.{Pure}
use Rattle.hs_pure.specs.Stack.{Stack}
use Rattle.hs_pure.specs.Truth.{TrueAt}
use Rattle.hs_pure.specs.Occurs.{has_bags, lin_top, top_of}
use Rattle.hs_pure.specs.Sums.{IsOrdered}
use Rattle.hs_counts.specs.declared.count.Count.{Count}
use Rattle.hs_counts.specs.declared.count.Reduced.{Reduced}
use Rattle.hs_counts.specs.Counts.{stack_with_counts, ItemsAreRight}

-- n is above the numbers of a count
abbrev pub IsAbove : ℕ → Count → Type 0
IsAbove n c = (c.of.number < n) × (lin_top c.element < n) × (c.count.number < n)

-- r is a reduction of f, whose new numbers begin with `fresh`
pub record IsReduction (f : Pure) (fresh : ℕ) (r : Reduced) : Type 0 where
  pub no_bags : has_bags r.pure ≡ false
  pub ordered : IsOrdered r.pure
  pub satisfiable : ((s : Stack) × TrueAt s f) ↔ ((t : Stack) × TrueAt t r.pure)
  pub counts : (t : Stack) → TrueAt t r.pure → ItemsAreRight t r.counts
  pub holds : (t : Stack) → TrueAt t r.pure → TrueAt (stack_with_counts t r.counts) f
  pub fresh_below : fresh ≤ r.next
  pub formula_below : top_of f < r.next
  pub pure_below : top_of r.pure < r.next
  pub counts_below : All (IsAbove r.next) r.counts
