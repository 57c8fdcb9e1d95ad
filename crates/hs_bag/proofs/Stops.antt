-- Layouts of formulas, and where a plain reduction stops.
use Rattle.std.proofs.Common.{◌≡◌, ℕ, ◌+◌, ◌*◌, ◌<◌, ◌≤◌, ◌^◌, min, length, sym, ap, ◌∙◌, subst, IsTrue, arith}
use Rattle.hs_pure.specs.declared.var.Var.{Var}
use Rattle.hs_pure.specs.Assertion.{Assertion}
use Rattle.hs_pure.specs.Mirror.{is_free_in}
use Rattle.hs_reduction.specs.Layout as Laid
use Rattle.hs_reduction.specs.Layout.{layout, width, compounds, after}
use Rattle.hs_reduction.specs.Instance.{Instance, replaced}
use Rattle.hs_reduction.specs.Reduction.{reduction}
use Rattle.hs_bag.specs.declared.layout.Layout.{Layout}
use Rattle.hs_bag.specs.Counting.{layout_of}
use Rattle.hs_bag_parts.specs.Size.{comparisons}
use Rattle.hs_bag.specs.Size.{reduction_comparisons, HasCounts}
use Rattle.hs_bag.specs.Substituting.{ReductionIsWide}
use Rattle.hs_bag.proofs.Sizes.{reduction-same}
use Rattle.hs_bag.proofs.Bounds.{numbers-bound}
use Rattle.hs_bag.proofs.Free.{free_in_reduction}

pub too_many_comparisons : (l : Laid.Layout) (start atoms n : ℕ) (p : Assertion) → l ≡ layout start p → n ≡ min (reduction_comparisons l p) (atoms + 1) → atoms < n → atoms < comparisons (reduction replaced start p)
too_many_comparisons l start atoms n p l_is n_is more =
    let same : comparisons (reduction replaced start p) ≡ reduction_comparisons l p = reduction-same start p ∙ sym (ap (λ (k : Laid.Layout). reduction_comparisons k p) l_is) in
    let less : atoms < reduction_comparisons l p = omega arith in
    subst (λ m. atoms < m) (sym same) less

pub too_many_numbers : (start atoms : ℕ) (p : Assertion) → atoms ≤ 2 ^ 30 → start + 2 ^ 30 < after (layout start p) p → atoms < comparisons (reduction replaced start p)
too_many_numbers start atoms p small more =
    let bound : after (layout start p) p ≤ start + comparisons (reduction replaced start p) = numbers-bound start p in
    less_by (after (layout start p) p) (comparisons (reduction replaced start p)) small more bound
  where
    less_by : (end n : ℕ) → atoms ≤ 2 ^ 30 → start + 2 ^ 30 < end → end ≤ start + n → atoms < n
    less_by end n h k b = omega arith

pub some_is_free : (l : Layout) (start : ℕ) (p : Assertion) → layout_of l ≡ layout start p → l.blocks ≡ length l.bags + compounds p → 0 < l.blocks → 0 < width (layout_of l) → (v : Var) × IsTrue (is_free_in v (reduction replaced start p))
some_is_free l start p l_is blocks_are some wide = free_in_reduction replaced start p (subst (λ (k : Laid.Layout). HasCounts k p) l_is (subst (λ n. 0 < n) blocks_are some, wide))

module _ (l : Layout) (fresh : ℕ) (p : Assertion) (l_is : layout_of l ≡ layout fresh p) where
  start_is : l.start ≡ fresh
  start_is = ap (λ (k : Laid.Layout). k.start) l_is

  pub own_layout : layout_of l ≡ layout l.start p
  own_layout = l_is ∙ ap (λ n. layout n p) (sym start_is)

  pub own_reduction : (way : Instance) (q : Assertion) → q ≡ reduction way l.start p → q ≡ reduction way fresh p
  own_reduction way q e = e ∙ ap (λ n. reduction way n p) start_is

  pub own_wide : (way : Instance) → ReductionIsWide way l.start p → ReductionIsWide way fresh p
  own_wide way h = subst (λ n. ReductionIsWide way n p) start_is h

  pub own_end : (next : ℕ) → l.blocks ≡ length l.bags + compounds p → l.start + l.new + l.blocks * width (layout_of l) ≤ next → after (layout fresh p) p ≤ next
  own_end next blocks_are h =
      subst (λ (k : Laid.Layout). after k p ≤ next) l_is (subst (λ b. l.start + l.new + b * width (layout_of l) ≤ next) blocks_are h)
