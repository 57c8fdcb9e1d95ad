-- The reduction on a layout is the reduction of the formula that the layout is of.
use Rattle.std.proofs.Common.{◌≡◌, ℕ, ◌+◌, ◌*◌, ◌≤◌, true, length, ap, ◌∙◌, subst, arith}
use Rattle.hs_pure.specs.Assertion.{Assertion, both}
use Rattle.hs_reduction.specs.Layout as Laid
use Rattle.hs_reduction.specs.Layout.{layout, width, compounds, denied, after}
use Rattle.hs_reduction.specs.Instance.{Instance}
use Rattle.hs_reduction.specs.Reduction.{all_below, are_counts, reduced, reduction}
use Rattle.hs_bag.specs.Substituting.{ReducedIsWide, ReductionIsWide}

module _ (way : Instance) (start : ℕ) (p : Assertion) (l : Laid.Layout) (l_is : l ≡ layout start p) where
  pub has_elements : denied true p ≤ l.new
  has_elements = let e : l.new ≡ denied true p = ap (λ (l : Laid.Layout). l.new) l_is in omega arith

  module _ (blocks end : ℕ) (blocks_are : blocks ≡ length l.bags + compounds p) (end_is : end ≡ l.start + l.new + blocks * width l) where
    end_as : end ≡ after l p
    end_as = end_is ∙ ap (λ n. l.start + l.new + n * width l) blocks_are

    pub reduction_is : (a b whole : Assertion) → a ≡ all_below (length l.bags) (are_counts l) → b ≡ reduced l way end true p 0 (length l.bags) → whole ≡ both a b → whole ≡ reduction way start p
    reduction_is a b whole a_is b_is whole_is =
        whole_is ∙ (λ j. both (a_is j) ((b_is ∙ ap (λ e. reduced l way e true p 0 (length l.bags)) end_as) j))
        ∙ ap (λ (l : Laid.Layout). both (all_below (length l.bags) (are_counts l)) (reduced l way (after l p) true p 0 (length l.bags))) l_is

    pub wide_whole : ReducedIsWide l way end true p 0 → ReductionIsWide way start p
    wide_whole h = subst (λ (l : Laid.Layout). ReducedIsWide l way (after l p) true p 0) l_is (subst (λ e. ReducedIsWide l way e true p 0) end_as h)
