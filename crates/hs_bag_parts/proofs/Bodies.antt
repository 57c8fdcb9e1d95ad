-- The comparisons of a formula of all elements of a bag.
use Rattle.std.proofs.Common.{◌≡◌, ℕ, ◌+◌, ◌*◌, min, Bool, refl, sym, ap, ◌∙◌, arith}
use Rattle.hs_pure.specs.declared.var.Var.{Var}
use Rattle.hs_pure.specs.declared.bag.Bag.{Bag}
use Rattle.hs_pure.specs.declared.pure.Pure.{Pure}
use Rattle.hs_pure.specs.declared.pure.Pure.TheVariants as pure_of
use Rattle.hs_pure.specs.Assertion.{pure_level, bag_term_of, assertion_of}
use Rattle.hs_pure.proofs.Views.{fold-AllOf}
use Rattle.hs_bag_parts.specs.Size.{bag_comparisons, times_stated, reduced_comparisons, comparisons_of, reduced_of}
use Rattle.hs_bag_parts.proofs.Stopped.{stated_capped}

same_capped : (a x y most : ℕ) → min x most ≡ min y most → min (a + x) most ≡ min (a + y) most
same_capped a x y most h = omega arith

one_more : (c k n most : ℕ) → k ≡ min c most → n ≡ min (1 + k) most → n ≡ min (1 + c) most
one_more c k n most k_is n_is = omega arith

pub all_of_capped : (w most : ℕ) (asserted : Bool) (u : Var) (b : Bag) (p whole : Pure) (k n r : ℕ) → whole ≡ pure_of.AllOf u b p → k ≡ min (comparisons_of p) most → n ≡ min (1 + k) most
    → r ≡ min (w * bag_comparisons (bag_term_of b) + times_stated w asserted n) most → r ≡ min (reduced_of w asserted whole) most
all_of_capped w most asserted u b p whole k n r is k_is n_is r_is =
    let body : n ≡ min (1 + comparisons_of p) most = one_more (comparisons_of p) k n most k_is n_is in
    let literal : min (times_stated w asserted n) most ≡ min (times_stated w asserted (1 + comparisons_of p)) most = stated_capped w most asserted (1 + comparisons_of p) n (min (times_stated w asserted n) most) body refl in
    r_is ∙ same_capped (w * bag_comparisons (bag_term_of b)) (times_stated w asserted n) (times_stated w asserted (1 + comparisons_of p)) most literal
    ∙ sym (ap (λ q. min (reduced_comparisons w asserted q) most) (ap assertion_of is ∙ fold-AllOf pure_level u b p))
