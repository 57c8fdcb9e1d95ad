-- Counts that stop at a bound.
use Rattle.std.proofs.Common.{◌≡◌, ℕ, zero, suc, ◌+◌, ◌*◌, ◌<◌, ◌≤◌, ◌⊎◌, inl, inr, min, Bool, true, false, ap, ◌∙◌, arith}
use Rattle.std.proofs.lemmas.Nat.{mul-le}
use Rattle.std.proofs.Math.Nat.{mul_comm}
use Rattle.hs_pure.specs.Assertion.{Assertion}
use Rattle.hs_bag_parts.specs.Size.{times_stated, reduced_comparisons}

pub min_times : (w m most : ℕ) → min (w * min m most) most ≡ min (w * m) most
min_times zero m most = omega arith
min_times (suc w) m most = by_order (grind arith)
  where
    by_order : ((m ≤ most) ⊎ (most < m)) → min (suc w * min m most) most ≡ min (suc w * m) most
    by_order (inl less) = let e : min m most ≡ m = omega arith in ap (λ k. min (suc w * k) most) e
    by_order (inr more) =
        let e : min m most ≡ most = omega arith in
        let row : most * 1 ≤ most * suc w = mul-le most 1 most (suc w) (omega arith) (omega arith) in
        let row_m : m * 1 ≤ m * suc w = mul-le m 1 m (suc w) (omega arith) (omega arith) in
        let c : suc w * most ≡ most * suc w = mul_comm (suc w) most in
        let d : suc w * m ≡ m * suc w = mul_comm (suc w) m in
        ap (λ k. min (suc w * k) most) e ∙ omega arith

pub min_sum : (m n most : ℕ) → min (min m most + min n most) most ≡ min (m + n) most
min_sum m n most = omega arith

module _ (w most : ℕ) where
  pub times_capped : (m n r : ℕ) → n ≡ min m most → r ≡ min (w * n) most → r ≡ min (w * m) most
  times_capped m n r n_is r_is = r_is ∙ ap (λ k. min (w * k) most) n_is ∙ min_times w m most

  pub stated_capped : (asserted : Bool) (m n r : ℕ) → n ≡ min m most → r ≡ min (times_stated w asserted n) most → r ≡ min (times_stated w asserted m) most
  stated_capped true m n r n_is r_is = times_capped m n r n_is r_is
  stated_capped false m n r n_is r_is = omega arith

pub sum_capped : (m n x y r most : ℕ) → x ≡ min m most → y ≡ min n most → r ≡ min (x + y) most → r ≡ min (m + n) most
sum_capped m n x y r most x_is y_is r_is = omega arith

pub counted_capped : (bags w most : ℕ) (p : Assertion) (v some row len counts literals r : ℕ) → v ≡ w → some ≡ min v most → row ≡ min (v * some) most → len ≡ bags → counts ≡ min (len * row) most
    → literals ≡ min (reduced_comparisons v true p) most → r ≡ min (counts + literals) most → r ≡ min (bags * (w * w) + reduced_comparisons w true p) most
counted_capped bags w most p v some row len counts literals r v_is some_is row_is len_is counts_is literals_is r_is =
    let row_as : row ≡ min (w * w) most = times_capped v most v some row some_is row_is ∙ ap (λ k. min (k * k) most) v_is in
    let counts_as : counts ≡ min (bags * (w * w)) most = times_capped len most (w * w) row counts row_as counts_is ∙ ap (λ k. min (k * (w * w)) most) len_is in
    sum_capped (bags * (w * w)) (reduced_comparisons w true p) counts literals r most counts_as (literals_is ∙ ap (λ k. min (reduced_comparisons k true p) most) v_is) r_is
