-- A reduction has at least as many comparisons as new numbers.
use Rattle.std.proofs.Common.{◌≡◌, ℕ, zero, suc, ◌+◌, ◌*◌, ◌<◌, ◌≤◌, Bool, true, false, not, length, refl, arith}
use Rattle.std.proofs.lemmas.Nat.{mul-le}
use Rattle.std.proofs.Math.Nat.{add-mul, mul_comm}
use Rattle.hs_pure.specs.Assertion.{BagTerm, empty, name, one, union, inter, diff, Assertion, truth, eq, lt, le, divides, bag_eq, subset, member, all_of, negation, both, either, exists, forall}
use Rattle.hs_reduction.specs.Layout.{layout, width, after, bag_compounds, compounds, denied, if_denied}
use Rattle.hs_reduction.specs.Instance.{replaced}
use Rattle.hs_reduction.specs.Reduction.{reduction}
use Rattle.hs_bag_parts.specs.Size.{comparisons, bag_comparisons, times_stated, reduced_comparisons}
use Rattle.hs_bag.proofs.Sizes.{reduction-same}

bag-bound : (b : BagTerm) → bag_compounds b ≤ bag_comparisons b
bag-bound empty = omega arith
bag-bound (name v) = omega arith
bag-bound (one a) = omega arith
bag-bound (union a b) = let x = bag-bound a in let y = bag-bound b in omega arith
bag-bound (inter a b) = let x = bag-bound a in let y = bag-bound b in omega arith
bag-bound (diff a b) = let x = bag-bound a in let y = bag-bound b in omega arith

turned : (m n w : ℕ) → m ≤ n → m * w ≤ w * n
turned m n w h = let row : m * w ≤ n * w = mul-le m w n w h (omega arith) in let same : n * w ≡ w * n = mul_comm n w in omega arith

literal-bound : (w : ℕ) (asserted : Bool) (m n k : ℕ) → m ≤ n → 0 < k → if_denied asserted + m * w ≤ w * n + times_stated w asserted k
literal-bound w true m n k h less = let row = turned m n w h in omega arith
literal-bound w false m n k h less = let row = turned m n w h in omega arith

two-bound : (a b : BagTerm) → bag_compounds a + bag_compounds b ≤ bag_comparisons a + bag_comparisons b
two-bound a b = let x = bag-bound a in let y = bag-bound b in omega arith

both-bound : (w d e c k m n : ℕ) → d + c * w ≤ m → e + k * w ≤ n → (d + e) + (c + k) * w ≤ m + n
both-bound w d e c k m n h j = let rows : (c + k) * w ≡ c * w + k * w = add-mul c k w in omega arith

reduced-bound : (w : ℕ) (asserted : Bool) (p : Assertion) → denied asserted p + compounds p * w ≤ reduced_comparisons w asserted p
reduced-bound w asserted truth = omega arith
reduced-bound w asserted (eq a b) = omega arith
reduced-bound w asserted (lt a b) = omega arith
reduced-bound w asserted (le a b) = omega arith
reduced-bound w asserted (divides d a) = omega arith
reduced-bound w asserted (bag_eq a b) = literal-bound w asserted (bag_compounds a + bag_compounds b) (bag_comparisons a + bag_comparisons b) 1 (two-bound a b) (omega arith)
reduced-bound w asserted (subset a b) = literal-bound w asserted (bag_compounds a + bag_compounds b) (bag_comparisons a + bag_comparisons b) 1 (two-bound a b) (omega arith)
reduced-bound w asserted (member a b) = let row = turned (bag_compounds b) (bag_comparisons b) w (bag-bound b) in omega arith
reduced-bound w asserted (all_of u b p) = literal-bound w asserted (bag_compounds b) (bag_comparisons b) (1 + comparisons p) (bag-bound b) (omega arith)
reduced-bound w asserted (negation p) = reduced-bound w (not asserted) p
reduced-bound w asserted (both p q) = both-bound w (denied asserted p) (denied asserted q) (compounds p) (compounds q) _ _ (reduced-bound w asserted p) (reduced-bound w asserted q)
reduced-bound w asserted (either p q) = both-bound w (denied asserted p) (denied asserted q) (compounds p) (compounds q) _ _ (reduced-bound w asserted p) (reduced-bound w asserted q)
reduced-bound w asserted (exists u p) = omega arith
reduced-bound w asserted (forall u p) = omega arith

square-bound : (w : ℕ) → w ≤ w * w
square-bound zero = omega arith
square-bound (suc w) = let row : suc w * 1 ≤ suc w * suc w = mul-le (suc w) 1 (suc w) (suc w) (omega arith) (omega arith) in let one : suc w * 1 ≡ suc w = omega arith in omega arith

whole-bound : (l w n c k m : ℕ) → n + c * w ≤ m → k ≡ l * (w * w) → n + (l + c) * w ≤ k + m
whole-bound l w n c k m h e =
    let rows : (l + c) * w ≡ l * w + c * w = add-mul l c w in
    let more : l * w ≤ l * (w * w) = mul-le l w l (w * w) (omega arith) (square-bound w) in
    omega arith

pub numbers-bound : (start : ℕ) (p : Assertion) → after (layout start p) p ≤ start + comparisons (reduction replaced start p)
numbers-bound start p =
    let l = layout start p in
    let whole : denied true p + (length l.bags + compounds p) * width l ≤ length l.bags * (width l * width l) + reduced_comparisons (width l) true p
    = whole-bound (length l.bags) (width l) (denied true p) (compounds p) (length l.bags * (width l * width l)) (reduced_comparisons (width l) true p) (reduced-bound (width l) true p) refl in
    let same : comparisons (reduction replaced start p) ≡ length l.bags * (width l * width l) + reduced_comparisons (width l) true p = reduction-same start p in
    let all : after l p ≡ start + denied true p + (length l.bags + compounds p) * width l = refl in
    omega arith
