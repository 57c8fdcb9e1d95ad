-- The comparisons of a reduction are counted right.
use Rattle.std.proofs.Common.{◌≡◌, ℕ, zero, suc, ◌+◌, ◌*◌, Bool, true, false, not, length, refl, sym, ap, ◌∙◌, arith}
use Rattle.std.proofs.Math.Nat.{mul-add, add-mul}
use Rattle.hs_pure.specs.declared.var.Var.{Var}
use Rattle.hs_pure.specs.declared.lin.Lin.{Lin}
use Rattle.hs_pure.specs.Assertion.{BagTerm, empty, name, one, union, inter, diff, Assertion, truth, eq, lt, le, divides, bag_eq, subset, member, all_of, negation, both, either, exists, forall}
use Rattle.hs_reduction.specs.Layout.{Layout, layout, width, element, lin_place, after, bag_compounds, denied, compounds}
use Rattle.hs_reduction.specs.Instance.{Substitution, itself, instead, substituted, instance, replaced}
use Rattle.hs_reduction.specs.Reduction.{all_below, signed, defined, all_defined, reduced, equal_counts, is_count, are_counts, reduction, equal_at, within_at, positive_at, held_at}
use Rattle.hs_bag_parts.specs.Size.{comparisons, bag_comparisons, reduced_comparisons}
use Rattle.hs_bag.specs.Size.{reduction_comparisons}

all_below-each : (n c : ℕ) (f : ℕ → Assertion) → ((i : ℕ) → comparisons (f i) ≡ c) → comparisons (all_below n f) ≡ n * c
all_below-each zero c f h = omega arith
all_below-each (suc zero) c f h = h 0 ∙ omega arith
all_below-each (suc (suc n)) c f h = (λ i. all_below-each (suc n) c f h i + h (suc n) i) ∙ omega arith

signed-same : (b : Bool) (p : Assertion) → comparisons (signed b p) ≡ comparisons p
signed-same true p = refl
signed-same false p = refl

substituted-same : (f : Substitution) (n : ℕ) (p : Assertion) → comparisons (substituted f n p) ≡ comparisons p
substituted-same f n truth = refl
substituted-same f n (eq a b) = refl
substituted-same f n (lt a b) = refl
substituted-same f n (le a b) = refl
substituted-same f n (divides d a) = refl
substituted-same f n (bag_eq a b) = refl
substituted-same f n (subset a b) = refl
substituted-same f n (member a b) = refl
substituted-same f n (all_of u b p) = refl
substituted-same f n (negation p) = substituted-same f n p
substituted-same f n (both p q) = λ i. substituted-same f n p i + substituted-same f n q i
substituted-same f n (either p q) = λ i. substituted-same f n p i + substituted-same f n q i
substituted-same f n (exists u p) = refl
substituted-same f n (forall u p) = refl

instance-same : (u : Var) (a : Lin) (n : ℕ) (p : Assertion) → comparisons (instance replaced u a n p) ≡ comparisons p
instance-same u a n p = substituted-same (instead u a itself) n p

two_parts : (w a b : ℕ) → w * a + w * b ≡ w * (a + b)
two_parts w a b = sym (mul-add w a b)

square : (n : ℕ) → n * n + (1 + n * 2) ≡ suc n * suc n
square n = let e : suc n * suc n ≡ n * suc n + suc n = add-mul-one n (suc n) in let f : n * suc n ≡ n * n + n = mul-suc-one n in omega arith
  where
    add-mul-one : (n m : ℕ) → suc n * m ≡ n * m + m
    add-mul-one n m = let e : (n + 1) * m ≡ n * m + 1 * m = add-mul n 1 m in let f : 1 * m ≡ m = omega arith in let g : suc n ≡ n + 1 = omega arith in ap (λ k. k * m) g ∙ e ∙ ap (λ k. n * m + k) f

    mul-suc-one : (n : ℕ) → n * suc n ≡ n * n + n
    mul-suc-one n = let e : n * (n + 1) ≡ n * n + n * 1 = mul-add n n 1 in let f : n * 1 ≡ n = omega arith in let g : suc n ≡ n + 1 = omega arith in ap (λ k. n * k) g ∙ e ∙ ap (λ k. n * n + k) f

module _ (l : Layout) where
  defined-same : (block : ℕ) (b : BagTerm) (i : ℕ) → comparisons (defined l block b i) ≡ bag_comparisons b
  defined-same block empty i = refl
  defined-same block (name v) i = refl
  defined-same block (one a) i = refl
  defined-same block (union a b) i = λ j. defined-same block a i j + defined-same (block + bag_compounds a) b i j + 1
  defined-same block (inter a b) i = λ j. defined-same block a i j + defined-same (block + bag_compounds a) b i j + 4
  defined-same block (diff a b) i = λ j. defined-same block a i j + defined-same (block + bag_compounds a) b i j + 4

  all_defined-same : (block : ℕ) (b : BagTerm) → comparisons (all_defined l block b) ≡ width l * bag_comparisons b
  all_defined-same block b = all_below-each (width l) (bag_comparisons b) (defined l block b) (defined-same block b)

  both-same : (block : ℕ) (a b : BagTerm) → comparisons (all_defined l block a) + comparisons (all_defined l (block + bag_compounds a) b) ≡ width l * (bag_comparisons a + bag_comparisons b)
  both-same block a b = (λ i. all_defined-same block a i + all_defined-same (block + bag_compounds a) b i) ∙ two_parts (width l) (bag_comparisons a) (bag_comparisons b)

  module _ (end : ℕ) where
    pub reduced-same : (asserted : Bool) (p : Assertion) (new block : ℕ) → comparisons (reduced l replaced end asserted p new block) ≡ reduced_comparisons (width l) asserted p
    reduced-same true (bag_eq a b) new block = λ i. both-same block a b i + all_below-each (width l) 1 (equal_at l block a b) (λ i. refl) i
    reduced-same false (bag_eq a b) new block = λ i. both-same block a b i + 1
    reduced-same true (subset a b) new block = λ i. both-same block a b i + all_below-each (width l) 1 (within_at l block a b) (λ i. refl) i
    reduced-same false (subset a b) new block = λ i. both-same block a b i + 1
    reduced-same asserted (member a b) new block = λ i. all_defined-same block b i + signed-same asserted (positive_at l block b (lin_place a l.listed)) i
    reduced-same true (all_of u b p) new block =
        λ i. all_defined-same block b i + all_below-each (width l) (1 + comparisons p) (held_at l replaced end block u b p) (λ i. ap (λ n. 1 + n) (instance-same u (element l i) end p)) i
    reduced-same false (all_of u b p) new block = λ i. all_defined-same block b i + (1 + instance-same u (element l (length l.listed + new)) end p i)
    reduced-same asserted (negation p) new block = reduced-same (not asserted) p new block
    reduced-same true (both p q) new block = λ i. reduced-same true p new block i + reduced-same true q (new + denied true p) (block + compounds p) i
    reduced-same false (both p q) new block = λ i. reduced-same false p new block i + reduced-same false q (new + denied false p) (block + compounds p) i
    reduced-same true (either p q) new block = λ i. reduced-same true p new block i + reduced-same true q (new + denied true p) (block + compounds p) i
    reduced-same false (either p q) new block = λ i. reduced-same false p new block i + reduced-same false q (new + denied false p) (block + compounds p) i
    reduced-same asserted truth new block = signed-same asserted truth
    reduced-same asserted (eq a b) new block = signed-same asserted (eq a b)
    reduced-same asserted (lt a b) new block = signed-same asserted (lt a b)
    reduced-same asserted (le a b) new block = signed-same asserted (le a b)
    reduced-same asserted (divides d a) new block = signed-same asserted (divides d a)
    reduced-same asserted (exists u p) new block = signed-same asserted (exists u p)
    reduced-same asserted (forall u p) new block = signed-same asserted (forall u p)

  is_count-same : (block i : ℕ) → comparisons (is_count l block i) ≡ 1 + i * 2
  is_count-same block i = ap (λ n. 1 + n) (all_below-each i 2 (equal_counts l block i) (λ j. refl))

  are_counts-same : (block n : ℕ) → comparisons (all_below n (is_count l block)) ≡ n * n
  are_counts-same block zero = refl
  are_counts-same block (suc zero) = is_count-same block 0
  are_counts-same block (suc (suc n)) = (λ i. are_counts-same block (suc n) i + is_count-same block (suc n) i) ∙ square (suc n)

-- the reduction has as many comparisons as are counted
pub reduction-same : (start : ℕ) (p : Assertion) → comparisons (reduction replaced start p) ≡ reduction_comparisons (layout start p) p
reduction-same start p =
    let l = layout start p in
    λ i. all_below-each (length l.bags) (width l * width l) (are_counts l) (λ block. are_counts-same l block (width l)) i + reduced-same l (after l p) true p 0 (length l.bags) i
