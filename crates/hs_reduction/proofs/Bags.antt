-- Integers that are tested, and bags that are made of tables.
use Rattle.std.proofs.Common.{◌≡◌, ℕ, ℤ, pos, negsuc, ◌≤ℤ◌, true, false, ◌||◌, Option, Some, None, List, [], ◌∷◌, refl, sym, ap, ◌∙◌, arith, if◌then◌else◌, ◌⊎◌, inl, inr}
use Rattle.std.specs.FinMap
use Rattle.std.specs.FinMap.{same_map, int_cmp-IsAntisymmetric}
use Rattle.std.specs.Cmp.{int_cmp_total}
use Rattle.std.specs.Ordering.{int_eq}
use Rattle.std.proofs.lemmas.Int.{ints}
use Rattle.std.proofs.lemmas.Bool.{cases_Bool}
use Rattle.std.proofs.lemmas.Bool.Decides.{Decides-int_eq}
use Rattle.hs_pure.specs.Multiset
use Rattle.hs_pure.specs.Multiset.{Multiset, count_kept}
use Rattle.hs_pure.specs.Eval.{natural}
use Rattle.hs_pure.proofs.Listed.{count-nothing, count-set_count}
use Rattle.hs_truth.proofs.Elements.{is_among}
use Rattle.hs_reduction.specs.Rebuilt.{tabulate}

pub int_same : (x y : ℤ) → int_eq x y ≡ true → x ≡ y
int_same x y e = (Decides-int_eq x y).0 e

pub int_itself : (x : ℤ) → int_eq x x ≡ true
int_itself x = (Decides-int_eq x x).1 refl

pub int_equal : (x y : ℤ) → x ≡ y → int_eq x y ≡ true
int_equal x y e = (Decides-int_eq x y).1 e

pub int_other : (x y : ℤ) → ¬ (x ≡ y) → int_eq x y ≡ false
int_other x y apart = elim (cases_Bool (int_eq x y)) [ inl is ↦ absurd (apart (int_same x y is)) | inr isnt ↦ isnt ]

pub int_cases : (x y : ℤ) → (x ≡ y) ⊎ (¬ (x ≡ y))
int_cases x y = elim (cases_Bool (int_eq x y)) [
  | inl is ↦ inl (int_same x y is)
  | inr isnt ↦ inr (λ e. let is : int_eq x y ≡ true = int_equal x y e in absurd cc)
]

pub not_negative_is : (z : ℤ) → pos 0 ≤ℤ z → z ≡ pos (natural z)
not_negative_is (pos n) h = refl
not_negative_is (negsuc n) h = absurd (omega (arith, ints))

-- bags with equal counts are equal
kept_same : (a b : Option ℕ) → count_kept a ≡ count_kept b → a ≡ b
kept_same None None e = refl
kept_same None (Some n) e = absurd (omega arith)
kept_same (Some n) None e = absurd (omega arith)
kept_same (Some n) (Some k) e = let f : n ≡ k = omega arith in ap Some f

pub same_counts : (a b : Multiset) → ((x : ℤ) → Multiset.count a x ≡ Multiset.count b x) → a ≡ b
same_counts a b h = same_map int_cmp_total int_cmp-IsAntisymmetric a b (λ x. kept_same (FinMap.get a x) (FinMap.get b x) (h x))

-- a table has the counts that it was made of
pub count-tabulate : (f : ℤ → ℕ) (xs : List ℤ) (x : ℤ) → Multiset.count (tabulate f xs) x ≡ (if is_among x xs then f x else 0)
count-tabulate f [] x = count-nothing x
count-tabulate f (y ∷ ys) x = count-set_count (tabulate f ys) y (f y) x ∙ by_test (count-tabulate f ys x) (cases_Bool (int_eq x y))
  where
    by_test : Multiset.count (tabulate f ys) x ≡ (if is_among x ys then f x else 0) → ((int_eq x y ≡ true) ⊎ (int_eq x y ≡ false)) →
        (if int_eq x y then f y else Multiset.count (tabulate f ys) x) ≡ (if int_eq x y || is_among x ys then f x else 0)
    by_test rest (inl is) = rw is (ap f (sym (int_same x y is)))
    by_test rest (inr isnt) = rw isnt rest
