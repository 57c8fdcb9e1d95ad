-- Bags that are listed.
use Rattle.std.proofs.Common.{◌≡◌, ℕ, zero, suc, ℤ, pos, negsuc, ◌<ℤ◌, Bool, true, false, cond, Option, None, Some, List, [], ◌∷◌, refl, sym, ap, ◌∙◌, arith, unsigned_abs, if◌then◌else◌, ◌⊎◌, inl, inr}
use Rattle.std.proofs.lemmas.Int.{ints}
use Rattle.std.specs.FinMap
use Rattle.std.specs.Cmp.{int_cmp_total}
use Rattle.std.specs.Ordering.{int_cmp, int_eq}
use Rattle.std.proofs.lemmas.Bool.Decides.{Decides-int_eq}
use Rattle.hs_pure.specs.Multiset
use Rattle.hs_pure.specs.Multiset.{Multiset, count_kept, nothing, set_count}
use Rattle.hs_pure.specs.Eval.{natural, listed_count, multiset_of}

pub count-nothing : (x : ℤ) → Multiset.count nothing x ≡ 0
count-nothing x = ap count_kept (FinMap.get-empty int_cmp x)

kept_set : (b : Bool) (n : ℕ) (o : Option ℕ) → count_kept (cond b (Some n) o) ≡ (if b then suc n else count_kept o)
kept_set true n o = refl
kept_set false n o = refl

kept_removed : (b : Bool) (o : Option ℕ) → count_kept (cond b None o) ≡ (if b then 0 else count_kept o)
kept_removed true o = refl
kept_removed false o = refl

pub count-set_count : (m : Multiset) (y : ℤ) (n : ℕ) (x : ℤ) → Multiset.count (set_count m y n) x ≡ (if int_eq x y then n else Multiset.count m x)
count-set_count m y zero x = ap count_kept (FinMap.get-remove int_cmp_total m y x) ∙ kept_removed (int_eq x y) (FinMap.get m x)
count-set_count m y (suc n) x = ap count_kept (FinMap.get-insert int_cmp_total m y n x) ∙ kept_set (int_eq x y) n (FinMap.get m x)

bool_cases : (b : Bool) → (b ≡ true) ⊎ (b ≡ false)
bool_cases true = inl refl
bool_cases false = inr refl

int_sym : (x y : ℤ) → int_eq x y ≡ int_eq y x
int_sym x y = by_test (bool_cases (int_eq x y)) (bool_cases (int_eq y x))
  where
    by_test : ((int_eq x y ≡ true) ⊎ (int_eq x y ≡ false)) → ((int_eq y x ≡ true) ⊎ (int_eq y x ≡ false)) → int_eq x y ≡ int_eq y x
    by_test (inl e) (inl f) = e ∙ sym f
    by_test (inr e) (inr f) = e ∙ sym f
    by_test (inl e) (inr f) = let g : int_eq y x ≡ true = (Decides-int_eq y x).1 (sym ((Decides-int_eq x y).0 e)) in e ∙ sym g
    by_test (inr e) (inl f) = let g : int_eq x y ≡ true = (Decides-int_eq x y).1 (sym ((Decides-int_eq y x).0 f)) in g ∙ sym f

-- a listed bag has the listed counts
pub count-multiset_of : (es : List (ℤ × ℤ)) (x : ℤ) → Multiset.count (multiset_of es) x ≡ listed_count es x
count-multiset_of [] x = count-nothing x
count-multiset_of (e ∷ es) x = count-set_count (multiset_of es) e.0 (natural e.1) x ∙ (λ i. if int_sym x e.0 i then natural e.1 else count-multiset_of es x i)

natural-positive : (z : ℤ) → pos 0 <ℤ z → unsigned_abs z ≡ natural z
natural-positive (pos n) h = refl
natural-positive (negsuc n) h = absurd (omega (arith, ints))

natural-none : (z : ℤ) → ¬ (pos 0 <ℤ z) → 0 ≡ natural z
natural-none (pos zero) h = refl
natural-none (pos (suc n)) h = absurd (h (omega (arith, ints)))
natural-none (negsuc n) h = refl
