-- The steps of a sum of two lists of terms.
use Rattle.std.proofs.Common.{◌≡◌, ℕ, zero, suc, ◌+◌, ◌<◌, ◌≤◌, Bool, true, false, inl, inr, List, [], ◌∷◌, ◌++◌, length, get_or, drop, refl, sym, ap, ◌∙◌, subst, arith, nat_lt, ℤ, pos, ◌+ℤ◌, ◌*ℤ◌, map, take, cond, FitsSigned}
use Rattle.std.proofs.lemmas.Bool.Decides.{nat_tests, Decides-int_eq}
use Rattle.std.proofs.lemmas.Int.{ints, to_z-of_z}
use mir.Val.{SFits, to_z, of_z}
use mir.Syntax.{w128}
use Rattle.std.specs.Ordering.{int_eq}
use Rattle.std.proofs.lemmas.List.{append_assoc, drop_more, drop_all, map_more}
use Rattle.hs_pure.specs.declared.var.Var.{Var}
use Rattle.hs_elimination.specs.Linear.{place, merge, prepend, scale_term, HasWideTerm}

abbrev Entry : Type 0
Entry = Var × ℤ

lt_true : (m n : ℕ) → m < n → nat_lt m n ≡ true
lt_true m n h = grind (arith, nat_tests)

lt_false : (m n : ℕ) → n ≤ m → nat_lt m n ≡ false
lt_false m n h = grind (arith, nat_tests)

pub merge-lt : (e f : Entry) (es fs : List Entry) → place e.0 < place f.0 → merge (e ∷ es) (f ∷ fs) ≡ e ∷ merge es (f ∷ fs)
merge-lt e f es fs h = rw (lt_true (place e.0) (place f.0) h) refl

pub merge-eq : (e f : Entry) (es fs : List Entry) → place e.0 ≤ place f.0 → place f.0 ≤ place e.0 → merge (e ∷ es) (f ∷ fs) ≡ prepend e.0 (e.1 +ℤ f.1) (merge es fs)
merge-eq e f es fs h k = rw (lt_false (place e.0) (place f.0) k, lt_false (place f.0) (place e.0) h) refl

pub fits_zero : (c : ℤ) → int_eq c (pos 0) ≡ true → FitsSigned w128 c
fits_zero c h = let e : c ≡ pos 0 = (Decides-int_eq c (pos 0)).0 h in omega (arith, ints)

pub wide_prepend : (v : Var) (c : ℤ) (es : List Entry) → ¬ (FitsSigned w128 c) → HasWideTerm (prepend v c es)
wide_prepend v c es h = by_zero (int_eq c (pos 0)) refl
  where
    by_zero : (z : Bool) → int_eq c (pos 0) ≡ z → HasWideTerm (cond z es ((v, c) ∷ es))
    by_zero true e = absurd (h (fits_zero c e))
    by_zero false e = inl h

pub wide_after : (done es : List Entry) → HasWideTerm es → HasWideTerm (done ++ es)
wide_after [] es h = h
wide_after (e ∷ done) es h = inr (wide_after done es h)

prepend-append : (v : Var) (c : ℤ) (es : List Entry) → prepend v c [] ++ es ≡ prepend v c es
prepend-append v c es = by_zero (int_eq c (pos 0))
  where
    by_zero : (z : Bool) → cond z [] ((v, c) ∷ []) ++ es ≡ cond z es ((v, c) ∷ es)
    by_zero true = refl
    by_zero false = refl

module _ (k : ℤ) (a b done all : List Entry) (i j : ℕ) (d e : Entry)
    (sum_is : done ++ merge (map (scale_term k) (drop i a)) (drop j b) ≡ all) where
  module _ (p : i < length a) (q : j < length b) where
    pub wide_first : place (get_or a i d).0 < place (get_or b j e).0 → SFits w128 (get_or a i d).1
        → ¬ (SFits w128 (k *ℤ to_z w128 (of_z w128 (get_or a i d).1))) → HasWideTerm all
    wide_first h fits wide =
        let not_fit : ¬ (SFits w128 (k *ℤ (get_or a i d).1)) = simp to_z-of_z at wide in
        let step : merge (map (scale_term k) (drop i a)) (drop j b) ≡ scale_term k (get_or a i d) ∷ merge (map (scale_term k) (drop (i + 1) a)) (get_or b j e ∷ drop (j + 1) b)
        = rw (drop_more a i d p, drop_more b j e q) (merge-lt (scale_term k (get_or a i d)) (get_or b j e) (map (scale_term k) (drop (i + 1) a)) (drop (j + 1) b) h) in
        subst HasWideTerm sum_is (wide_after done _ (subst HasWideTerm (sym step) (inl not_fit)))

    first_step : place (get_or a i d).0 < place (get_or b j e).0
        → merge (map (scale_term k) (drop i a)) (drop j b) ≡ scale_term k (get_or a i d) ∷ merge (map (scale_term k) (drop (i + 1) a)) (drop j b)
    first_step h = rw (drop_more a i d p, drop_more b j e q) (merge-lt (scale_term k (get_or a i d)) (get_or b j e) (map (scale_term k) (drop (i + 1) a)) (drop (j + 1) b) h)

    pub sum_first : (c : ℤ) (now : List Entry) → place (get_or a i d).0 < place (get_or b j e).0 → SFits w128 (get_or a i d).1
        → SFits w128 (k *ℤ to_z w128 (of_z w128 (get_or a i d).1)) → c ≡ k *ℤ to_z w128 (of_z w128 (get_or a i d).1)
        → now ≡ done ++ ((get_or a i d).0, to_z w128 (of_z w128 c)) ∷ []
        → now ++ merge (map (scale_term k) (drop (i + 1) a)) (drop j b) ≡ all
    sum_first c now h fa fs is now_is =
        let x = get_or a i d in
        let later = merge (map (scale_term k) (drop (i + 1) a)) (drop j b) in
        let fits : SFits w128 c = subst (SFits w128) (sym is) fs in
        let exact : c ≡ k *ℤ x.1 = simp to_z-of_z at is in
        let kept : to_z w128 (of_z w128 c) ≡ k *ℤ x.1 = to_z-of_z w128 c fits ∙ exact in
        rw now_is (append_assoc done ((x.0, to_z w128 (of_z w128 c)) ∷ []) later ∙ ap (λ (zs : List Entry). done ++ zs) (ap (λ (z : ℤ). (x.0, z) ∷ later) kept ∙ sym (first_step h)) ∙ sum_is)

    both_step : place (get_or a i d).0 ≤ place (get_or b j e).0 → place (get_or b j e).0 ≤ place (get_or a i d).0
        → merge (map (scale_term k) (drop i a)) (drop j b) ≡ prepend (get_or a i d).0 (k *ℤ (get_or a i d).1 +ℤ (get_or b j e).1) (merge (map (scale_term k) (drop (i + 1) a)) (drop (j + 1) b))
    both_step l m = rw (drop_more a i d p, drop_more b j e q) (merge-eq (scale_term k (get_or a i d)) (get_or b j e) (map (scale_term k) (drop (i + 1) a)) (drop (j + 1) b) l m)

    pub wide_both : place (get_or a i d).0 ≤ place (get_or b j e).0 → place (get_or b j e).0 ≤ place (get_or a i d).0 → SFits w128 (get_or a i d).1 → SFits w128 (get_or b j e).1
        → ¬ (SFits w128 (k *ℤ to_z w128 (of_z w128 (get_or a i d).1) +ℤ to_z w128 (of_z w128 (get_or b j e).1))) → HasWideTerm all
    wide_both l m fa fb wide =
        let not_fit : ¬ (SFits w128 (k *ℤ (get_or a i d).1 +ℤ (get_or b j e).1)) = simp to_z-of_z at wide in
        subst HasWideTerm sum_is (wide_after done _ (subst HasWideTerm (sym (both_step l m)) (wide_prepend _ _ _ not_fit)))

    pub sum_both : (sum : ℤ) (now : List Entry) → place (get_or a i d).0 ≤ place (get_or b j e).0 → place (get_or b j e).0 ≤ place (get_or a i d).0 → SFits w128 (get_or a i d).1 → SFits w128 (get_or b j e).1
        → SFits w128 (k *ℤ to_z w128 (of_z w128 (get_or a i d).1) +ℤ to_z w128 (of_z w128 (get_or b j e).1))
        → sum ≡ k *ℤ to_z w128 (of_z w128 (get_or a i d).1) +ℤ to_z w128 (of_z w128 (get_or b j e).1)
        → now ≡ done ++ prepend (get_or a i d).0 (to_z w128 (of_z w128 sum)) []
        → now ++ merge (map (scale_term k) (drop (i + 1) a)) (drop (j + 1) b) ≡ all
    sum_both sum now l m fa fb fs is now_is =
        let x = get_or a i d in
        let later = merge (map (scale_term k) (drop (i + 1) a)) (drop (j + 1) b) in
        let fits : SFits w128 sum = subst (SFits w128) (sym is) fs in
        let exact : sum ≡ k *ℤ x.1 +ℤ (get_or b j e).1 = simp to_z-of_z at is in
        let kept : to_z w128 (of_z w128 sum) ≡ k *ℤ x.1 +ℤ (get_or b j e).1 = to_z-of_z w128 sum fits ∙ exact in
        rw now_is (append_assoc done (prepend x.0 (to_z w128 (of_z w128 sum)) []) later ∙ ap (λ (zs : List Entry). done ++ zs) (prepend-append x.0 (to_z w128 (of_z w128 sum)) later ∙ ap (λ (z : ℤ). prepend x.0 z later) kept ∙ sym (both_step l m)) ∙ sum_is)

  pub wide_left : i < length a → length b ≤ j → SFits w128 (get_or a i d).1
      → ¬ (SFits w128 (k *ℤ to_z w128 (of_z w128 (get_or a i d).1))) → HasWideTerm all
  wide_left p q fits wide =
      let not_fit : ¬ (SFits w128 (k *ℤ (get_or a i d).1)) = simp to_z-of_z at wide in
      let step : merge (map (scale_term k) (drop i a)) (drop j b) ≡ scale_term k (get_or a i d) ∷ merge (map (scale_term k) (drop (i + 1) a)) []
      = rw (drop_more a i d p, drop_all j b q) refl in
      subst HasWideTerm sum_is (wide_after done _ (subst HasWideTerm (sym step) (inl not_fit)))

-- ---- multiples

pub scale_next : (k : ℤ) (es done now : List Entry) (i : ℕ) (d : Entry) (product : ℤ) → i < length es → SFits w128 (get_or es i d).1 → FitsSigned w128 (k *ℤ to_z w128 (of_z w128 (get_or es i d).1)) → product ≡ k *ℤ to_z w128 (of_z w128 (get_or es i d).1) → done ≡ map (scale_term k) (take i es) → now ≡ done ++ ((get_or es i d).0, to_z w128 (of_z w128 product)) ∷ [] → now ≡ map (scale_term k) (take (i + 1) es)
scale_next k es done now i d product p fe fits is before after =
    let product_fits : SFits w128 product = subst (SFits w128) (sym is) fits in
    let e : to_z w128 (of_z w128 product) ≡ k *ℤ (get_or es i d).1 = to_z-of_z w128 product product_fits ∙ is ∙ ap (λ (z : ℤ). k *ℤ z) (to_z-of_z w128 (get_or es i d).1 fe) in
    after ∙ ap (λ (zs : List Entry). zs ++ ((get_or es i d).0, to_z w128 (of_z w128 product)) ∷ []) before ∙ ap (λ (z : ℤ). map (scale_term k) (take i es) ++ ((get_or es i d).0, z) ∷ []) e ∙ sym (map_more (scale_term k) es i d p)

pub wide_term : (k : ℤ) (es : List Entry) (i : ℕ) (d : Entry) → i < length es → SFits w128 (get_or es i d).1 → ¬ (FitsSigned w128 (k *ℤ to_z w128 (of_z w128 (get_or es i d).1))) → HasWideTerm (map (scale_term k) es)
wide_term k [] i d p fe wide = absurd (omega arith)
wide_term k (e ∷ es) zero d p fe wide = let not_fit : ¬ (FitsSigned w128 (k *ℤ e.1)) = simp to_z-of_z at wide in inl not_fit
wide_term k (e ∷ es) (suc i) d p fe wide = inr (wide_term k es i d (omega arith) fe wide)
