-- The steps of a sum of two lists of terms.
use Rattle.std.proofs.Common.{◌≡◌, ℕ, zero, suc, ◌+◌, ◌*◌, ◌<◌, ◌≤◌, inl, inr, Bool, true, false, List, [], ◌∷◌, ◌++◌, length, get_or, drop, refl, sym, ap, ◌∙◌, subst, arith, nat_lt, ℤ, pos, ◌+ℤ◌, cond}
use Rattle.std.proofs.lemmas.Bool.Decides.{nat_tests}
use Rattle.std.proofs.lemmas.Int.{to_z-of_z}
use mir.Val.{SFits, to_z, of_z}
use mir.Syntax.{w128}
use Rattle.std.proofs.lemmas.List.{append_assoc, drop_more}
use Rattle.hs_pure.specs.declared.var.Var.{Var}
use Rattle.hs_pure.specs.declared.lin.Lin.{Lin}
use Rattle.hs_elimination.specs.Linear.{place, merge, prepend, plus, HasWideTerm}
use Rattle.hs_bag_parts.specs.Widths.{HasPlace, SharePlace}
use Rattle.hs_cooper_forms.proofs.Merging.{merge-lt, merge-eq, wide_prepend, wide_after}
use Rattle.hs_reduction.specs.Layout.{number_variable, variable}

abbrev Entry : Type 0
Entry = Var × ℤ

lt_true : (m n : ℕ) → m < n → nat_lt m n ≡ true
lt_true m n h = grind (arith, nat_tests)

lt_false : (m n : ℕ) → n ≤ m → nat_lt m n ≡ false
lt_false m n h = grind (arith, nat_tests)

prepend-append : (v : Var) (c : ℤ) (es : List Entry) → prepend v c [] ++ es ≡ prepend v c es
prepend-append v c es = by_zero _
  where
    by_zero : (z : Bool) → cond z [] ((v, c) ∷ []) ++ es ≡ cond z es ((v, c) ∷ es)
    by_zero true = refl
    by_zero false = refl

module _ (a b done all : List Entry) (i j : ℕ) (d e : Entry) (sum_is : done ++ merge (drop i a) (drop j b) ≡ all) (p : i < length a) (q : j < length b) where
  both_step : place (get_or a i d).0 ≤ place (get_or b j e).0 → place (get_or b j e).0 ≤ place (get_or a i d).0
      → merge (drop i a) (drop j b) ≡ prepend (get_or a i d).0 ((get_or a i d).1 +ℤ (get_or b j e).1) (merge (drop (i + 1) a) (drop (j + 1) b))
  both_step l m = rw (drop_more a i d p, drop_more b j e q) (merge-eq (get_or a i d) (get_or b j e) (drop (i + 1) a) (drop (j + 1) b) l m)

  pub wide_both : place (get_or a i d).0 ≤ place (get_or b j e).0 → place (get_or b j e).0 ≤ place (get_or a i d).0 → SFits w128 (get_or a i d).1 → SFits w128 (get_or b j e).1
      → ¬ (SFits w128 (to_z w128 (of_z w128 (get_or a i d).1) +ℤ to_z w128 (of_z w128 (get_or b j e).1))) → HasWideTerm all
  wide_both l m fa fb wide =
      let not_fit : ¬ (SFits w128 ((get_or a i d).1 +ℤ (get_or b j e).1)) = simp to_z-of_z at wide in
      subst HasWideTerm sum_is (wide_after done _ (subst HasWideTerm (sym (both_step l m)) (wide_prepend _ _ _ not_fit)))

  pub sum_both : (sum : ℤ) (now : List Entry) → place (get_or a i d).0 ≤ place (get_or b j e).0 → place (get_or b j e).0 ≤ place (get_or a i d).0 → SFits w128 (get_or a i d).1 → SFits w128 (get_or b j e).1
      → SFits w128 (to_z w128 (of_z w128 (get_or a i d).1) +ℤ to_z w128 (of_z w128 (get_or b j e).1))
      → sum ≡ to_z w128 (of_z w128 (get_or a i d).1) +ℤ to_z w128 (of_z w128 (get_or b j e).1)
      → now ≡ done ++ prepend (get_or a i d).0 (to_z w128 (of_z w128 sum)) []
      → now ++ merge (drop (i + 1) a) (drop (j + 1) b) ≡ all
  sum_both sum now l m fa fb fs is now_is =
      let x = get_or a i d in
      let later = merge (drop (i + 1) a) (drop (j + 1) b) in
      let fits : SFits w128 sum = subst (SFits w128) (sym is) fs in
      let exact : sum ≡ x.1 +ℤ (get_or b j e).1 = simp to_z-of_z at is in
      let kept : to_z w128 (of_z w128 sum) ≡ x.1 +ℤ (get_or b j e).1 = to_z-of_z w128 sum fits ∙ exact in
      rw now_is (append_assoc done (prepend x.0 (to_z w128 (of_z w128 sum)) []) later ∙ ap (λ (zs : List Entry). done ++ zs) (prepend-append x.0 (to_z w128 (of_z w128 sum)) later ∙ ap (λ (z : ℤ). prepend x.0 z later) kept ∙ sym (both_step l m)) ∙ sum_is)

  pub sum_first : (now : List Entry) → place (get_or a i d).0 < place (get_or b j e).0 → SFits w128 (get_or a i d).1
      → now ≡ done ++ ((get_or a i d).0, to_z w128 (of_z w128 (get_or a i d).1)) ∷ []
      → now ++ merge (drop (i + 1) a) (drop j b) ≡ all
  sum_first now h fa now_is =
      let x = get_or a i d in
      let later = merge (drop (i + 1) a) (drop j b) in
      let step : merge (drop i a) (drop j b) ≡ get_or a i d ∷ merge (drop (i + 1) a) (drop j b)
      = rw (drop_more a i d p, drop_more b j e q) (merge-lt (get_or a i d) (get_or b j e) (drop (i + 1) a) (drop (j + 1) b) h) in
      rw now_is (append_assoc done ((x.0, to_z w128 (of_z w128 x.1)) ∷ []) later
      ∙ ap (λ (zs : List Entry). done ++ zs) (ap (λ (z : ℤ). (x.0, z) ∷ later) (to_z-of_z w128 x.1 fa) ∙ sym step) ∙ sum_is)

-- ---- two variables

abbrev unit : Var → Entry
unit v = (v, pos 1)

pub plus_rising : (m n : ℕ) → m < n → ◌≡◌ {A = Lin} (record { terms = (number_variable m, pos 1) ∷ (number_variable n, pos 1) ∷ []; constant = pos 0 }) (plus (variable m) (variable n))
plus_rising m n h = let less : nat_lt (2 * m + 0) (2 * n + 0) ≡ true = lt_true (2 * m + 0) (2 * n + 0) (omega arith) in rw less refl

pub plus_swapped : (m n : ℕ) → n < m → plus (variable n) (variable m) ≡ plus (variable m) (variable n)
plus_swapped m n h =
    let less : nat_lt (2 * n + 0) (2 * m + 0) ≡ true = lt_true (2 * n + 0) (2 * m + 0) (omega arith) in
    let more : nat_lt (2 * m + 0) (2 * n + 0) ≡ false = lt_false (2 * m + 0) (2 * n + 0) (omega arith) in
    rw (less, more) refl

-- ---- variables that two sums share

has_at : (x : ℕ) (us : List Entry) (j : ℕ) (e : Entry) → j < length us → place (get_or us j e).0 ≡ x → HasPlace x us
has_at x [] j e h is = absurd (omega arith)
has_at x (u ∷ us) zero e h is = inl is
has_at x (u ∷ us) (suc j) e h is = inr (has_at x us j e (omega arith) is)

shared_at : (ts us : List Entry) (i j : ℕ) (d e : Entry) → i < length ts → j < length us → place (get_or us j e).0 ≡ place (get_or ts i d).0 → SharePlace ts us
shared_at [] us i j d e h k is = absurd (omega arith)
shared_at (t ∷ ts) us zero j d e h k is = inl (has_at (place t.0) us j e k is)
shared_at (t ∷ ts) us (suc i) j d e h k is = inr (shared_at ts us i j d e (omega arith) k is)

pub shared_both : (ts us : List Entry) (i j : ℕ) (d e : Entry) → i < length ts → j < length us → place (get_or ts i d).0 ≤ place (get_or us j e).0 → place (get_or us j e).0 ≤ place (get_or ts i d).0 → SharePlace ts us
shared_both ts us i j d e h k l m = shared_at ts us i j d e h k (omega arith)
