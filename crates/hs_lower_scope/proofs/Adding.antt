-- Sums that are added up from the left.
use Rattle.std.proofs.Common.{◌≡◌, ℕ, ◌+◌, ◌<◌, ℤ, List, [], ◌∷◌, length, map, take, drop, get_or, pos, Bool, true, false, slice_get, None, Some, refl, sym, ap, ◌∙◌}
use Rattle.std.specs.List.{fold, insert}
use Rattle.std.specs.Ordering.{int_eq}
use Rattle.std.proofs.lemmas.Bool.Decides.{Decides-int_eq}
use Rattle.std.specs.Option.{option_map}
use Rattle.std.proofs.lemmas.List.{take-append-drop, map-append, map_more}
use Rattle.std.proofs.lemmas.List.Sums.{fold-append}
use Rattle.hs_pure.specs.declared.var.Var.{Var}
use Rattle.hs_pure.specs.declared.lin.Lin.{Lin}
use Rattle.hs_norm_formula.specs.declared.sum.Term.{Term}
use Rattle.hs_norm_formula.specs.Sum.{add, added, zero_sum, sum_of, place, is_of, put, changed}

none_stays : (ts : List Term) → fold add None ts ≡ None
none_stays [] = refl
none_stays (t ∷ ts) = none_stays ts

module _ {A : Type 0} (f : A → Term) where
  -- one more term
  next : (xs : List A) (i : ℕ) (d : A) (a : Lin) → i < length xs → Some a ≡ added (map f (take i xs)) → added (map f (take (i + 1) xs)) ≡ add (Some a) (f (get_or xs i d))
  next xs i d a lt e = ap added (map_more f xs i d lt) ∙ fold-append add (Some zero_sum) (map f (take i xs)) (f (get_or xs i d) ∷ []) ∙ ap (λ found. add found (f (get_or xs i d))) (sym e)

  pub preserved : (xs : List A) (i : ℕ) (d : A) (t : Term) (old new : List (Var × ℤ)) (from to : ℤ) → i < length xs → Some (sum_of old from) ≡ added (map f (take i xs)) → t ≡ f (get_or xs i d) →
      option_map (sum_of new) (Some to) ≡ add (Some (sum_of old from)) t → Some (sum_of new to) ≡ added (map f (take (i + 1) xs))
  preserved xs i d t old new from to lt e is h = h ∙ ap (add (Some (sum_of old from))) is ∙ sym (next xs i d (sum_of old from) lt e)

  -- a number is too large
  pub stopped : (xs : List A) (i : ℕ) (d : A) (t : Term) (old new : List (Var × ℤ)) (from : ℤ) → i < length xs → Some (sum_of old from) ≡ added (map f (take i xs)) → t ≡ f (get_or xs i d) →
      option_map (sum_of new) None ≡ add (Some (sum_of old from)) t → None ≡ added (map f xs)
  stopped xs i d t old new from lt e is h =
      sym (ap (λ ys. added (map f ys)) (sym (take-append-drop (i + 1) xs)) ∙ ap added (map-append f (take (i + 1) xs) (drop (i + 1) xs))
      ∙ fold-append add (Some zero_sum) (map f (take (i + 1) xs)) (map f (drop (i + 1) xs))
      ∙ ap (λ found. fold add found (map f (drop (i + 1) xs))) (next xs i d (sum_of old from) lt e ∙ sym (h ∙ ap (add (Some (sum_of old from))) is)) ∙ none_stays (map f (drop (i + 1) xs)))

not_zero : (z : ℤ) → (z ≡ pos 0 → ⊥) → int_eq z (pos 0) ≡ false
not_zero z apart = cases (int_eq z (pos 0)) refl
  where
    cases : (b : Bool) → int_eq z (pos 0) ≡ b → int_eq z (pos 0) ≡ false
    cases true e = absurd (apart ((Decides-int_eq z (pos 0)).0 e))
    cases false e = e

-- a variable that is not there yet
pub put_new : (v : Var) (c : ℤ) (ts us ws : List (Var × ℤ)) (i : ℕ) (there : Bool) → us ≡ ts → ws ≡ ts → i ≡ place v us → there ≡ is_of v (slice_get ws i) →
    there ≡ false → (c ≡ pos 0 → ⊥) → put v c ts ≡ insert ts i (v, c)
put_new v c ts us ws i there u w at is e f =
    let here : i ≡ place v ts = at ∙ ap (place v) u in
    let none : is_of v (slice_get ts (place v ts)) ≡ false = (λ j. is_of v (slice_get (sym w j) (sym here j))) ∙ sym is ∙ e in
    (λ j. changed (none j) (int_eq c (pos 0)) (place v ts) (v, c) ts) ∙ (λ j. changed false (not_zero c f j) (place v ts) (v, c) ts) ∙ (λ j. insert ts (sym here j) (v, c))
