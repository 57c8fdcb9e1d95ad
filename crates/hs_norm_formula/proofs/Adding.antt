-- Sums that are added up from the left.
use Rattle.std.proofs.Common.{◌≡◌, ℕ, ◌+◌, ◌<◌, ℤ, List, [], ◌∷◌, length, take, drop, get_or, pos, Bool, true, false, slice_get, None, Some, refl, sym, ap, ◌∙◌}
use Rattle.std.specs.List.{fold, insert}
use Rattle.std.specs.Ordering.{int_eq}
use Rattle.std.proofs.lemmas.Bool.Decides.{Decides-int_eq}
use Rattle.std.specs.Option.{option_map}
use Rattle.std.proofs.lemmas.List.{take-append-drop}
use Rattle.std.proofs.lemmas.List.Sums.{fold_more, fold-append}
use Rattle.hs_pure.specs.declared.var.Var.{Var}
use Rattle.hs_pure.specs.declared.lin.Lin.{Lin}
use Rattle.hs_norm_formula.specs.declared.sum.Term.{Term}
use Rattle.hs_norm_formula.specs.Sum.{add, added, zero_sum, sum_of, place, is_of, put, changed}

none_stays : (ts : List Term) → fold add None ts ≡ None
none_stays [] = refl
none_stays (t ∷ ts) = none_stays ts

-- one more term
next : (ts : List Term) (i : ℕ) (d : Term) (a : Lin) → i < length ts → Some a ≡ added (take i ts) → added (take (i + 1) ts) ≡ add (Some a) (get_or ts i d)
next ts i d a lt e = fold_more add (Some zero_sum) ts i d lt ∙ ap (λ found. add found (get_or ts i d)) (sym e)

pub preserved : (ts : List Term) (i : ℕ) (d : Term) (old new : List (Var × ℤ)) (from to : ℤ) → i < length ts → Some (sum_of old from) ≡ added (take i ts) →
    option_map (sum_of new) (Some to) ≡ add (Some (sum_of old from)) (get_or ts i d) → Some (sum_of new to) ≡ added (take (i + 1) ts)
preserved ts i d old new from to lt e h = h ∙ sym (next ts i d (sum_of old from) lt e)

-- a number is too large
pub stopped : (ts : List Term) (i : ℕ) (d : Term) (old new : List (Var × ℤ)) (from : ℤ) → i < length ts → Some (sum_of old from) ≡ added (take i ts) →
    option_map (sum_of new) None ≡ add (Some (sum_of old from)) (get_or ts i d) → None ≡ added ts
stopped ts i d old new from lt e h =
    sym (ap added (sym (take-append-drop (i + 1) ts)) ∙ fold-append add (Some zero_sum) (take (i + 1) ts) (drop (i + 1) ts)
    ∙ ap (λ found. fold add found (drop (i + 1) ts)) (next ts i d (sum_of old from) lt e ∙ sym h) ∙ none_stays (drop (i + 1) ts))

not_zero : (z : ℤ) → (z ≡ pos 0 → ⊥) → int_eq z (pos 0) ≡ false
not_zero z apart = cases (int_eq z (pos 0)) refl
  where
    cases : (b : Bool) → int_eq z (pos 0) ≡ b → int_eq z (pos 0) ≡ false
    cases true e = absurd (apart ((Decides-int_eq z (pos 0)).0 e))
    cases false e = e

-- a variable that is not there yet
pub put_new : (v : Var) (c : ℤ) (ts us ws : List (Var × ℤ)) (i : ℕ) (there : Bool) → us ≡ ts → ws ≡ ts → i ≡ place v us → there ≡ is_of v (slice_get ws i) →
    there ≡ false → (c ≡ pos 0 → ⊥) → put v c ts ≡ insert ts i (v, c)
put_new v c ts us ws i there u w at is e f =
    let here : i ≡ place v ts = at ∙ ap (place v) u in
    let none : is_of v (slice_get ts (place v ts)) ≡ false = (λ j. is_of v (slice_get (sym w j) (sym here j))) ∙ sym is ∙ e in
    (λ j. changed (none j) (int_eq c (pos 0)) (place v ts) (v, c) ts) ∙ (λ j. changed false (not_zero c f j) (place v ts) (v, c) ts) ∙ (λ j. insert ts (sym here j) (v, c))
