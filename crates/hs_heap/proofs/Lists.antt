-- Tests of lists of variables.
use Rattle.std.proofs.Common.{◌≡◌, ℕ, suc, ◌<◌, ◌≤◌, Bool, true, false, not, ◌&&◌, ◌==◌, nat_lt, IsTrue, List, [], ◌∷◌, length, map, refl, sym, ap, ◌∙◌, subst, arith}
use Rattle.std.specs.List.{All, list_all, list_any}
use Rattle.std.proofs.lemmas.List.{length-map}
use Rattle.std.proofs.lemmas.List.Elements.{All-nil, All-cons, All-head, All-tail}
use Rattle.hs_pure.specs.declared.var.Var.{Var}
use Rattle.hs_pure.specs.Stack.{same}
use Rattle.hs_pure.proofs.Vars.{or_left, or_right}
use mathlib.Core.Bool.{beq}
use Rattle.hs_heap.specs.Meaning.{is_in}
use Rattle.hs_heap.specs.Sound.{IsNumbered, AreDistinct, AreNumberedFrom, kinds}
use Rattle.hs_heap.specs.Tests.{are_distinct, follow_from, same_kinds}
use Rattle.hs_heap.proofs.Stacks.{same_true, same_itself}
use Rattle.hs_heap.proofs.Tells.{Tells, tells, tells_both, tells_all, tells_not, tells_lt, tells_eq, either_all}

none : {A : Type 0} → IsTrue false → A
none h = absurd cc

module _ {X : Type 0} (q : Var → X → Bool) (S : Var → Type 0) where
  -- what holds of all that pass at some element
  pub any_forth : (xs : List X) → All (λ x. (v : Var) → IsTrue (q v x) → S v) xs → (v : Var) → IsTrue (list_any (q v) xs) → S v
  any_forth [] h = λ v k. none k
  any_forth (x ∷ xs) h = either_all (λ v. q v x) (λ v. list_any (q v) xs) S (All-head (λ x. (v : Var) → IsTrue (q v x) → S v) x xs h) (any_forth xs (All-tail (λ x. (v : Var) → IsTrue (q v x) → S v) x xs h))

  pub any_back : (xs : List X) → ((v : Var) → IsTrue (list_any (q v) xs) → S v) → All (λ x. (v : Var) → IsTrue (q v x) → S v) xs
  any_back [] h = All-nil (λ x. (v : Var) → IsTrue (q v x) → S v)
  any_back (x ∷ xs) h = All-cons (λ x. (v : Var) → IsTrue (q v x) → S v) x xs (λ v k. h v (or_left (q v x) (list_any (q v) xs) k)) (any_back xs (λ v k. h v (or_right (q v x) (list_any (q v) xs) k)))

module _ (S : Var → Type 0) where
  -- what holds of each listed variable
  pub listed_forth : (vs : List Var) → All S vs → (v : Var) → IsTrue (is_in v vs) → S v
  listed_forth [] h = λ v k. none k
  listed_forth (w ∷ ws) h = either_all (λ v. same v w) (λ v. is_in v ws) S (λ v e. subst S (sym (same_true v w e)) (All-head S w ws h)) (listed_forth ws (All-tail S w ws h))

  pub listed_back : (vs : List Var) → ((v : Var) → IsTrue (is_in v vs) → S v) → All S vs
  listed_back [] h = All-nil S
  listed_back (w ∷ ws) h = All-cons S w ws (h w (or_left (same w w) (is_in w ws) (same_itself w))) (listed_back ws (λ v k. h v (or_right (same v w) (is_in v ws) k)))

pub distinct_told : (vs : List Var) → Tells (are_distinct vs) (AreDistinct vs)
distinct_told [] = (λ h. tt, λ h. refl)
distinct_told (v ∷ vs) = tells_both (not (is_in v vs)) (are_distinct vs) (is_in v vs ≡ false) (AreDistinct vs) (tells_not (is_in v vs)) (distinct_told vs)

pub follow_told : (next n : ℕ) (vs : List Var) → 1 ≤ n → Tells (follow_from next n vs) (AreNumberedFrom n vs × All (IsNumbered next) vs)
follow_told next n [] le = (λ h. (tt, All-nil (IsNumbered next)), λ h. refl)
follow_told next n (v ∷ vs) le = tells (follow_from next n (v ∷ vs)) ((v.number ≡ n) × ((n < next) × (AreNumberedFrom (suc n) vs × All (IsNumbered next) vs))) (AreNumberedFrom n (v ∷ vs) × All (IsNumbered next) (v ∷ vs))
    (tells_both (v.number == n) (nat_lt n next && follow_from next (suc n) vs) (v.number ≡ n) ((n < next) × (AreNumberedFrom (suc n) vs × All (IsNumbered next) vs)) (tells_eq v.number n)
    (tells_both (nat_lt n next) (follow_from next (suc n) vs) (n < next) (AreNumberedFrom (suc n) vs × All (IsNumbered next) vs) (tells_lt n next) (follow_told next (suc n) vs (omega arith))))
    (λ h. ((h.0, h.1.1.0), All-cons (IsNumbered next) v vs (subst (λ k. (1 ≤ k) × (k < next)) (sym h.0) (le, h.1.0)) h.1.1.1))
    (λ h. (h.0.0, (subst (λ k. k < next) h.0.0 (All-head (IsNumbered next) v vs h.1).1, (h.0.1, All-tail (IsNumbered next) v vs h.1))))

-- ---- kinds

kind_told : (a b : Bool) → Tells (beq a b) (a ≡ b)
kind_told true true = (λ h. refl, λ h. refl)
kind_told true false = (λ h. absurd cc, λ h. absurd cc)
kind_told false true = (λ h. absurd cc, λ h. absurd cc)
kind_told false false = (λ h. refl, λ h. refl)

pub kinds_told : (vs ws : List Var) → Tells (same_kinds vs ws) (kinds vs ≡ kinds ws)
kinds_told [] [] = (λ h. refl, λ h. refl)
kinds_told [] (w ∷ ws) = (λ h. let e : suc (length ws) ≡ 0 = (tells_eq (length (w ∷ ws)) 0).0 h in absurd (omega arith), λ h. absurd cc)
kinds_told (v ∷ vs) [] = (λ h. none h, λ h. absurd cc)
kinds_told (v ∷ vs) (w ∷ ws) = tells (beq v.bag w.bag && same_kinds vs ws) ((v.bag ≡ w.bag) × (kinds vs ≡ kinds ws)) (kinds (v ∷ vs) ≡ kinds (w ∷ ws))
    (tells_both (beq v.bag w.bag) (same_kinds vs ws) (v.bag ≡ w.bag) (kinds vs ≡ kinds ws) (kind_told v.bag w.bag) (kinds_told vs ws))
    (λ h. λ i. h.0 i ∷ h.1 i) (λ h. (cc, cc))

module _ {F : Type 0} where
  numbers_forth : (fs : List F) (vs : List Var) → length fs ≡ length vs → All (λ (v : Var). v.bag ≡ false) vs → map (λ f. false) fs ≡ kinds vs
  numbers_forth [] [] e h = refl
  numbers_forth [] (v ∷ vs) e h = absurd (omega arith)
  numbers_forth (f ∷ fs) [] e h = absurd (omega arith)
  numbers_forth (f ∷ fs) (v ∷ vs) e h =
      let first : v.bag ≡ false = All-head (λ (v : Var). v.bag ≡ false) v vs h in
      let rest = numbers_forth fs vs (omega arith) (All-tail (λ (v : Var). v.bag ≡ false) v vs h) in
      λ i. sym first i ∷ rest i

  numbers_back : (fs : List F) (vs : List Var) → map (λ f. false) fs ≡ kinds vs → All (λ (v : Var). v.bag ≡ false) vs
  numbers_back fs [] e = All-nil _
  numbers_back [] (v ∷ vs) e = absurd cc
  numbers_back (f ∷ fs) (v ∷ vs) e = All-cons (λ (v : Var). v.bag ≡ false) v vs (cc) (numbers_back fs vs (cc))

  pub numbers_told : (fs : List F) (vs : List Var) → Tells ((length fs == length vs) && list_all (λ (v : Var). not v.bag) vs) (map (λ f. false) fs ≡ kinds vs)
  numbers_told fs vs = tells ((length fs == length vs) && list_all (λ (v : Var). not v.bag) vs) ((length fs ≡ length vs) × All (λ (v : Var). v.bag ≡ false) vs) (map (λ f. false) fs ≡ kinds vs)
      (tells_both (length fs == length vs) (list_all (λ (v : Var). not v.bag) vs) (length fs ≡ length vs) (All (λ (v : Var). v.bag ≡ false) vs) (tells_eq (length fs) (length vs)) (tells_all (λ (v : Var). not v.bag) (λ (v : Var). v.bag ≡ false) (λ (v : Var). tells_not v.bag) vs))
      (λ h. numbers_forth fs vs h.0 h.1)
      (λ h. (sym (length-map fs (λ (f : F). false)) ∙ ap length h ∙ length-map vs (λ (v : Var). v.bag), numbers_back fs vs h))
