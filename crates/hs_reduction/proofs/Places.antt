-- Places in lists.
use Rattle.std.proofs.Common.{◌≡◌, ℕ, ◌+◌, ◌<◌, inl, inr, ℤ, true, false, ◌&&◌, List, [], ◌∷◌, ◌++◌, length, get_or, nat_lt, refl, sym, ap, ◌∙◌, arith}
use Rattle.std.specs.Ordering.{int_eq}
use Rattle.std.proofs.lemmas.Bool.{cases_Bool, and_parts, and_from}
use Rattle.std.proofs.lemmas.Bool.Decides.{Decides-ltb}
use Rattle.std.proofs.lemmas.List.{length-append, get_or_append_left, get_or-append-add}
use Rattle.hs_pure.specs.declared.var.Var.{Var}
use Rattle.hs_pure.specs.declared.lin.Lin.{Lin}
use Rattle.hs_pure.specs.Stack.{same}
use Rattle.hs_pure.proofs.Vars.{same-eq, same-refl}
use Rattle.hs_elimination.specs.Linear.{same_terms, same_lin}
use Rattle.hs_elimination.specs.Cases.{has_lin}
use Rattle.hs_reduction.specs.Layout.{lin_place, has_name, name_place}
use Rattle.hs_reduction.proofs.Bags.{int_same, int_itself}

pub less_test : (i n : ℕ) → i < n → nat_lt i n ≡ true
less_test i n h = (Decides-ltb i n).1 h

pub not_less_test : (i n : ℕ) → ¬ (i < n) → nat_lt i n ≡ false
not_less_test i n h = elim (cases_Bool (nat_lt i n)) [ inl is ↦ absurd (h ((Decides-ltb i n).0 is)) | inr isnt ↦ isnt ]

same_terms-true : (es fs : List (Var × ℤ)) → same_terms es fs ≡ true → es ≡ fs
same_terms-true [] [] h = refl
same_terms-true [] (f ∷ fs) h = absurd cc
same_terms-true (e ∷ es) [] h = absurd cc
same_terms-true (e ∷ es) (f ∷ fs) h =
    let (both_same, rest) = and_parts (same e.0 f.0 && int_eq e.1 f.1) (same_terms es fs) h in
    let (p, q) = and_parts (same e.0 f.0) (int_eq e.1 f.1) both_same in
    let variable = same-eq e.0 f.0 p in
    let coefficient = int_same e.1 f.1 q in
    let more = same_terms-true es fs rest in
    λ i. (variable i, coefficient i) ∷ more i

pub same_lin-true : (a b : Lin) → same_lin a b ≡ true → a ≡ b
same_lin-true a b e =
    let (g, f) = and_parts (int_eq a.constant b.constant) (same_terms a.terms b.terms) e in
    let p = same_terms-true a.terms b.terms f in
    let q = int_same a.constant b.constant g in
    λ i. record { terms = p i; constant = q i }

same_terms-itself : (es : List (Var × ℤ)) → same_terms es es ≡ true
same_terms-itself [] = refl
same_terms-itself (e ∷ es) = and_from _ _ (and_from _ _ (same-refl e.0) (int_itself e.1)) (same_terms-itself es)

pub same_lin-itself : (a : Lin) → same_lin a a ≡ true
same_lin-itself a = and_from _ _ (int_itself a.constant) (same_terms-itself a.terms)

pub lin_place-is : (none a : Lin) (bs : List Lin) → has_lin a bs ≡ true → (lin_place a bs < length bs) × (get_or bs (lin_place a bs) none ≡ a)
lin_place-is none a [] e = absurd cc
lin_place-is none a (b ∷ bs) e = elim (cases_Bool (same_lin a b)) [
  | inl is ↦ rw is (omega arith, sym (same_lin-true a b is))
  | inr isnt ↦ let rest = lin_place-is none a bs (rw isnt at e) in rw isnt (omega (arith, rest.0), rest.1)
]

pub name_place-is : (none v : Var) (ws : List Var) → has_name v ws ≡ true → (name_place v ws < length ws) × (get_or ws (name_place v ws) none ≡ v)
name_place-is none v [] e = absurd cc
name_place-is none v (w ∷ ws) e = elim (cases_Bool (same w v)) [
  | inl is ↦ rw is (omega arith, same-eq w v is)
  | inr isnt ↦ let rest = name_place-is none v ws (rw isnt at e) in rw isnt (omega (arith, rest.0), rest.1)
]

-- ---- segments

-- xs stands in a table from k on
abbrev pub StandsAt : {A : Type 0} → A → ℕ → List A → (ℕ → A) → Type 0
StandsAt none k xs table = (j : ℕ) → j < length xs → table (k + j) ≡ get_or xs j none

pub StandsAt-left : {A : Type 0} (none : A) (k : ℕ) (xs ys : List A) (table : ℕ → A) → StandsAt none k (xs ++ ys) table → StandsAt none k xs table
StandsAt-left none k xs ys table stands j h = stands j (omega (arith, length-append xs ys)) ∙ get_or_append_left xs ys none j h

pub StandsAt-right : {A : Type 0} (none : A) (k n : ℕ) (xs ys : List A) (table : ℕ → A) → length xs ≡ n → StandsAt none k (xs ++ ys) table → StandsAt none (k + n) ys table
StandsAt-right none k n xs ys table size stands j h =
    ap table (let e : k + n + j ≡ k + (length xs + j) = omega arith in e) ∙ stands (length xs + j) (omega (arith, length-append xs ys)) ∙ get_or-append-add xs ys j none
