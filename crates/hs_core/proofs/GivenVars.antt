-- The variables of parameters and reserved numbers, and those that are listed beside them.
use Rattle.std.proofs.Common.{◌≡◌, ℕ, zero, suc, ◌+◌, ◌<◌, ◌≤◌, Bool, true, false, ◌||◌, ◌==◌, IsTrue, inl, inr, List, [], ◌∷◌, ◌++◌, length, refl, sym, ap, ◌∙◌, subst, arith}
use Rattle.std.proofs.lemmas.Bool.{or_cases}
use Rattle.std.proofs.lemmas.Bool.Decides.{nat_tests}
use Rattle.hs_pure.specs.declared.var.Var.{Var}
use Rattle.hs_pure.specs.Stack.{same}
use Rattle.hs_pure.proofs.Vars.{or_left, or_right, same-from}
use Rattle.hs_heap.specs.Meaning.{is_in}
use Rattle.hs_heap.specs.Sound.{AreDistinct}
use Rattle.hs_heap.proofs.Stacks.{same_true, same_itself}
use Rattle.hs_heap.proofs.Booleans.{bool_cases, or_false_left, or_false_right, clash}
use Rattle.hs_core.specs.declared.program.Method.{Method}
use Rattle.hs_core.specs.Sound.{vars_from, param_vars, reserved_vars}
use Rattle.hs_core.specs.Tests.{is_slot, is_given, last_reserved}
use Rattle.hs_core.proofs.SimpleTells.{slot_told}

abbrev variable : ℕ → Var
variable n = record { number = n; bag = false }

-- ---- which they are

pub in_from : (v : Var) (f n : ℕ) → IsTrue (is_in v (vars_from f n)) → (v.bag ≡ false) × (f ≤ v.number) × (v.number < f + n)
in_from v f zero h = absurd cc
in_from v f (suc n) h = elim (or_cases (same v (variable f)) (is_in v (vars_from (suc f) n)) h) [
  | inl e ↦
      let is : v ≡ variable f = same_true v (variable f) e in
      let number : v.number ≡ f = ap (λ (u : Var). u.number) is in
      (ap (λ (u : Var). u.bag) is, omega arith, omega arith)
  | inr e ↦ let later = in_from v (suc f) n e in let low = later.1 in let high = later.2 in (later.0, omega arith, omega arith)
]

pub from_in : (v : Var) (f n : ℕ) → v.bag ≡ false → f ≤ v.number → v.number < f + n → IsTrue (is_in v (vars_from f n))
from_in v f zero b low high = absurd (omega arith)
from_in v f (suc n) b low high = elim (bool_cases (v.number == f)) [
  | inl e ↦ let number : v.number ≡ f = grind (arith, nat_tests) in or_left (same v (variable f)) (is_in v (vars_from (suc f) n)) (same-from v (variable f) number b)
  | inr e ↦
      let above : suc f ≤ v.number = grind (arith, nat_tests) in
      or_right (same v (variable f)) (is_in v (vars_from (suc f) n)) (from_in v (suc f) n b above (omega arith))
]

pub equal_tests : (a b : Bool) → (IsTrue a → IsTrue b) → (IsTrue b → IsTrue a) → a ≡ b
equal_tests true true f g = refl
equal_tests true false f g = sym (f refl)
equal_tests false true f g = g refl
equal_tests false false f g = refl

pub in_first : (n : ℕ) (v : Var) → is_in v (vars_from 1 n) ≡ is_slot n v
in_first n v = equal_tests (is_in v (vars_from 1 n)) (is_slot n v)
    (λ h. let there = in_from v 1 n h in let low = there.1 in let high = there.2 in (slot_told n v).1 (there.0, (omega arith, omega arith)))
    (λ h. let slot = (slot_told n v).0 h in let low = slot.1.0 in let high = slot.1.1 in from_in v 1 n slot.0 low (omega arith))

or_assoc : (a b c : Bool) → (a || (b || c)) ≡ ((a || b) || c)
or_assoc true b c = refl
or_assoc false b c = refl

or_turned : (a b : Bool) → (a || b) ≡ (b || a)
or_turned true true = refl
or_turned true false = refl
or_turned false true = refl
or_turned false false = refl

pub is_in-append : (v : Var) (xs ys : List Var) → is_in v (xs ++ ys) ≡ (is_in v xs || is_in v ys)
is_in-append v [] ys = refl
is_in-append v (x ∷ xs) ys = ap (λ b. same v x || b) (is_in-append v xs ys) ∙ or_assoc (same v x) (is_in v xs) (is_in v ys)

pub in_given : (n : ℕ) (vs : List Var) (v : Var) → is_in v (vars_from 1 n ++ vs) ≡ is_given n vs v
in_given n vs v = is_in-append v (vars_from 1 n) vs ∙ ap (λ b. b || is_in v vs) (in_first n v) ∙ or_turned (is_slot n v) (is_in v vs)

-- ---- two rows in one

rows : (f a b g c : ℕ) → g ≡ f + a → c ≡ a + b → vars_from f a ++ vars_from g b ≡ vars_from f c
rows f zero b g c e d =
    let at : g ≡ f = omega arith in
    let so : c ≡ b = omega arith in
    rw at (rw so refl)
rows f (suc a) b g c e d =
    let so : c ≡ suc (a + b) = omega arith in
    rw so (ap (λ vs. variable f ∷ vs) (rows (suc f) a b g (a + b) (omega arith) refl))

-- those of the parameters and the reserved ones are the first
pub first_vars : (m : Method) → param_vars m ++ reserved_vars m ≡ vars_from 1 (last_reserved m)
first_vars m = rows 1 m.params (suc (length m.refs)) (suc m.params) (last_reserved m) (omega arith) refl

-- ---- different ones

pub vars_distinct : (f n : ℕ) → AreDistinct (vars_from f n)
vars_distinct f zero = tt
vars_distinct f (suc n) = (first (is_in (variable f) (vars_from (suc f) n)) refl, vars_distinct (suc f) n)
  where
    first : (b : Bool) → is_in (variable f) (vars_from (suc f) n) ≡ b → is_in (variable f) (vars_from (suc f) n) ≡ false
    first true e = let low : suc f ≤ f = (in_from (variable f) (suc f) n e).1 in absurd (omega arith)
    first false e = e

abbrev pub Apart : List Var → List Var → Type 0
Apart xs vs = (v : Var) → IsTrue (is_in v vs) → is_in v xs ≡ false

pub apart_forth : (xs vs : List Var) → AreDistinct (xs ++ vs) → AreDistinct vs × Apart xs vs
apart_forth [] vs h = (h, λ v k. refl)
apart_forth (x ∷ xs) vs h =
    let rest = apart_forth xs vs h.1 in
    let out : (is_in x xs || is_in x vs) ≡ false = sym (is_in-append x xs vs) ∙ h.0 in (
      rest.0,
      λ v k. elim (bool_cases (same v x)) [
        | inl e ↦ clash (subst (λ u. IsTrue (is_in u vs)) (same_true v x e) k) (or_false_right (is_in x xs) (is_in x vs) out)
        | inr e ↦ ap (λ b. b || is_in v xs) e ∙ rest.1 v k
      ],
    )

pub apart_back : (xs vs : List Var) → AreDistinct xs → AreDistinct vs → Apart xs vs → AreDistinct (xs ++ vs)
apart_back [] vs d e apart = e
apart_back (x ∷ xs) vs d e apart = (
  is_in-append x xs vs ∙ ap (λ b. b || is_in x vs) d.0 ∙ elim (bool_cases (is_in x vs)) [ inl k ↦ clash (same_itself x) (or_false_left (same x x) (is_in x xs) (apart x k)) | inr k ↦ k ],
  apart_back xs vs d.1 e (λ v k. or_false_right (same v x) (is_in v xs) (apart v k)),
)
