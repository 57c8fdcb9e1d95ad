-- A stack as an assignment of integers to places.
use Rattle.std.proofs.Common.{◌≡◌, ℕ, ◌+◌, ◌*◌, ◌/◌, ◌≤◌, Bool, true, false, cond, eqb, eqb-true, eq-eqb, inl, inr, List, [], ◌∷◌, refl, sym, ap, ◌∙◌, subst, arith, ℤ, pos, ◌+ℤ◌, ◌*ℤ◌, ◌<ℤ◌}
use Prim.Native.Nat.{◌%◌}
use Rattle.hs_pure.specs.declared.var.Var.{Var}
use Rattle.hs_pure.specs.declared.lin.Lin.{Lin}
use Rattle.hs_pure.specs.Stack.{Stack, with_value, number_value, same}
use Rattle.hs_pure.specs.Truth as Truth
use Rattle.hs_pure.proofs.Vars.{same-eq, same-refl}
use Rattle.hs_elimination.specs.Linear.{place}
use Rattle.hs_elimination.specs.Form.{Form, const, positive, multiple, no_multiple, conjunction, disjunction}
use Rattle.hs_elimination.proofs.Univariate.{Divides}
use Rattle.hs_elimination.proofs.Meaning.{Assignment, assign, sum_at, value, Holds}

abbrev var_at : ℕ → Var
var_at n = record { number = n / 2; bag = eqb (n % 2) 1 }

halves : (n b : ℕ) → b ≤ 1 → (2 * n + b) / 2 ≡ n
halves n b h = omega arith

parity : (n b : ℕ) → b ≤ 1 → (2 * n + b) % 2 ≡ b
parity n b h = omega arith

pub var_at-place : (v : Var) → var_at (place v) ≡ v
var_at-place v = by_kind v.bag refl
  where
    by_kind : (b : Bool) → v.bag ≡ b → var_at (place v) ≡ v
    by_kind true e =
        let p : place v ≡ 2 * v.number + 1 = ap (λ k. 2 * v.number + cond k 1 0) e in
        let n : place v / 2 ≡ v.number = ap (λ (m : ℕ). m / 2) p ∙ halves v.number 1 (omega arith) in
        let k : eqb (place v % 2) 1 ≡ v.bag = ap (λ (m : ℕ). eqb (m % 2) 1) p ∙ ap (λ (m : ℕ). eqb m 1) (parity v.number 1 (omega arith)) ∙ sym e in
        λ i. record { number = n i; bag = k i }
    by_kind false e =
        let p : place v ≡ 2 * v.number + 0 = ap (λ k. 2 * v.number + cond k 1 0) e in
        let n : place v / 2 ≡ v.number = ap (λ (m : ℕ). m / 2) p ∙ halves v.number 0 (omega arith) in
        let k : eqb (place v % 2) 1 ≡ v.bag = ap (λ (m : ℕ). eqb (m % 2) 1) p ∙ ap (λ (m : ℕ). eqb m 1) (parity v.number 0 (omega arith)) ∙ sym e in
        λ i. record { number = n i; bag = k i }

-- two variables with one place are one
pub same_place : (u v : Var) → place u ≡ place v → u ≡ v
same_place u v e = sym (var_at-place u) ∙ ap var_at e ∙ var_at-place v

pub numbers : Stack → Assignment
numbers s n = (s (var_at n)).number

numbers-place : (s : Stack) (v : Var) → numbers s (place v) ≡ (s v).number
unfolding numbers
numbers-place s v = ap (λ (u : Var). (s u).number) (var_at-place v)

sum-is : (s : Stack) (ts : List (Var × ℤ)) → Truth.sum_at s ts ≡ sum_at (numbers s) ts
sum-is s [] = refl
sum-is s (t ∷ ts) = λ i. t.1 *ℤ sym (numbers-place s t.0) i +ℤ sum-is s ts i

pub value-is : (s : Stack) (t : Lin) → Truth.value s t ≡ value (numbers s) t
value-is s t = ap (λ z. z +ℤ t.constant) (sum-is s t.terms)

-- ---- assignments that agree at the places of variables

abbrev pub AgreeAt : Assignment → Assignment → Type 0
AgreeAt s t = (v : Var) → s (place v) ≡ t (place v)

sum-agree : (s t : Assignment) → AgreeAt s t → (ts : List (Var × ℤ)) → sum_at s ts ≡ sum_at t ts
sum-agree s t h [] = refl
sum-agree s t h (e ∷ es) = λ i. e.1 *ℤ h e.0 i +ℤ sum-agree s t h es i

value-agree : (s t : Assignment) → AgreeAt s t → (a : Lin) → value s a ≡ value t a
value-agree s t h a = ap (λ z. z +ℤ a.constant) (sum-agree s t h a.terms)

pub holds-agree : (s t : Assignment) → AgreeAt s t → (f : Form) → Holds s f → Holds t f
holds-agree s t h (const b) p = p
holds-agree s t h (positive a) p = subst (λ z. pos 0 <ℤ z) (value-agree s t h a) p
holds-agree s t h (multiple d a) p = subst (Divides d) (value-agree s t h a) p
holds-agree s t h (no_multiple d a) p = λ q. p (subst (Divides d) (sym (value-agree s t h a)) q)
holds-agree s t h (conjunction f g) p = (holds-agree s t h f p.0, holds-agree s t h g p.1)
holds-agree s t h (disjunction f g) (inl p) = inl (holds-agree s t h f p)
holds-agree s t h (disjunction f g) (inr p) = inr (holds-agree s t h g p)

pub agree-back : (s t : Assignment) → AgreeAt s t → AgreeAt t s
agree-back s t h v = sym (h v)

different_places : (x v : Var) → same x v ≡ false → eqb (place v) (place x) ≡ false
different_places x v e = by_test (eqb (place v) (place x)) refl
  where
    by_test : (b : Bool) → eqb (place v) (place x) ≡ b → eqb (place v) (place x) ≡ false
    by_test true p =
        let is : x ≡ v = sym (same_place v x (eqb-true (place v) (place x) p)) in
        let t : same x v ≡ true = subst (λ (w : Var). same x w ≡ true) is (same-refl x) in
        absurd cc
    by_test false p = p

-- a value of x on the stack is one at the place of x
pub with_value-agree : (s : Stack) (x : Var) (y : ℤ) → AgreeAt (numbers (with_value x (number_value y) s)) (assign (numbers s) (place x) y)
with_value-agree s x y v = numbers-place (with_value x (number_value y) s) v ∙ by_test (same x v) refl
  where
    by_test : (b : Bool) → same x v ≡ b → (with_value x (number_value y) s v).number ≡ assign (numbers s) (place x) y (place v)
    by_test true e =
        let is : x ≡ v = same-eq x v e in
        let t : eqb (place v) (place x) ≡ true = eq-eqb (place v) (place x) (ap place (sym is)) in
        rw (e, t) refl
    by_test false e = rw (e, different_places x v e) (sym (numbers-place s v))
