-- Tests on variables.
use Rattle.std.proofs.Common.{◌≡◌, eqb, Bool, true, false, ◌||◌, IsTrue, refl, subst}
use Rattle.std.proofs.lemmas.Bool.{and_parts, and_from, eqb-true, eq-eqb}
use mathlib.Core.Bool.{beq}
use Rattle.hs_pure.specs.declared.var.Var.{Var}
use Rattle.hs_pure.specs.Stack.{same}

same_kind : (a b : Bool) → IsTrue (beq a b) → a ≡ b
same_kind true true h = refl
same_kind true false h = cc
same_kind false true h = cc
same_kind false false h = refl

kind_same : (a : Bool) → beq a a ≡ true
kind_same true = refl
kind_same false = refl

pub or_left : (a b : Bool) → IsTrue a → IsTrue (a || b)
or_left true b h = refl
or_left false b h = cc

pub or_right : (a b : Bool) → IsTrue b → IsTrue (a || b)
or_right true b h = refl
or_right false b h = h

pub same-eq : (u v : Var) → same u v ≡ true → u ≡ v
same-eq u v h =
    let parts = and_parts (eqb u.number v.number) (beq u.bag v.bag) h in
    let number : u.number ≡ v.number = eqb-true u.number v.number parts.0 in
    let kind : u.bag ≡ v.bag = same_kind u.bag v.bag parts.1 in
    λ i. record { number = number i; bag = kind i }

pub same-refl : (u : Var) → same u u ≡ true
same-refl u = and_from _ _ (eq-eqb u.number u.number refl) (kind_same u.bag)

pub different : (u v : Var) → (u ≡ v → ⊥) → same u v ≡ false
different u v h = of (same u v) refl
  where
    of : (b : Bool) → same u v ≡ b → same u v ≡ false
    of true e = absurd (h (same-eq u v e))
    of false e = e

pub same-from : (u v : Var) → u.number ≡ v.number → u.bag ≡ v.bag → same u v ≡ true
same-from u v e f = and_from _ _ (eq-eqb u.number v.number e) (subst (λ b. beq u.bag b ≡ true) f (kind_same u.bag))
