-- Changes of a stack.
use Rattle.std.proofs.Common.{◌≡◌, Bool, true, false, List, [], ◌∷◌, refl, sym, ◌∙◌, subst, if◌then◌else◌}
use Rattle.std.proofs.lemmas.Bool.{and_parts, and_from, or_parts, eqb-true, eq-eqb, false_from_ne_true}
use mathlib.Core.Bool.{beq}
use mathlib.Core.Path.{fun_ext}
use Rattle.hs_pure.specs.Stack.{Value, Stack, same, with_value}
use Rattle.hs_pure.specs.declared.var.Var.{Var}
use Rattle.hs_heap.specs.Meaning.{is_in, SameBut}

same_kind : (a b : Bool) → beq a b ≡ true → a ≡ b
same_kind true true e = refl
same_kind true false e = cc
same_kind false true e = cc
same_kind false false e = refl

kind_itself : (a : Bool) → beq a a ≡ true
kind_itself true = refl
kind_itself false = refl

pub same_true : (u v : Var) → same u v ≡ true → u ≡ v
same_true u v e =
    let parts = and_parts _ _ e in
    let number = eqb-true u.number v.number parts.0 in
    let kind = same_kind u.bag v.bag parts.1 in
    λ i. record { number = number i; bag = kind i }

pub same_itself : (u : Var) → same u u ≡ true
same_itself u = and_from _ _ (eq-eqb u.number u.number refl) (kind_itself u.bag)

pub same_is : (u v : Var) → u ≡ v → same u v ≡ true
same_is u v e = subst (λ w. same u w ≡ true) e (same_itself u)

pub same_false : (u v : Var) → (u ≡ v → ⊥) → same u v ≡ false
same_false u v n = false_from_ne_true (same u v) (λ e. n (same_true u v e))

pub same_turned : (u v : Var) → same v u ≡ false → same u v ≡ false
same_turned u v e = same_false u v (λ is. let back : same v u ≡ true = subst (λ w. same w u ≡ true) is (same_itself u) in cc)

pub same_sym : (u v : Var) → same u v ≡ same v u
same_sym u v = go (same u v) refl
  where
    go : (b : Bool) → same u v ≡ b → same u v ≡ same v u
    go true e = subst (λ w. same u w ≡ same w u) (same_true u v e) refl
    go false e = e ∙ sym (same_turned v u e)

pub with_value-same : (u : Var) (x : Value) (s : Stack) → with_value u x s u ≡ x
with_value-same u x s = rw (same_itself u)

pub with_value-other : (u : Var) (x : Value) (s : Stack) (v : Var) → same u v ≡ false → with_value u x s v ≡ s v
with_value-other u x s v e = rw e

-- s with the values that t has on vs
abbrev pub with_values : List Var → Stack → Stack → Stack
with_values vs t s v = if is_in v vs then t v else s v

pub with_values-in : (vs : List Var) (t s : Stack) (v : Var) → is_in v vs ≡ true → with_values vs t s v ≡ t v
with_values-in vs t s v e = rw e

pub with_values-out : (vs : List Var) (t s : Stack) (v : Var) → is_in v vs ≡ false → with_values vs t s v ≡ s v
with_values-out vs t s v e = rw e

pub SameBut-refl : (vs : List Var) (s : Stack) → SameBut vs s s
SameBut-refl vs s = record { same = λ v e. refl }

pub SameBut-with_values : (vs : List Var) (t s : Stack) → SameBut vs s (with_values vs t s)
SameBut-with_values vs t s = record { same = with_values-out vs t s }

pub SameBut-with_value : (u : Var) (x : Value) (s : Stack) → SameBut (u ∷ []) s (with_value u x s)
SameBut-with_value u x s = record {
  same = λ v e. with_value-other u x s v (same_turned u v (or_parts (same v u) false e).0);
}

-- to change nothing leaves the stack as it is
pub SameBut-none : {s t : Stack} → SameBut [] s t → t ≡ s
SameBut-none p = fun_ext (λ v. p.same v refl)
