-- What is read of an equation between variables, and that nothing else is read so.
use Rattle.std.proofs.Common.{◌≡◌, ℤ, pos, Bool, true, false, ◌⊎◌, inl, inr, List, [], ◌∷◌, Option, Some, None, refl, sym, ap, ◌∙◌}
use Rattle.std.specs.Ordering.{int_eq}
use Rattle.std.proofs.lemmas.Bool.Decides.{Decides-int_eq}
use Rattle.hs_pure.specs.declared.var.Var.{Var}
use Rattle.hs_pure.specs.declared.lin.Lin.{Lin}
use Rattle.hs_pure.specs.declared.pure.Pure.{Pure, map-Pure, ind-Pure, roll-Pure, fold-roll-Pure}
use Rattle.hs_pure.specs.declared.pure.Pure.TheOpen.{Pure-F}
use Rattle.hs_pure.specs.declared.pure.Pure.TheVariants as pure_of
use Rattle.hs_pure.specs.Equated.{variable_sum, single_by, single, both_single, equated_level, equated}
use Rattle.hs_pure.specs.Laws.{EquatedIs}
use Rattle.hs_pure.proofs.Views.{fold-Eq}

bool_cases : (b : Bool) → (b ≡ true) ⊎ (b ≡ false)
bool_cases true = inl refl
bool_cases false = inr refl

equated-equal : (u v : Var) → equated (pure_of.Eq (variable_sum u) (variable_sum v)) ≡ Some (u, v)
equated-equal u v = fold-Eq equated_level (variable_sum u) (variable_sum v)

pair_first : (u v a b : Var) → ◌≡◌ {A = Option (Var × Var)} (Some (u, v)) (Some (a, b)) → u ≡ a
pair_first u v a b e = ap first e
  where
    first : Option (Var × Var) → Var
    first None = u
    first (Some p) = p.0

pair_second : (u v a b : Var) → ◌≡◌ {A = Option (Var × Var)} (Some (u, v)) (Some (a, b)) → v ≡ b
pair_second u v a b e = ap second e
  where
    second : Option (Var × Var) → Var
    second None = v
    second (Some p) = p.1

none_some : {A : Type 0} (x : A) → Some x ≡ None → ⊥
none_some x e = cc

-- an equation between variables is what it is read as
single_is : (a : Lin) (v : Var) → single a ≡ Some v → a ≡ variable_sum v
single_is a v e = elim (bool_cases (int_eq a.constant (pos 0))) [
  | inl is ↦
      let c : a.constant ≡ pos 0 = (Decides-int_eq a.constant (pos 0)).0 is in
      let f : single_by a.terms ≡ Some v = sym (at_zero is) ∙ e in
      let g : a.terms ≡ (v, pos 1) ∷ [] = terms_are a.terms f in
      λ i. record { terms = g i; constant = c i }
  | inr isnt ↦ absurd (none_some v (sym e ∙ not_zero isnt))
]
  where
    at_zero : int_eq a.constant (pos 0) ≡ true → single a ≡ single_by a.terms
    at_zero is = rw is refl

    not_zero : int_eq a.constant (pos 0) ≡ false → single a ≡ None
    not_zero isnt = rw isnt refl

    one : (t : Var × ℤ) → single_by (t ∷ []) ≡ Some v → t ∷ [] ≡ (v, pos 1) ∷ []
    one t e = elim (bool_cases (int_eq t.1 (pos 1))) [
      | inl is ↦
          let k : t.1 ≡ pos 1 = (Decides-int_eq t.1 (pos 1)).0 is in
          let yes' : single_by (t ∷ []) ≡ Some t.0 = rw is refl in
          let some_first : Some t.0 ≡ Some v = sym yes' ∙ e in
          let w : t.0 ≡ v = cc in
          λ i. (w i, k i) ∷ []
      | inr isnt ↦ let no' : single_by (t ∷ []) ≡ None = rw isnt refl in absurd (none_some v (sym e ∙ no'))
    ]

    terms_are : (ts : List (Var × ℤ)) → single_by ts ≡ Some v → ts ≡ (v, pos 1) ∷ []
    terms_are [] e = absurd (none_some v (sym e))
    terms_are (t ∷ []) e = one t e
    terms_are (t ∷ u ∷ ts) e = absurd (none_some v (sym e))

both_are : (a b : Lin) (u v : Var) → both_single (single a) (single b) ≡ Some (u, v) → pure_of.Eq a b ≡ pure_of.Eq (variable_sum u) (variable_sum v)
both_are a b u v e = go (single a) (single b) refl refl e
  where
    go : (x y : Option Var) → single a ≡ x → single b ≡ y → both_single x y ≡ Some (u, v) → pure_of.Eq a b ≡ pure_of.Eq (variable_sum u) (variable_sum v)
    go (Some x) (Some y) f g h =
        let k = single_is a u (f ∙ ap Some (pair_first x y u v h)) in
        let l = single_is b v (g ∙ ap Some (pair_second x y u v h)) in
        λ i. pure_of.Eq (k i) (l i)
    go (Some x) None f g h = absurd cc
    go None y f g h = absurd cc

abbrev IsRead : Pure → Type 0
IsRead p = (e : Var × Var) → equated p ≡ Some e → p ≡ pure_of.Eq (variable_sum e.0) (variable_sum e.1)

level_read : (x : Pure-F Pure) (e : Var × Var) → equated_level (map-Pure Pure (Option (Var × Var)) equated x) ≡ Some e → roll-Pure x ≡ pure_of.Eq (variable_sum e.0) (variable_sum e.1)
level_read (Pure-F.Eq a b) e same_pair = pure_of.rolls-Eq a b ∙ both_are a b e.0 e.1 same_pair
level_read (Pure-F.Lt a b) e same_pair = absurd cc
level_read (Pure-F.Le a b) e same_pair = absurd cc
level_read (Pure-F.Divides d a) e same_pair = absurd cc
level_read (Pure-F.BagEq a b) e same_pair = absurd cc
level_read (Pure-F.Subset a b) e same_pair = absurd cc
level_read (Pure-F.Member a b) e same_pair = absurd cc
level_read (Pure-F.AllOf u b p) e same_pair = absurd cc
level_read (Pure-F.Not p) e same_pair = absurd cc
level_read (Pure-F.And ps) e same_pair = absurd cc
level_read (Pure-F.Or ps) e same_pair = absurd cc
level_read (Pure-F.Exists u p) e same_pair = absurd cc
level_read (Pure-F.Forall u p) e same_pair = absurd cc

equation_read : (p : Pure) → IsRead p
equation_read = ind-Pure IsRead (λ x y is e same_pair. level_read x e (sym (fold-roll-Pure (Option (Var × Var)) equated_level x) ∙ same_pair))

pub equated_is : EquatedIs
equated_is p u v = (equation_read p (u, v), λ e. ap equated e ∙ equated-equal u v)
