-- An instance says of its term what the assertion says of the variable.
use Rattle.std.proofs.Common.{◌≡◌, ℕ, suc, ◌<◌, ◌≤◌, inl, inr, ◌↔◌, ℤ, false, refl, sym, ◌∙◌, subst, arith}
use Rattle.std.proofs.lemmas.Bool.{cases_Bool}
use Rattle.hs_pure.specs.declared.var.Var.{Var}
use Rattle.hs_pure.specs.declared.lin.Lin.{Lin}
use Rattle.hs_pure.specs.Stack.{Stack, same, with_value, number_value}
use Rattle.hs_pure.specs.Assertion.{Assertion}
use Rattle.hs_pure.specs.Truth.{value, IsTrueAt}
use Rattle.hs_elimination.specs.Ordered.{has_bag_literal}
use Rattle.hs_reduction.specs.Layout.{variable}
use Rattle.hs_reduction.specs.Instance.{itself, instead, substituted, Instance, replaced, stated, instance}
use Rattle.hs_reduction.proofs.Below.{LinBelow, Below}
use Rattle.hs_reduction.proofs.Values.{SameBelow, Follows, Ranges, bound, value-itself, value_beside, value_bound, new_variable, truth-substituted}

pub instead-ranges : (k n : ℕ) (u : Var) (a : Lin) → k ≤ n → LinBelow n a → Ranges k n (instead u a itself)
instead-ranges k n u a low below v less = elim (cases_Bool (same u v)) [
  | inl is ↦ rw is below
  | inr isnt ↦ rw isnt (omega arith, tt)
]

module _ (k n : ℕ) (u : Var) (a : Lin) (p : Assertion) (s t : Stack) (plain : has_bag_literal p ≡ false) (below : Below k p)
    (low : k ≤ n) (low_term : LinBelow n a) (numbers : SameBelow k s t) where
  replaced-truth : IsTrueAt (with_value u (number_value (value t a)) s) p ↔ IsTrueAt t (instance replaced u a n p)
  replaced-truth = truth-substituted p k n (instead u a itself) (with_value u (number_value (value t a)) s) t plain below (instead-ranges k n u a low low_term) follows
    where
      follows : Follows k (instead u a itself) (with_value u (number_value (value t a)) s) t
      follows v less = elim (cases_Bool (same u v)) [
        | inl is ↦ rw is refl
        | inr isnt ↦ rw isnt (numbers v less ∙ sym (value-itself t v))
      ]

  -- where the bound variable is x
  stated_at : (x : ℤ) → IsTrueAt (with_value u (number_value x) s) p ↔ IsTrueAt (bound n x t) (substituted (instead u (variable n) itself) (suc n) p)
  stated_at x =
      truth-substituted p k (suc n) (instead u (variable n) itself) (with_value u (number_value x) s) (bound n x t) plain below
      (instead-ranges k (suc n) u (variable n) (omega arith) (omega arith, tt)) follows
    where
      kept : (v : Var) → v.number < n → (t v).number ≡ (bound n x t v).number
      kept v less = let isnt = new_variable n v less in rw isnt refl

      follows : Follows k (instead u (variable n) itself) (with_value u (number_value x) s) (bound n x t)
      follows v less = elim (cases_Bool (same u v)) [
        | inl is ↦ rw is (sym (value_bound n x t))
        | inr isnt ↦ rw isnt (numbers v less ∙ kept v (omega arith) ∙ sym (value-itself (bound n x t) v))
      ]

  stated-truth : IsTrueAt (with_value u (number_value (value t a)) s) p ↔ IsTrueAt t (instance stated u a n p)
  stated-truth = (
    λ h. (value t a, (value_bound n (value t a) t ∙ value_beside n (value t a) t a low_term, (stated_at (value t a)).0 h)),
    λ (x, (is, h)). subst (λ z. IsTrueAt (with_value u (number_value z) s) p) (sym (value_bound n x t) ∙ is ∙ sym (value_beside n x t a low_term)) ((stated_at x).1 h),
  )

  pub instance-truth : (way : Instance) → IsTrueAt (with_value u (number_value (value t a)) s) p ↔ IsTrueAt t (instance way u a n p)
  instance-truth replaced = replaced-truth
  instance-truth stated = stated-truth
