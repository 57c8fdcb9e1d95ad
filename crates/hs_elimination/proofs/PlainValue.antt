-- A plain value makes the assertion true, and where there is none no integer does.
use Rattle.std.proofs.Common.{◌≡◌, ℕ, zero, suc, ◌≤◌, ◌⊎◌, inl, inr, Bool, true, false, cond, List, [], ◌∷◌, Option, None, Some, refl, ap, ◌∙◌, subst, arith, ℤ, pos}
use Rattle.std.specs.Prelude.{int_div}
use Rattle.std.specs.List.{Contains}
use Rattle.std.proofs.lemmas.Bool.{cases_lt}
use Rattle.hs_pure.specs.declared.var.Var.{Var}
use Rattle.hs_pure.specs.declared.lin.Lin.{Lin}
use Rattle.hs_pure.specs.Assertion.{Assertion}
use Rattle.hs_pure.specs.Stack.{Stack, with_value, number_value}
use Rattle.hs_pure.specs.Truth.{value, IsTrueAt}
use Rattle.hs_elimination.specs.Linear.{place, plus, number}
use Rattle.hs_elimination.specs.Form.{Form, assertion}
use Rattle.hs_elimination.specs.Normal.{is_simple, normal, evaluate}
use Rattle.hs_elimination.specs.Scaling.{multiplier}
use Rattle.hs_elimination.specs.Cases.{distinct_bounds, period}
use Rattle.hs_elimination.specs.Decided.{evaluates_to}
use Rattle.hs_elimination.specs.Elimination.{scaled_form}
use Rattle.hs_elimination.specs.Witness.{low_case, near_case, least_limit, low_value, or_else, first_to, first_among, value_if, near_at, first_near_bound, first_near, low_at, first_low, plain_multiple, divided, plain_value}
use Rattle.hs_elimination.proofs.Meaning.{HasRising}
use Rattle.hs_elimination.proofs.Order.{simple-assertion}
use Rattle.hs_elimination.proofs.Decided.{tested}
use Rattle.hs_elimination.proofs.Stage3.{contains_cases, contains_none, contains_head, contains_tail}
use Rattle.hs_elimination.proofs.Witness.{FormTrueAt, NoneLow, NoneNear, near_value, low_true, no_value}

-- ---- the first that is there

or_else_some : (a b : Option ℤ) (y : ℤ) → or_else a b ≡ Some y → (a ≡ Some y) ⊎ (b ≡ Some y)
or_else_some None b y e = inr e
or_else_some (Some z) b y e = inl e

or_else_none : (a b : Option ℤ) → or_else a b ≡ None → (a ≡ None) × (b ≡ None)
or_else_none None b e = (refl, e)
or_else_none (Some z) b e = absurd cc

to_some : (g : ℕ → Option ℤ) (m : ℕ) (y : ℤ) → first_to g m ≡ Some y → (j : ℕ) × (1 ≤ j) × (j ≤ m) × (g j ≡ Some y)
to_some g zero y e = absurd cc
to_some g (suc m) y e = step (to_some g m y)
  where
    step : (first_to g m ≡ Some y → (j : ℕ) × (1 ≤ j) × (j ≤ m) × (g j ≡ Some y)) → (j : ℕ) × (1 ≤ j) × (j ≤ suc m) × (g j ≡ Some y)
    step ih = elim (or_else_some (first_to g m) (g (suc m)) y e) [
      | inl before ↦ (let w = ih before in (w.0, w.1, omega (arith, w.2), w.3))
      | inr here ↦ (suc m, omega arith, omega arith, here)
    ]

to_none : (g : ℕ → Option ℤ) (m : ℕ) → first_to g m ≡ None → (j : ℕ) → 1 ≤ j → j ≤ m → g j ≡ None
to_none g zero e j h k = absurd (omega arith)
to_none g (suc m) e j h k = step (to_none g m)
  where
    step : (first_to g m ≡ None → (j : ℕ) → 1 ≤ j → j ≤ m → g j ≡ None) → g j ≡ None
    step ih =
        let both = or_else_none (first_to g m) (g (suc m)) e in
        elim (cases_lt m j) [ inl p ↦ (let is : suc m ≡ j = omega arith in subst (λ (n : ℕ). g n ≡ None) is both.1) | inr p ↦ ih both.0 j h p ]

among_some : (g : Lin → Option ℤ) (bs : List Lin) (y : ℤ) → first_among g bs ≡ Some y → (b : Lin) × Contains bs b × (g b ≡ Some y)
among_some g [] y e = absurd cc
among_some g (b ∷ bs) y e = step (among_some g bs y)
  where
    step : (first_among g bs ≡ Some y → (b : Lin) × Contains bs b × (g b ≡ Some y)) → (c : Lin) × Contains (b ∷ bs) c × (g c ≡ Some y)
    step ih = elim (or_else_some (g b) (first_among g bs) y e) [
      | inl here ↦ (b, contains_head b bs, here)
      | inr later ↦ (let w = ih later in (w.0, contains_tail b w.0 bs w.1, w.2))
    ]

among_none : (g : Lin → Option ℤ) (bs : List Lin) → first_among g bs ≡ None → (b : Lin) → Contains bs b → g b ≡ None
among_none g [] e b c = contains_none b c
among_none g (d ∷ bs) e b c = step (among_none g bs)
  where
    step : (first_among g bs ≡ None → (b : Lin) → Contains bs b → g b ≡ None) → g b ≡ None
    step ih =
        let both = or_else_none (g d) (first_among g bs) e in
        elim (contains_cases d b bs c) [ inl is ↦ subst (λ l. g l ≡ None) is both.0 | inr later ↦ ih both.1 b later ]

-- ---- a case

cond_some : (t : Bool) (y z : ℤ) → cond t (Some y) None ≡ Some z → (t ≡ true) × (y ≡ z)
cond_some true y z e = (refl, cc)
cond_some false y z e = absurd cc

cond_none : (t : Bool) (y : ℤ) → cond t (Some y) None ≡ None → ¬ (t ≡ true)
cond_none true y e = absurd cc
cond_none false y e = λ k. cc

if_some : (s : Stack) (f : Form) (y z : ℤ) → value_if s f y ≡ Some z → FormTrueAt s f × (y ≡ z)
if_some s f y z e = let w = cond_some (evaluates_to s (assertion f)) y z e in ((tested s (assertion f) (simple-assertion f)).1 w.0, w.1)

if_none : (s : Stack) (f : Form) (y : ℤ) → value_if s f y ≡ None → ¬ (FormTrueAt s f)
if_none s f y e = λ t. cond_none (evaluates_to s (assertion f)) y e ((tested s (assertion f) (simple-assertion f)).0 t)

divided_some : (l : ℕ) (o : Option ℤ) (y : ℤ) → divided l o ≡ Some y → (z : ℤ) × (o ≡ Some z) × (int_div z (pos l) ≡ y)
divided_some l None y e = absurd cc
divided_some l (Some z) y e = (z, refl, cc)

divided_none : (l : ℕ) (o : Option ℤ) → divided l o ≡ None → o ≡ None
divided_none l None e = refl
divided_none l (Some z) e = absurd cc

-- ---- the whole

module _ (x : Var) (p : Assertion) (s : Stack) (q : is_simple p ≡ true) (r : HasRising p) where
  second : Form
  second = evaluate (scaled_form x p)

  pub plain_true : (y : ℤ) → plain_value s x p ≡ Some y → IsTrueAt (with_value x (number_value y) s) p
  unfolding second
  plain_true y e =
      let n = place x in
      let m = period n second 1 in
      let l = multiplier n (evaluate (normal true p)) 1 in
      let d = divided_some l (plain_multiple s n second) y e in
      let P : ℤ → Type 0 = λ z. IsTrueAt (with_value x (number_value z) s) p in
      elim (or_else_some (first_near s n second m (distinct_bounds n second)) (first_low s n second m) d.0 d.1) [
        | inl near ↦ (
            let b = among_some (first_near_bound s n second m) (distinct_bounds n second) d.0 near in
            let j = to_some (near_at s n second b.0) m d.0 b.2 in
            let v = if_some s (near_case n second b.0 j.0) (value s (plus b.0 (number (pos j.0)))) d.0 j.3 in
            subst P (ap (λ z. int_div z (pos l)) v.1 ∙ d.2) (near_value x p s q r b.0 j.0 v.0))
        | inr low ↦ (
            let j = to_some (low_at s n second m) m d.0 low in
            let v = if_some s (low_case n second j.0) (low_value m j.0 (least_limit s n second None)) d.0 j.3 in
            subst P (ap (λ z. int_div z (pos l)) v.1 ∙ d.2) (low_true x p s q r j.0 j.2 v.0))
      ]

  pub plain_none : plain_value s x p ≡ None → (y : ℤ) → ¬ (IsTrueAt (with_value x (number_value y) s) p)
  unfolding second
  plain_none e =
      let n = place x in
      let m = period n second 1 in
      let both = or_else_none (first_near s n second m (distinct_bounds n second)) (first_low s n second m)
      (divided_none (multiplier n (evaluate (normal true p)) 1) (plain_multiple s n second) e) in
      let low : NoneLow s n second m = λ j h k. if_none s (low_case n second j) (low_value m j (least_limit s n second None)) (to_none (low_at s n second m) m both.1 j h k) in
      let near : (b : Lin) → Contains (distinct_bounds n second) b → NoneNear s n second m b = λ b c j h k. if_none s (near_case n second b j) (value s (plus b (number (pos j))))
      (to_none (near_at s n second b) m (among_none (first_near_bound s n second m) (distinct_bounds n second) both.0 b c) j h k) in
      no_value x p s q r low near
