-- What keeps to 128 bits: cases, bounds and stages.
use Rattle.std.proofs.Common.{◌≡◌, ℕ, zero, suc, ◌<◌, ◌≤◌, ◌^◌, ◌⊎◌, inl, inr, List, [], ◌∷◌, ◌++◌, map, sym, subst, arith, pos, negsuc, FitsSigned}
use Rattle.std.specs.List.{Contains}
use Rattle.std.proofs.lemmas.Int.{ints}
use mir.Syntax.{w128}
use Rattle.hs_pure.specs.declared.var.Var.{Var}
use Rattle.hs_pure.specs.declared.lin.Lin.{Lin}
use Rattle.hs_pure.specs.Assertion.{Assertion}
use Rattle.hs_elimination.specs.Linear.{place, plus, times, number, IsWideLin}
use Rattle.hs_elimination.specs.Form.{Form, IsWide}
use Rattle.hs_elimination.specs.Cases.{substitute, minus_infinity, distinct_bounds, period, cases_at, cases_to, stage3}
use Rattle.hs_elimination.specs.Normal.{evaluate}
use Rattle.hs_elimination.specs.Scaling.{multiplier, scale, stage2}
use Rattle.hs_elimination.specs.Elimination.{normal_form, scaled_form, HasWideSum, HasWideCases}
use Rattle.hs_elimination.proofs.Stage3.{contains_cases, contains_none, contains_head, contains_tail}
use Rattle.hs_cooper_forms.specs.declared.change.Change.TheVariants.{Scale, Substitute, Low}
use Rattle.hs_cooper_forms.specs.declared.nnf.Connective.TheVariants.{Or}
use Rattle.hs_cooper_forms.specs.Changing.{changed}
use Rattle.hs_cooper.specs.Casing.{HasWideAt, HasWideGiven}
use Rattle.hs_cooper_forms.proofs.Narrow.{contains-map_back, wide_some}
use Rattle.hs_cooper.proofs.Whole.{wide-evaluate}

-- ---- cases

contains-append : {X : Type 0} (xs ys : List X) (x : X) → Contains (xs ++ ys) x → Contains xs x ⊎ Contains ys x
contains-append [] ys x c = inr c
contains-append (z ∷ xs) ys x c = step (contains-append xs ys x)
  where
    step : (Contains (xs ++ ys) x → Contains xs x ⊎ Contains ys x) → Contains (z ∷ xs) x ⊎ Contains ys x
    step ih = elim (contains_cases z x (xs ++ ys) c) [
      | inl is ↦ inl (subst (λ w. Contains (z ∷ xs) w) is (contains_head z xs))
      | inr later ↦ elim (ih later) [ inl a ↦ inl (contains_tail z x xs a) | inr b ↦ inr b ]
    ]

pub narrow_case : (x : Var) (f : Form) (b u : Lin) (j : ℕ) → u ≡ plus b (number (pos j)) → (IsWideLin (plus b (number (pos j))) → IsWideLin b) → (IsWide (changed (Substitute x u) f) → IsWide f)
    → IsWideLin (plus b (number (pos j))) ⊎ IsWide (changed (Substitute x (plus b (number (pos j)))) f) → IsWide f ⊎ IsWideLin b
narrow_case x f b u j u_is sum case (inl w) = inr (sum w)
narrow_case x f b u j u_is sum case (inr w) = inl (case (subst (λ v. IsWide (changed (Substitute x v) f)) (sym u_is) w))

pub narrow_at : (x : Var) (f : Form) (bs : List Lin) (j : ℕ) → (IsWide (changed (Low x j) f) → IsWide f)
    → ((b : Lin) → Contains bs b → IsWideLin (plus b (number (pos j))) ⊎ IsWide (changed (Substitute x (plus b (number (pos j)))) f) → IsWide f ⊎ IsWideLin b) → HasWideAt x f bs j → HasWideGiven f bs
narrow_at x f bs j low near (inl w) = inl (low w)
narrow_at x f bs j low near (inr w) = elim (near w.0 w.1.0 w.1.1) [ inl h ↦ inl h | inr h ↦ inr (w.0, (w.1.0, h)) ]

case_back : (x : ℕ) (f : Form) (bs : List Lin) (m : ℕ) (g : Form) → Contains (cases_to x f bs m) g → (j : ℕ) × ((1 ≤ j) × (j ≤ m) × Contains (cases_at x f bs j) g)
case_back x f bs zero g c = contains_none g c
case_back x f bs (suc m) g c = step (case_back x f bs m g)
  where
    step : (Contains (cases_to x f bs m) g → (j : ℕ) × ((1 ≤ j) × (j ≤ m) × Contains (cases_at x f bs j) g)) → (j : ℕ) × ((1 ≤ j) × (j ≤ suc m) × Contains (cases_at x f bs j) g)
    step ih = elim (contains-append (cases_to x f bs m) (cases_at x f bs (suc m)) g c) [
      | inl before ↦ (let w = ih before in (w.0, (w.1.0, omega (arith, w.1.1), w.1.2)))
      | inr here ↦ (suc m, (omega arith, omega arith, here))
    ]

wide_at : (x : Var) (f : Form) (bs : List Lin) (j : ℕ) (g : Form) → Contains (cases_at (place x) f bs j) g → IsWide g → HasWideAt x f bs j
wide_at x f bs j g c w =
    let n = place x in
    let shifted : Lin → Form = λ b. substitute n (plus b (number (pos j))) f in
    elim (contains_cases (substitute n (number (pos j)) (minus_infinity n f)) g (map shifted bs) c) [
      | inl is ↦ inl (subst IsWide (sym is) w)
      | inr later ↦ (let b = contains-map_back shifted bs g later in inr (b.0, (b.1.0, inr (subst IsWide (sym b.1.1) w))))
    ]

-- the third stage is wide only where what it is given is
pub narrow-stage3 : (x : Var) (f : Form) (bs : List Lin) (m : ℕ) → bs ≡ distinct_bounds (place x) f → m ≡ period (place x) f 1 → ((b : Lin) → Contains bs b → ¬ (IsWideLin b))
    → ((j : ℕ) → 1 ≤ j → j ≤ m → HasWideAt x f bs j → HasWideGiven f bs) → IsWide (stage3 x f) ⊎ HasWideSum (place x) f → IsWide f
narrow-stage3 x f bs m bs_is m_is narrow at w = by_part w
  where
    given : HasWideGiven f bs → IsWide f
    given (inl h) = h
    given (inr h) = absurd (narrow h.0 h.1.0 h.1.1)

    by_part : IsWide (stage3 x f) ⊎ HasWideSum (place x) f → IsWide f
    by_part (inl h) =
        let n = place x in
        let k = wide_some Or (cases_to n f (distinct_bounds n f) (period n f 1)) h in
        let j = case_back n f (distinct_bounds n f) (period n f 1) k.0 k.1.0 in
        let there : HasWideAt x f bs j.0 = subst (λ l. HasWideAt x f l j.0) (sym bs_is) (wide_at x f (distinct_bounds n f) j.0 k.0 j.1.2 k.1.1) in
        given (at j.0 j.1.0 (subst (λ (i : ℕ). j.0 ≤ i) (sym m_is) j.1.1) there)
    by_part (inr h) =
        let c : Contains bs h.0 = subst (λ l. Contains l h.0) (sym bs_is) h.1.0 in
        elim h.1.1 [
          | inl b ↦ absurd (narrow h.0 c b)
          | inr j ↦ given (at j.0 j.1.0 (subst (λ (i : ℕ). j.0 ≤ i) (sym m_is) j.1.1) (inr (h.0, (c, inl j.1.2))))
        ]

-- ---- bounds

pub narrow_bounds : (bs as' : List Lin) → bs ≡ map (times (negsuc 0)) as' → ((a : Lin) → Contains as' a → ¬ (IsWideLin (times (negsuc 0) a))) → (b : Lin) → Contains bs b → ¬ (IsWideLin b)
narrow_bounds bs as' is h b c w =
    let a = contains-map_back (times (negsuc 0)) as' b (subst (λ l. Contains l b) is c) in
    h a.0 a.1.0 (subst IsWideLin (sym a.1.1) w)

-- ---- the stages

fits_natural : (n : ℕ) → n < 2 ^ 127 → FitsSigned w128 (pos n)
fits_natural n h = omega (arith, ints)

pub narrow-stage2 : (x : Var) (f : Form) (by : ℕ) → by ≡ multiplier (place x) f 1 → by < 2 ^ 127 → (IsWide (changed (Scale x by) f) → IsWide f) → IsWide (stage2 x f) → IsWide f
narrow-stage2 x f by by_is small kept (inl w) = kept (subst (λ (l : ℕ). IsWide (scale l x f)) (sym by_is) w)
narrow-stage2 x f by by_is small kept (inr (inl w)) = absurd (w (subst (λ (l : ℕ). FitsSigned w128 (pos l)) by_is (fits_natural by small)))
narrow-stage2 x f by by_is small kept (inr (inr (inl w))) = absurd (w (fits_natural 0 (omega arith)))
narrow-stage2 x f by by_is small kept (inr (inr (inr (inl w)))) = absurd (w (fits_natural 1 (omega arith)))
narrow-stage2 x f by by_is small kept (inr (inr (inr (inr w)))) = absurd w

pub narrow_second : (x : Var) (p : Assertion) (g : Form) → g ≡ evaluate (normal_form p) → ¬ (IsWide (normal_form p)) → (IsWide (stage2 x g) → IsWide g) → ¬ (IsWide (scaled_form x p))
narrow_second x p g g_is first kept w = first (wide-evaluate (normal_form p) (subst IsWide g_is (kept (subst (λ h. IsWide (stage2 x h)) (sym g_is) w))))

pub narrow_third : (x : Var) (p : Assertion) (g : Form) → g ≡ evaluate (scaled_form x p) → ¬ (IsWide (scaled_form x p)) → (IsWide (stage3 x g) ⊎ HasWideSum (place x) g → IsWide g) → ¬ (HasWideCases x p)
narrow_third x p g g_is second kept w = second (wide-evaluate (scaled_form x p) (subst IsWide g_is (kept (subst (λ h. IsWide (stage3 x h) ⊎ HasWideSum (place x) h) (sym g_is) w))))
