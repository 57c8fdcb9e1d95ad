-- The values of a No, and the stack that they make.
use Rattle.std.proofs.Common.{◌≡◌, ℕ, Bool, true, false, cond, not, ◌||◌, eqb, eqb-true, eq-eqb, ◌⊎◌, inl, inr, List, [], ◌∷◌, Option, None, Some, refl, sym, ap, ◌∙◌, subst, arith, ℤ, pos, negsuc, neg_ℤ, ◌+ℤ◌, ◌*ℤ◌}
use Rattle.std.proofs.lemmas.Int.{ints}
use Rattle.std.proofs.lemmas.Bool.Decides.{Decides-int_eq}
use Rattle.std.specs.Ordering.{int_eq}
use Rattle.hs_pure.specs.declared.var.Var.{Var}
use Rattle.hs_pure.specs.declared.lin.Lin.{Lin}
use Rattle.hs_pure.specs.declared.valuation.Valuation.{Valuation}
use Rattle.hs_pure.specs.Eval.{found, stack_of}
use Rattle.hs_pure.specs.Stack.{same}
use Rattle.hs_pure.specs.Truth as Truth
use Rattle.hs_pure.proofs.Vars.{same-eq, same-refl}
use Rattle.hs_elimination.specs.Linear.{place, coefficient, rest}
use Rattle.hs_elimination.proofs.Meaning.{Assignment, RisesFrom, sum_at, value}
use Rattle.hs_elimination.proofs.Stacks.{same_place}
use Rattle.hs_elimination.proofs.Values.{value-assign}
use Rattle.hs_unit.specs.Reduction.{Term}
use Rattle.hs_unit.specs.Settling.{is_clash, clash, worth, turned, pivot_values, values}
use Rattle.hs_unit.proofs.Zeros.{AllRise, Zeros}
use Rattle.hs_unit.proofs.Sounds.{constant_value}
use Rattle.hs_unit.proofs.Pivots.{AgreeOff, IsPlaceOf, IsPivot, AllTaken, AreDistinct}

-- the value that is listed first, and without one 0
abbrev pub at : List Term → Assignment
at [] n = pos 0
at (v ∷ vs) n = cond (eqb n (place v.0)) v.1 (at vs n)

-- ---- the stack of a valuation

different_places : (x v : Var) → same x v ≡ false → eqb (place v) (place x) ≡ false
different_places x v e = by_test (eqb (place v) (place x)) refl
  where
    by_test : (b : Bool) → eqb (place v) (place x) ≡ b → eqb (place v) (place x) ≡ false
    by_test true p =
        let is : x ≡ v = sym (same_place v x (eqb-true (place v) (place x) p)) in
        let t : same x v ≡ true = subst (λ (w : Var). same x w ≡ true) is (same-refl x) in
        absurd cc
    by_test false p = p

found-at : (vs : List Term) (u : Var) → found vs u ≡ at vs (place u)
found-at [] u = refl
found-at (v ∷ vs) u = by_test (found-at vs u) (same v.0 u) refl
  where
    by_test : found vs u ≡ at vs (place u) → (b : Bool) → same v.0 u ≡ b → cond b v.1 (found vs u) ≡ cond (eqb (place u) (place v.0)) v.1 (at vs (place u))
    by_test ih true e =
        let is : eqb (place u) (place v.0) ≡ true = eq-eqb (place u) (place v.0) (ap place (sym (same-eq v.0 u e))) in
        rw is refl
    by_test ih false e = rw (different_places v.0 u e) ih

sum-found : (v : Valuation) (ts : List Term) → Truth.sum_at (stack_of v) ts ≡ sum_at (at v.numbers) ts
sum-found v [] = refl
sum-found v (t ∷ ts) = λ i. t.1 *ℤ found-at v.numbers t.0 i +ℤ sum-found v ts i

pub value-found : (v : Valuation) (a : Lin) → Truth.value (stack_of v) a ≡ value (at v.numbers) a
value-found v a = ap (λ z. z +ℤ a.constant) (sum-found v a.terms)

-- ---- where one variable has a value, and all others are 0

abbrev pub base : Option Term → Assignment
base e = at (values e [])

times_zero : (c : ℤ) → c *ℤ pos 0 +ℤ pos 0 ≡ pos 0
times_zero c = omega (arith, ints)

sum-zero : (ts : List Term) → sum_at (at []) ts ≡ pos 0
sum-zero [] = refl
sum-zero (t ∷ ts) = ap (λ z. t.1 *ℤ pos 0 +ℤ z) (sum-zero ts) ∙ times_zero t.1

zero_plus : (c : ℤ) → pos 0 +ℤ c ≡ c
zero_plus c = omega (arith, ints)

value-zero : (f : Lin) → value (at []) f ≡ f.constant
value-zero f = ap (λ z. z +ℤ f.constant) (sum-zero f.terms) ∙ zero_plus f.constant

pub value-base : (e : Option Term) (f : Lin) → RisesFrom 0 f.terms → value (base e) f ≡ worth e f
value-base None f r = value-zero f
value-base (Some e) f r =
    value-assign (at []) (place e.0) e.1 f r
    ∙ ap (λ z. coefficient (place e.0) f.terms *ℤ e.1 +ℤ z) (value-zero (rest (place e.0) f))

-- ---- the values of the pivots

off-pivots : (e : Option Term) (ps : List (Option Term)) (fs : List Lin) (n : ℕ) → ¬ (IsPlaceOf ps n) → at (pivot_values e ps fs) n ≡ pos 0
off-pivots e [] fs n h = refl
off-pivots e (p ∷ ps) [] n h = refl
off-pivots e (None ∷ ps) (f ∷ fs) n h = off-pivots e ps fs n (λ k. h (inr k))
off-pivots e (Some t ∷ ps) (f ∷ fs) n h = by_test (off-pivots e ps fs n (λ k. h (inr k))) (eqb n (place t.0)) refl
  where
    by_test : at (pivot_values e ps fs) n ≡ pos 0 → (b : Bool) → eqb n (place t.0) ≡ b → cond b (turned t.1 (worth e f)) (at (pivot_values e ps fs) n) ≡ pos 0
    by_test ih true is = absurd (h (inl (eqb-true n (place t.0) is)))
    by_test ih false is = ih

-- the values off the pivots are those where one variable has a value
pub agree-base : (e : Option Term) (ps : List (Option Term)) (fs : List Lin) → AgreeOff (IsPlaceOf ps) (at (values e (pivot_values e ps fs))) (base e)
agree-base None ps fs n h = off-pivots None ps fs n h
agree-base (Some e) ps fs n h = ap (cond (eqb n (place e.0)) e.1) (off-pivots (Some e) ps fs n h)

-- each pivot has its value
abbrev AreSet : Option Term → Assignment → List (Option Term) → List Lin → Type 0
AreSet e s [] fs = Unit {0}
AreSet e s (p ∷ ps) [] = Unit {0}
AreSet e s (None ∷ ps) (f ∷ fs) = AreSet e s ps fs
AreSet e s (Some t ∷ ps) (f ∷ fs) = (s (place t.0) ≡ turned t.1 (worth e f)) × AreSet e s ps fs

set-same : (e : Option Term) (s u : Assignment) (ps : List (Option Term)) (fs : List Lin) → ((n : ℕ) → IsPlaceOf ps n → u n ≡ s n) → AreSet e s ps fs → AreSet e u ps fs
set-same e s u [] fs k h = tt
set-same e s u (p ∷ ps) [] k h = tt
set-same e s u (None ∷ ps) (f ∷ fs) k h = set-same e s u ps fs (λ n w. k n (inr w)) h
set-same e s u (Some t ∷ ps) (f ∷ fs) k h = (k (place t.0) (inl refl) ∙ h.0, set-same e s u ps fs (λ n w. k n (inr w)) h.1)

skip : (v : Term) (s : Assignment) (n : ℕ) → ¬ (n ≡ place v.0) → cond (eqb n (place v.0)) v.1 (s n) ≡ s n
skip v s n off = by_test (eqb n (place v.0)) refl
  where
    by_test : (b : Bool) → eqb n (place v.0) ≡ b → cond b v.1 (s n) ≡ s n
    by_test true e = absurd (off (eqb-true n (place v.0) e))
    by_test false e = refl

first-value : (v : Term) (vs : List Term) → at (v ∷ vs) (place v.0) ≡ v.1
first-value v vs = ap (λ (b : Bool). cond b v.1 (at vs (place v.0))) (eq-eqb (place v.0) (place v.0) refl)

set-pivots : (e : Option Term) (ps : List (Option Term)) (fs : List Lin) → AreDistinct ps → AreSet e (at (pivot_values e ps fs)) ps fs
set-pivots e [] fs d = tt
set-pivots e (p ∷ ps) [] d = tt
set-pivots e (None ∷ ps) (f ∷ fs) d = set-pivots e ps fs d.1
set-pivots e (Some t ∷ ps) (f ∷ fs) d =
    let v : Term = (t.0, turned t.1 (worth e f)) in
    let vs = pivot_values e ps fs in
    (first-value v vs, set-same e (at vs) (at (v ∷ vs)) ps fs (λ n k. skip v (at vs) n (λ is. d.0 n is k)) (set-pivots e ps fs d.1))

-- the one variable is no pivot
abbrev pub IsApart : List (Option Term) → Option Term → Type 0
IsApart ps None = Unit {0}
IsApart ps (Some e) = ¬ (IsPlaceOf ps (place e.0))

set-values : (e : Option Term) (ps : List (Option Term)) (fs : List Lin) → AreDistinct ps → IsApart ps e → AreSet e (at (values e (pivot_values e ps fs))) ps fs
set-values None ps fs d h = set-pivots None ps fs d
set-values (Some e) ps fs d h =
    let vs = pivot_values (Some e) ps fs in
    set-same (Some e) (at vs) (at (e ∷ vs)) ps fs (λ n k. skip e (at vs) n (λ is. h (subst (IsPlaceOf ps) is k))) (set-pivots (Some e) ps fs d)

base-zero : (e : Option Term) (ps : List (Option Term)) → IsApart ps e → (n : ℕ) → IsPlaceOf ps n → base e n ≡ pos 0
base-zero None ps h n k = refl
base-zero (Some e) ps h n k = skip e (at []) n (λ is. h (subst (IsPlaceOf ps) is k))

-- ---- the forms become 0

not_either : (a b : Bool) → (a || b) ≡ false → (a ≡ false) × (b ≡ false)
not_either true b h = absurd cc
not_either false b h = (refl, h)

constant_zero : (f : Lin) → f.terms ≡ [] → is_clash f.terms f.constant ≡ false → f.constant ≡ pos 0
constant_zero f e h = by_test (int_eq f.constant (pos 0)) refl (subst (λ (ts : List Term). is_clash ts f.constant ≡ false) e h)
  where
    by_test : (b : Bool) → int_eq f.constant (pos 0) ≡ b → not b ≡ false → f.constant ≡ pos 0
    by_test true q k = (Decides-int_eq f.constant (pos 0)).0 q
    by_test false q k = absurd cc

makes_zero : (c y w q z : ℤ) → (c ≡ pos 1) ⊎ (c ≡ negsuc 0) → y ≡ turned c w → z ≡ pos 0 → w ≡ c *ℤ z +ℤ q → c *ℤ y +ℤ q ≡ pos 0
makes_zero c y w q z (inl is) h none e =
    let k : y ≡ neg_ℤ w = h ∙ ap (λ (d : ℤ). turned d w) is in
    let l : w ≡ pos 1 *ℤ pos 0 +ℤ q = e ∙ (λ i. is i *ℤ none i +ℤ q) in
    ap (λ (d : ℤ). d *ℤ y +ℤ q) is ∙ omega (arith, ints, k, l)
makes_zero c y w q z (inr is) h none e =
    let k : y ≡ w = h ∙ ap (λ (d : ℤ). turned d w) is in
    let l : w ≡ negsuc 0 *ℤ pos 0 +ℤ q = e ∙ (λ i. is i *ℤ none i +ℤ q) in
    ap (λ (d : ℤ). d *ℤ y +ℤ q) is ∙ omega (arith, ints, k, l)

module _ (e : Option Term) (Z : ℕ → Type 0) (s : Assignment) (agree : AgreeOff Z s (base e)) (none : (n : ℕ) → Z n → base e n ≡ pos 0) where
  zero-pivot : (t : Term) (f : Lin) → Z (place t.0) → RisesFrom 0 f.terms → IsPivot Z t f → s (place t.0) ≡ turned t.1 (worth e f) → value s f ≡ pos 0
  zero-pivot t f z r p set =
      p.splits s
      ∙ ap (λ q. t.1 *ℤ s (place t.0) +ℤ q) (p.free s (base e) agree)
      ∙ makes_zero t.1 (s (place t.0)) (worth e f) (p.other (base e)) (base e (place t.0)) p.unit set (none (place t.0) z) (sym (value-base e f r) ∙ p.splits (base e))

  pub zeros-taken : (ps : List (Option Term)) (fs : List Lin) → ((n : ℕ) → IsPlaceOf ps n → Z n) → AllRise fs → clash fs ≡ false → AllTaken Z ps fs → AreSet e s ps fs → Zeros s fs
  zeros-taken [] [] own r c h set = tt
  zeros-taken [] (f ∷ fs) own r c h set = absurd h
  zeros-taken (p ∷ ps) [] own r c h set = absurd h
  zeros-taken (None ∷ ps) (f ∷ fs) own r c h set =
      let k = not_either (is_clash f.terms f.constant) (clash fs) c in
      (constant_value s f h.0 ∙ constant_zero f h.0 k.0, zeros-taken ps fs (λ n w. own n (inr w)) r.1 k.1 h.1 set)
  zeros-taken (Some t ∷ ps) (f ∷ fs) own r c h set =
      let k = not_either (is_clash f.terms f.constant) (clash fs) c in
      (zero-pivot t f (own (place t.0) (inl refl)) r.0 h.0 set.0, zeros-taken ps fs (λ n w. own n (inr w)) r.1 k.1 h.1 set.1)

-- all forms that were taken are 0 at the values
pub zeros-values : (e : Option Term) (ps : List (Option Term)) (fs : List Lin) → AreDistinct ps → IsApart ps e → AllRise fs → clash fs ≡ false → AllTaken (IsPlaceOf ps) ps fs → Zeros (at (values e (pivot_values e ps fs))) fs
zeros-values e ps fs d h r c k =
    zeros-taken e (IsPlaceOf ps) (at (values e (pivot_values e ps fs))) (agree-base e ps fs) (base-zero e ps h) ps fs (λ n w. w) r c k (set-values e ps fs d h)
