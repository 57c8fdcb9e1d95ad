-- A form of the right side that is no number as its kind says is made false by one value.
use Rattle.std.proofs.Common.{◌≡◌, ℕ, zero, suc, ◌*◌, ◌≤◌, Bool, true, false, not, cond, eqb, eqb-true, eq-eqb, ◌↔◌, ◌⊎◌, inl, inr, List, [], ◌∷◌, Option, None, Some, refl, sym, ap, ◌∙◌, subst, arith, ℤ, pos, negsuc, int_lt, ◌+ℤ◌, ◌*ℤ◌, ◌<ℤ◌, ◌≤ℤ◌, ◌&&◌, ◌||◌}
use Rattle.std.proofs.lemmas.Int.{ints, by_lt_z}
use Rattle.std.proofs.lemmas.Bool.Decides.{Decides-int_eq}
use Rattle.std.specs.Ordering.{int_eq}
use Rattle.hs_pure.specs.declared.lin.Lin.{Lin}
use Rattle.hs_elimination.specs.Linear.{place, coefficient, rest}
use Rattle.hs_elimination.proofs.Meaning.{Assignment, RisesFrom, assign, value}
use Rattle.hs_elimination.proofs.Values.{value-assign}
use Rattle.hs_unit.specs.declared.sides.Kind.{Kind}
use Rattle.hs_unit.specs.declared.sides.Kind.TheVariants.{Zero, Below, Most}
use Rattle.hs_unit.specs.Sides.{Comparison, forms}
use Rattle.hs_unit.specs.Reduction.{Term}
use Rattle.hs_unit.specs.Settling.{is_clash, clash, meets, is_settled, are_settled, chosen, raised, denied}
use Rattle.hs_unit.proofs.Zeros.{AllRise, Zeros, Meets, AllMeet}
use Rattle.hs_unit.proofs.Sounds.{constant_value}
use Rattle.hs_unit.proofs.Pivots.{AgreeOff, IsFreeOf, AllFreeOf, IsPlaceOf}
use Rattle.hs_unit.proofs.Lookups.{base, value-base, IsApart}

true_false : ◌≡◌ {A = Bool} true false → ⊥
true_false h = cc

lt-test : (a b : ℤ) → (a <ℤ b) ↔ (int_lt a b ≡ true)
lt-test a b = (λ p. grind (arith, ints), λ p. grind (arith, ints))

-- ---- yes

pub or_cases : (a b : Bool) → (a || b) ≡ true → (a ≡ true) ⊎ (b ≡ true)
or_cases true b h = inl refl
or_cases false b h = inr h

and_first : (a b : Bool) → (a && b) ≡ true → a ≡ true
and_first true b h = refl
and_first false b h = absurd cc

and_second : (a b : Bool) → (a && b) ≡ true → b ≡ true
and_second true b h = h
and_second false b h = absurd cc

-- a form that is a number other than 0 is 0 nowhere
pub no_clash : (s : Assignment) (fs : List Lin) → Zeros s fs → clash fs ≡ true → ⊥
no_clash s [] z h = cc
no_clash s (f ∷ fs) z h = elim (or_cases (is_clash f.terms f.constant) (clash fs) h) [
  | inl k ↦ here f.terms refl k
  | inr k ↦ no_clash s fs z.1 k
]
  where
    differs : (c : ℤ) → not (int_eq c (pos 0)) ≡ true → c ≡ pos 0 → ⊥
    differs c h e = let t : int_eq c (pos 0) ≡ true = (Decides-int_eq c (pos 0)).1 e in cc

    here : (ts : List Term) → f.terms ≡ ts → is_clash ts f.constant ≡ true → ⊥
    here [] e k = differs f.constant k (sym (constant_value s f e) ∙ z.0)
    here (t ∷ ts) e k = cc

meets_true : (k : Kind) (c : ℤ) → meets k c ≡ true → Meets k c
meets_true Zero c h = (Decides-int_eq c (pos 0)).0 h
meets_true Below c h = (lt-test c (pos 0)).1 h
meets_true Most c h = by_lt_z (pos 0) c (λ l. let t : int_lt (pos 0) c ≡ true = (lt-test (pos 0) c).0 l in absurd cc) (λ l. l)

-- numbers as their kinds say are so everywhere
pub all_meet : (s : Assignment) (cs : List Comparison) → are_settled cs ≡ true → AllMeet s cs
all_meet s [] h = tt
all_meet s (c ∷ cs) h = (here c.1.terms refl (and_first (is_settled c.0 c.1.terms c.1.constant) (are_settled cs) h), all_meet s cs (and_second (is_settled c.0 c.1.terms c.1.constant) (are_settled cs) h))
  where
    here : (ts : List Term) → c.1.terms ≡ ts → is_settled c.0 ts c.1.constant ≡ true → Meets c.0 (value s c.1)
    here [] e k = subst (Meets c.0) (sym (constant_value s c.1 e)) (meets_true c.0 c.1.constant k)
    here (t ∷ ts) e k = absurd cc

-- ---- no

one_or_more : (k : Kind) (z : ℤ) → pos 1 ≤ℤ z → ¬ (Meets k z)
one_or_more Zero z h m = absurd (omega (arith, ints, h, m))
one_or_more Below z h m = absurd (omega (arith, ints, h, m))
one_or_more Most z h m = absurd (omega (arith, ints, h, m))

not_met : (k : Kind) (z : ℤ) → meets k z ≡ false → ¬ (Meets k z)
not_met Zero z h m = let t : int_eq z (pos 0) ≡ true = (Decides-int_eq z (pos 0)).1 m in true_false (sym t ∙ h)
not_met Below z h m = let t : int_lt z (pos 0) ≡ true = (lt-test z (pos 0)).0 m in true_false (sym t ∙ h)
not_met Most z h m = by_test (int_lt (pos 0) z) refl h
  where
    by_test : (b : Bool) → int_lt (pos 0) z ≡ b → not b ≡ false → ⊥
    by_test true e k = let l : pos 0 <ℤ z = (lt-test (pos 0) z).1 e in absurd (omega (arith, ints, l, m))
    by_test false e k = absurd cc

product_one : (m n : ℕ) → suc n ≤ suc m * suc n
product_one m n = omega arith

chosen-large : (c k : ℤ) → ¬ (c ≡ pos 0) → pos 1 ≤ℤ (c *ℤ chosen c k +ℤ k)
chosen-large (pos zero) k h = absurd (h refl)
chosen-large (pos (suc m)) (pos n) h = omega (arith, ints, product_one m n)
chosen-large (pos (suc m)) (negsuc n) h = omega (arith, ints, product_one m (suc n))
chosen-large (negsuc m) (pos n) h = omega (arith, ints, product_one m n)
chosen-large (negsuc m) (negsuc n) h = omega (arith, ints, product_one m (suc n))

first-coefficient : (a : Lin) (t : Term) (ts : List Term) → a.terms ≡ t ∷ ts → coefficient (place t.0) a.terms ≡ t.1
first-coefficient a t ts e = ap (coefficient (place t.0)) e ∙ ap (λ (b : Bool). cond b t.1 (coefficient (place t.0) ts)) (eq-eqb (place t.0) (place t.0) refl)

-- a form with a variable is 1 or more where its first variable has the chosen value
raised-large : (a : Lin) (t : Term) (ts : List Term) → a.terms ≡ t ∷ ts → RisesFrom 0 a.terms → pos 1 ≤ℤ value (base (Some (t.0, chosen t.1 a.constant))) a
raised-large a t ts e r =
    let q = subst (RisesFrom 0) e r in
    let is : value (base (Some (t.0, chosen t.1 a.constant))) a ≡ t.1 *ℤ chosen t.1 a.constant +ℤ a.constant =
    value-base (Some (t.0, chosen t.1 a.constant)) a r ∙ ap (λ (c : ℤ). c *ℤ chosen t.1 a.constant +ℤ a.constant) (first-coefficient a t ts e) in
    subst (λ z. pos 1 ≤ℤ z) (sym is) (chosen-large t.1 a.constant q.1)

-- the right side is not met there
pub not_all : (cs : List Comparison) → are_settled cs ≡ false → AllRise (forms cs) → ¬ (AllMeet (base (denied cs)) cs)
not_all [] h r m = true_false h
not_all (c ∷ cs) h r m = by_first (not_all cs) (is_settled c.0 c.1.terms c.1.constant) refl h m
  where
    by_terms : (ts : List Term) → c.1.terms ≡ ts → is_settled c.0 ts c.1.constant ≡ false → Meets c.0 (value (base (raised ts c.1.constant)) c.1) → ⊥
    by_terms [] e k m = not_met c.0 c.1.constant k (subst (Meets c.0) (constant_value (base None) c.1 e) m)
    by_terms (t ∷ ts) e k m = one_or_more c.0 (value (base (Some (t.0, chosen t.1 c.1.constant))) c.1) (raised-large c.1 t ts e r.0) m

    by_first : (are_settled cs ≡ false → AllRise (forms cs) → ¬ (AllMeet (base (denied cs)) cs)) → (b : Bool) → is_settled c.0 c.1.terms c.1.constant ≡ b → (b && are_settled cs) ≡ false → AllMeet (base (cond b (denied cs) (raised c.1.terms c.1.constant))) (c ∷ cs) → ⊥
    by_first ih true e k m = ih k r.1 m.1
    by_first ih false e k m = by_terms c.1.terms refl e m.0

-- ---- the chosen variable is no pivot

module _ (Z : ℕ → Type 0) where
  differs : (c q : ℤ) → ¬ (c ≡ pos 0) → c *ℤ pos 0 +ℤ q ≡ c *ℤ pos 1 +ℤ q → ⊥
  differs c q n h = n (omega (arith, ints, h))

  -- a form that depends on its first variable
  first-apart : (a : Lin) (t : Term) (ts : List Term) → a.terms ≡ t ∷ ts → RisesFrom 0 a.terms → IsFreeOf Z a → ¬ (Z (place t.0))
  first-apart a t ts e r free z =
      let x = place t.0 in
      let none : Assignment = λ n. pos 0 in
      let q = subst (RisesFrom 0) e r in
      let at_none : value (assign none x (pos 0)) a ≡ t.1 *ℤ pos 0 +ℤ value none (rest x a) = value-assign none x (pos 0) a r ∙ ap (λ (c : ℤ). c *ℤ pos 0 +ℤ value none (rest x a)) (first-coefficient a t ts e) in
      let at_one : value (assign none x (pos 1)) a ≡ t.1 *ℤ pos 1 +ℤ value none (rest x a) = value-assign none x (pos 1) a r ∙ ap (λ (c : ℤ). c *ℤ pos 1 +ℤ value none (rest x a)) (first-coefficient a t ts e) in
      differs t.1 (value none (rest x a)) q.1 (sym at_none ∙ free (assign none x (pos 0)) (assign none x (pos 1)) agree ∙ at_one)
    where
      agree : AgreeOff Z (assign (λ n. pos 0) (place t.0) (pos 0)) (assign (λ n. pos 0) (place t.0) (pos 1))
      agree n off = by_test (eqb n (place t.0)) refl
        where
          by_test : (c : Bool) → eqb n (place t.0) ≡ c → ◌≡◌ {A = ℤ} (cond c (pos 0) (pos 0)) (cond c (pos 1) (pos 0))
          by_test true e = absurd (off (subst Z (sym (eqb-true n (place t.0) e)) z))
          by_test false e = refl

pub denied-apart : (ps : List (Option Term)) (cs : List Comparison) → AllRise (forms cs) → AllFreeOf (IsPlaceOf ps) (forms cs) → IsApart ps (denied cs)
denied-apart ps [] r free = tt
denied-apart ps (c ∷ cs) r free = by_first (is_settled c.0 c.1.terms c.1.constant) (denied-apart ps cs r.1 free.1)
  where
    by_terms : (ts : List Term) → c.1.terms ≡ ts → IsApart ps (raised ts c.1.constant)
    by_terms [] e = tt
    by_terms (t ∷ ts) e = first-apart (IsPlaceOf ps) c.1 t ts e r.0 free.0

    by_first : (b : Bool) → IsApart ps (denied cs) → IsApart ps (cond b (denied cs) (raised c.1.terms c.1.constant))
    by_first true ih = ih
    by_first false ih = by_terms c.1.terms refl

pub meet-free : (Z : ℕ → Type 0) (s t : Assignment) → AgreeOff Z s t → (cs : List Comparison) → AllFreeOf Z (forms cs) → AllMeet s cs → AllMeet t cs
meet-free Z s t h [] k m = tt
meet-free Z s t h (c ∷ cs) k m = (subst (Meets c.0) (k.0 s t h) m.0, meet-free Z s t h cs k.1 m.1)
