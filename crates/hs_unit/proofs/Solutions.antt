-- A form that is solved for a variable, and the solution in its place in other forms.
use Rattle.std.proofs.Common.{◌≡◌, ℕ, suc, ◌≤◌, ◌==◌, Bool, true, false, cond, eqb, eqb-true, eq-eqb, inl, inr, ◌⊎◌, List, [], ◌∷◌, Some, refl, sym, ap, ◌∙◌, subst, arith, ℤ, pos, negsuc, neg_ℤ, ◌+ℤ◌, ◌*ℤ◌}
use Rattle.std.proofs.lemmas.Int.{ints}
use Rattle.hs_pure.specs.declared.lin.Lin.{Lin}
use Rattle.hs_elimination.specs.Cases.{substitute_lin}
use Rattle.hs_elimination.specs.Linear.{place, coefficient, rest, without}
use Rattle.hs_elimination.proofs.Meaning.{Assignment, RisesFrom, assign, value}
use Rattle.hs_elimination.proofs.Rising.{rises-scale, rises-without}
use Rattle.hs_elimination.proofs.Values.{value-assign, value-substitute, value-times}
use Rattle.hs_substitute.proofs.Ordering.{rises-substitute_lin}
use Rattle.hs_unit.specs.Sides.{Comparison, forms}
use Rattle.hs_unit.specs.Reduction.{Term, is_unit, unit_term, solution, put, put_right}
use Rattle.hs_unit.proofs.Zeros.{AllRise, Zeros, AllMeet, Meets}

-- ---- the variable that is solved for

is_one : (n : ℕ) → (n == 1) ≡ true → n ≡ 1
is_one n h = eqb-true n 1 h

is_zero : (n : ℕ) → (n == 0) ≡ true → n ≡ 0
is_zero n h = eqb-true n 0 h

pub unit_is : (c : ℤ) → is_unit c ≡ true → (c ≡ pos 1) ⊎ (c ≡ negsuc 0)
unit_is (pos n) h = inl (ap pos (is_one n h))
unit_is (negsuc n) h = inr (ap negsuc (is_zero n h))

pub unit_found : (ts : List Term) (t : Term) → unit_term ts ≡ Some t → is_unit t.1 ≡ true
unit_found [] t h = absurd cc
unit_found (e ∷ es) t h = by_test (unit_found es t) (is_unit e.1) refl h
  where
    by_test : (unit_term es ≡ Some t → is_unit t.1 ≡ true) → (b : Bool) → is_unit e.1 ≡ b → cond b (Some e) (unit_term es) ≡ Some t → is_unit t.1 ≡ true
    by_test ih true is k = let same : e ≡ t = cc in subst (λ (x : Term). is_unit x.1 ≡ true) same is
    by_test ih false is k = ih k

unit_place : (m : ℕ) (ts : List Term) (t : Term) → RisesFrom m ts → unit_term ts ≡ Some t → m ≤ place t.0
unit_place m [] t r h = absurd cc
unit_place m (e ∷ es) t r h = by_test (unit_place (suc (place e.0)) es t r.2) (is_unit e.1) h
  where
    by_test : (unit_term es ≡ Some t → suc (place e.0) ≤ place t.0) → (b : Bool) → cond b (Some e) (unit_term es) ≡ Some t → m ≤ place t.0
    by_test ih true k = let same : e ≡ t = cc in subst (λ (x : Term). m ≤ place x.0) same r.0
    by_test ih false k = let later = ih k in let first = r.0 in omega (arith, later, first)

apart : (m n : ℕ) → suc m ≤ n → eqb m n ≡ false
apart m n h = by_test (eqb m n) refl
  where
    by_test : (b : Bool) → eqb m n ≡ b → eqb m n ≡ false
    by_test true e = let same : m ≡ n = eqb-true m n e in absurd (omega (arith, same, h))
    by_test false e = e

unit_coefficient : (m : ℕ) (ts : List Term) (t : Term) → RisesFrom m ts → unit_term ts ≡ Some t → coefficient (place t.0) ts ≡ t.1
unit_coefficient m [] t r h = absurd cc
unit_coefficient m (e ∷ es) t r h = by_test (unit_coefficient (suc (place e.0)) es t r.2) (unit_place (suc (place e.0)) es t r.2) (is_unit e.1) h
  where
    by_test : (unit_term es ≡ Some t → coefficient (place t.0) es ≡ t.1) → (unit_term es ≡ Some t → suc (place e.0) ≤ place t.0) → (b : Bool) → cond b (Some e) (unit_term es) ≡ Some t → cond (eqb (place e.0) (place t.0)) e.1 (coefficient (place t.0) es) ≡ t.1
    by_test ih far true k =
        let same : e ≡ t = cc in
        let one : eqb (place e.0) (place t.0) ≡ true = eq-eqb (place e.0) (place t.0) (ap (λ (x : Term). place x.0) same) in
        rw one (ap (λ (x : Term). x.1) same)
    by_test ih far false k = rw (apart (place e.0) (place t.0) (far k)) (ih k)

-- ---- values

assign-own : (s : Assignment) (x : ℕ) → assign s x (s x) ≡ s
assign-own s x = λ i n. own n i
  where
    own : (n : ℕ) → cond (eqb n x) (s x) (s n) ≡ s n
    own n = by_test (eqb n x) refl
      where
        by_test : (b : Bool) → eqb n x ≡ b → cond b (s x) (s n) ≡ s n
        by_test true e = ap s (sym (eqb-true n x e))
        by_test false e = refl

module _ (s : Assignment) (f : Lin) (t : Term) (r : RisesFrom 0 f.terms) (unit : unit_term f.terms ≡ Some t) where
  pub parts : value s f ≡ t.1 *ℤ s (place t.0) +ℤ value s (rest (place t.0) f)
  parts =
      ap (λ (a : Assignment). value a f) (sym (assign-own s (place t.0)))
      ∙ value-assign s (place t.0) (s (place t.0)) f r
      ∙ ap (λ c. c *ℤ s (place t.0) +ℤ value s (rest (place t.0) f)) (unit_coefficient 0 f.terms t r unit)

  solved_for : (c : ℤ) (x y : ℤ) → (c ≡ pos 1) ⊎ (c ≡ negsuc 0) → c *ℤ x +ℤ y ≡ pos 0 → neg_ℤ c *ℤ y ≡ x
  solved_for c x y (inl is) h =
      let e : pos 1 *ℤ x +ℤ y ≡ pos 0 = subst (λ (d : ℤ). d *ℤ x +ℤ y ≡ pos 0) is h in
      ap (λ (d : ℤ). neg_ℤ d *ℤ y) is ∙ omega (arith, ints, e)
  solved_for c x y (inr is) h =
      let e : negsuc 0 *ℤ x +ℤ y ≡ pos 0 = subst (λ (d : ℤ). d *ℤ x +ℤ y ≡ pos 0) is h in
      ap (λ (d : ℤ). neg_ℤ d *ℤ y) is ∙ omega (arith, ints, e)

  -- at a solution of f the term is worth its variable
  pub value-solution : value s f ≡ pos 0 → value s (solution f t) ≡ s (place t.0)
  value-solution h =
      value-times s (neg_ℤ t.1) (rest (place t.0) f)
      ∙ solved_for t.1 (s (place t.0)) (value s (rest (place t.0) f)) (unit_is t.1 (unit_found f.terms t unit)) (sym parts ∙ h)

  pub rises-solution : RisesFrom 0 (solution f t).terms
  rises-solution = rises-scale 0 (neg_ℤ t.1) (without (place t.0) f.terms) (not_zero t.1 (unit_is t.1 (unit_found f.terms t unit))) (rises-without 0 (place t.0) f.terms r)
    where
      not_zero : (c : ℤ) → (c ≡ pos 1) ⊎ (c ≡ negsuc 0) → ¬ (neg_ℤ c ≡ pos 0)
      not_zero c (inl is) h = absurd (omega (arith, ints, is, h))
      not_zero c (inr is) h = absurd (omega (arith, ints, is, h))

  -- and the other forms keep their values
  pub value-put : value s f ≡ pos 0 → (a : Lin) → RisesFrom 0 a.terms → value s (substitute_lin (place t.0) (solution f t) a) ≡ value s a
  value-put h a ra =
      value-substitute s (place t.0) (solution f t) a ra
      ∙ ap (λ y. value (assign s (place t.0) y) a) (value-solution h)
      ∙ ap (λ (b : Assignment). value b a) (assign-own s (place t.0))

  pub zeros-put : value s f ≡ pos 0 → (as' : List Lin) → AllRise as' → Zeros s as' → Zeros s (put t f as')
  zeros-put h [] ra z = tt
  zeros-put h (a ∷ as') ra z = (value-put h a ra.0 ∙ z.0, zeros-put h as' ra.1 z.1)

  pub zeros-put_back : value s f ≡ pos 0 → (as' : List Lin) → AllRise as' → Zeros s (put t f as') → Zeros s as'
  zeros-put_back h [] ra z = tt
  zeros-put_back h (a ∷ as') ra z = (sym (value-put h a ra.0) ∙ z.0, zeros-put_back h as' ra.1 z.1)

  pub meet-put : value s f ≡ pos 0 → (cs : List Comparison) → AllRise (forms cs) → AllMeet s cs → AllMeet s (put_right t f cs)
  meet-put h [] ra m = tt
  meet-put h (c ∷ cs) ra m = (subst (Meets c.0) (sym (value-put h c.1 ra.0)) m.0, meet-put h cs ra.1 m.1)

  pub meet-put_back : value s f ≡ pos 0 → (cs : List Comparison) → AllRise (forms cs) → AllMeet s (put_right t f cs) → AllMeet s cs
  meet-put_back h [] ra m = tt
  meet-put_back h (c ∷ cs) ra m = (subst (Meets c.0) (value-put h c.1 ra.0) m.0, meet-put_back h cs ra.1 m.1)

  pub rise-put : (as' : List Lin) → AllRise as' → AllRise (put t f as')
  rise-put [] ra = tt
  rise-put (a ∷ as') ra = (rises-substitute_lin (place t.0) (solution f t) a rises-solution ra.0, rise-put as' ra.1)

  pub rise-put_right : (cs : List Comparison) → AllRise (forms cs) → AllRise (forms (put_right t f cs))
  rise-put_right [] ra = tt
  rise-put_right (c ∷ cs) ra = (rises-substitute_lin (place t.0) (solution f t) c.1 rises-solution ra.0, rise-put_right cs ra.1)
