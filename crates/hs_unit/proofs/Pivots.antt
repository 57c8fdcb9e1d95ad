-- The variables that the forms were solved for: no other form depends on them.
use Rattle.std.proofs.Common.{◌≡◌, ℕ, Bool, true, false, cond, eqb, eqb-true, eq-eqb, inl, inr, ◌⊎◌, List, [], ◌∷◌, ◌++◌, Option, None, Some, refl, sym, ap, ◌∙◌, subst, arith, ℤ, pos, negsuc, neg_ℤ, ◌+ℤ◌, ◌*ℤ◌}
use Rattle.std.proofs.lemmas.Int.{ints}
use Rattle.hs_pure.specs.declared.lin.Lin.{Lin}
use Rattle.hs_elimination.specs.Cases.{substitute_by, substitute_lin}
use Rattle.hs_elimination.specs.Linear.{place, coefficient, rest, without}
use Rattle.hs_elimination.proofs.Meaning.{Assignment, RisesFrom, assign, value}
use Rattle.hs_elimination.proofs.Values.{value-rest, value-substitute, value-times, assign-same}
use Rattle.hs_unit.specs.Sides.{Comparison, forms}
use Rattle.hs_unit.specs.Reduction.{Term, unit_term, solution, put, put_right}
use Rattle.hs_unit.proofs.Zeros.{AllRise}
use Rattle.hs_unit.proofs.Solutions.{unit_is, unit_found, parts}

-- a set of places
abbrev pub Places : Type 1
Places = ℕ → Type 0

abbrev pub AgreeOff : Places → Assignment → Assignment → Type 0
AgreeOff Z s t = (n : ℕ) → ¬ (Z n) → s n ≡ t n

-- what the form is worth does not depend on those places
abbrev pub IsFreeOf : Places → Lin → Type 0
IsFreeOf Z a = (s t : Assignment) → AgreeOff Z s t → value s a ≡ value t a

abbrev pub AllFreeOf : Places → List Lin → Type 0
AllFreeOf Z [] = Unit {0}
AllFreeOf Z (a ∷ as') = IsFreeOf Z a × AllFreeOf Z as'

abbrev with_place : Places → ℕ → Places
with_place Z x n = Z n ⊎ (n ≡ x)

-- the form is the coefficient times the variable, and a rest that does not depend on those places
pub record IsPivot (Z : Places) (t : Term) (f : Lin) : Type 0 where
  pub unit : (t.1 ≡ pos 1) ⊎ (t.1 ≡ negsuc 0)
  pub other : Assignment → ℤ
  pub free : (s u : Assignment) → AgreeOff Z s u → other s ≡ other u
  pub splits : (s : Assignment) → value s f ≡ t.1 *ℤ s (place t.0) +ℤ other s

abbrev pub IsTaken : Places → Option Term → Lin → Type 0
IsTaken Z None f = f.terms ≡ []
IsTaken Z (Some t) f = IsPivot Z t f

-- each form with what it was solved for
abbrev pub AllTaken : Places → List (Option Term) → List Lin → Type 0
AllTaken Z [] [] = Unit {0}
AllTaken Z [] (f ∷ fs) = ⊥
AllTaken Z (p ∷ ps) [] = ⊥
AllTaken Z (p ∷ ps) (f ∷ fs) = IsTaken Z p f × AllTaken Z ps fs

-- the place of what a form was solved for
abbrev pub IsPlace : Option Term → ℕ → Type 0
IsPlace None n = ⊥
IsPlace (Some t) n = n ≡ place t.0

abbrev pub IsPlaceOf : List (Option Term) → Places
IsPlaceOf [] n = ⊥
IsPlaceOf (p ∷ ps) n = IsPlace p n ⊎ IsPlaceOf ps n

-- no place is there twice
abbrev pub AreDistinct : List (Option Term) → Type 0
AreDistinct [] = Unit {0}
AreDistinct (p ∷ ps) = ((n : ℕ) → IsPlace p n → ¬ (IsPlaceOf ps n)) × AreDistinct ps

-- ---- lists

pub place-last : (ps : List (Option Term)) (p : Option Term) (n : ℕ) → IsPlaceOf (ps ++ p ∷ []) n → IsPlaceOf ps n ⊎ IsPlace p n
place-last [] p n (inl h) = inr h
place-last [] p n (inr h) = absurd h
place-last (q ∷ ps) p n (inl h) = inl (inl h)
place-last (q ∷ ps) p n (inr h) = elim (place-last ps p n h) [ inl k ↦ inl (inr k) | inr k ↦ inr k ]

pub distinct-last : (ps : List (Option Term)) (p : Option Term) → AreDistinct ps → ((n : ℕ) → IsPlace p n → ¬ (IsPlaceOf ps n)) → AreDistinct (ps ++ p ∷ [])
distinct-last [] p d h = ((λ n k w. w), tt)
distinct-last (q ∷ ps) p d h = (
  (λ n k w. elim (place-last ps p n w) [ inl l ↦ d.0 n k l | inr l ↦ h n l (inl k) ]),
  distinct-last ps p d.1 (λ n k w. h n k (inr w)),
)

pub taken-last : (Z : Places) (ps : List (Option Term)) (fs : List Lin) (p : Option Term) (f : Lin) → AllTaken Z ps fs → IsTaken Z p f → AllTaken Z (ps ++ p ∷ []) (fs ++ f ∷ [])
taken-last Z [] [] p f h k = (k, tt)
taken-last Z [] (g ∷ gs) p f h k = absurd h
taken-last Z (q ∷ qs) [] p f h k = absurd h
taken-last Z (q ∷ qs) (g ∷ gs) p f h k = (h.0, taken-last Z qs gs p f h.1 k)

-- ---- fewer places

module _ (Y Z : Places) (fewer : (n : ℕ) → Y n → Z n) where
  agree-fewer : (s t : Assignment) → AgreeOff Y s t → AgreeOff Z s t
  agree-fewer s t h n off = h n (λ y. off (fewer n y))

  pub all-fewer : (as' : List Lin) → AllFreeOf Z as' → AllFreeOf Y as'
  all-fewer [] h = tt
  all-fewer (a ∷ as') h = ((λ s t k. h.0 s t (agree-fewer s t k)), all-fewer as' h.1)

  fewer-one : (p : Option Term) (f : Lin) → IsTaken Z p f → IsTaken Y p f
  fewer-one None f h = h
  fewer-one (Some t) f h = record { unit = h.unit; other = h.other; free = λ s u k. h.free s u (agree-fewer s u k); splits = h.splits }

  pub taken-fewer : (ps : List (Option Term)) (fs : List Lin) → AllTaken Z ps fs → AllTaken Y ps fs
  taken-fewer [] [] h = tt
  taken-fewer [] (f ∷ fs) h = absurd h
  taken-fewer (p ∷ ps) [] h = absurd h
  taken-fewer (p ∷ ps) (f ∷ fs) h = (fewer-one p f h.0, taken-fewer ps fs h.1)

-- ---- one more place

no_terms : (x : ℕ) (u a : Lin) → a.terms ≡ [] → (substitute_lin x u a).terms ≡ []
no_terms x u a e =
    let c : coefficient x a.terms ≡ pos 0 = ap (coefficient x) e in
    let same : substitute_lin x u a ≡ rest x a = ap (λ (z : ℤ). substitute_by z u (rest x a)) c in
    ap (λ (q : Lin). q.terms) same ∙ ap (without x) e

module _ (Z : Places) (f : Lin) (t : Term) (r : RisesFrom 0 f.terms) (unit : unit_term f.terms ≡ Some t) (free : IsFreeOf Z f) where
  abbrev x : ℕ
  x = place t.0

  agree-assign : (s s' : Assignment) (y : ℤ) → AgreeOff (with_place Z x) s s' → AgreeOff Z (assign s x y) (assign s' x y)
  agree-assign s s' y h n off = by_test (eqb n x) refl
    where
      by_test : (b : Bool) → eqb n x ≡ b → cond b y (s n) ≡ cond b y (s' n)
      by_test true e = refl
      by_test false e = h n (λ w. elim w [ inl z ↦ off z | inr is ↦ (let q : eqb n x ≡ true = eq-eqb n x is in cc) ])

  cancel : (c p q : ℤ) → c *ℤ pos 0 +ℤ p ≡ c *ℤ pos 0 +ℤ q → p ≡ q
  cancel c p q h = let z : c *ℤ pos 0 ≡ pos 0 = times_zero c in omega (arith, ints, h, z)
    where
      times_zero : (c : ℤ) → c *ℤ pos 0 ≡ pos 0
      times_zero c = omega (arith, ints)

  free-rest : (s s' : Assignment) → AgreeOff (with_place Z x) s s' → value s (rest x f) ≡ value s' (rest x f)
  free-rest s s' h =
      let a = assign s x (pos 0) in
      let b = assign s' x (pos 0) in
      let pa : value a f ≡ t.1 *ℤ pos 0 +ℤ value s (rest x f) = parts a f t r unit ∙ (λ i. t.1 *ℤ assign-same s x (pos 0) i +ℤ value-rest s x (pos 0) f i) in
      let pb : value b f ≡ t.1 *ℤ pos 0 +ℤ value s' (rest x f) = parts b f t r unit ∙ (λ i. t.1 *ℤ assign-same s' x (pos 0) i +ℤ value-rest s' x (pos 0) f i) in
      cancel t.1 (value s (rest x f)) (value s' (rest x f)) (sym pa ∙ free a b (agree-assign s s' (pos 0) h) ∙ pb)

  free-solution : IsFreeOf (with_place Z x) (solution f t)
  free-solution s s' h = value-times s (neg_ℤ t.1) (rest x f) ∙ ap (λ z. neg_ℤ t.1 *ℤ z) (free-rest s s' h) ∙ sym (value-times s' (neg_ℤ t.1) (rest x f))

  -- with the solution as x
  abbrev with_solution : Assignment → Assignment
  with_solution s = assign s x (value s (solution f t))

  agree-solution : (s s' : Assignment) → AgreeOff (with_place Z x) s s' → AgreeOff Z (with_solution s) (with_solution s')
  agree-solution s s' h =
      subst (λ (y : ℤ). AgreeOff Z (with_solution s) (assign s' x y)) (free-solution s s' h) (agree-assign s s' (value s (solution f t)) h)

  free-put : (a : Lin) → RisesFrom 0 a.terms → IsFreeOf Z a → IsFreeOf (with_place Z x) (substitute_lin x (solution f t) a)
  free-put a ra fa s s' h =
      value-substitute s x (solution f t) a ra
      ∙ fa (with_solution s) (with_solution s') (agree-solution s s' h)
      ∙ sym (value-substitute s' x (solution f t) a ra)

  pub all-free-put : (as' : List Lin) → AllRise as' → AllFreeOf Z as' → AllFreeOf (with_place Z x) (put t f as')
  all-free-put [] ra h = tt
  all-free-put (a ∷ as') ra h = (free-put a ra.0 h.0, all-free-put as' ra.1 h.1)

  pub all-free-put_right : (cs : List Comparison) → AllRise (forms cs) → AllFreeOf Z (forms cs) → AllFreeOf (with_place Z x) (forms (put_right t f cs))
  all-free-put_right [] ra h = tt
  all-free-put_right (c ∷ cs) ra h = (free-put c.1 ra.0 h.0, all-free-put_right cs ra.1 h.1)

  pub not_free : Z x → ⊥
  not_free z =
      let zero : Assignment = λ n. pos 0 in
      let a = assign zero x (pos 0) in
      let b = assign zero x (pos 1) in
      let pa : value a f ≡ t.1 *ℤ pos 0 +ℤ value zero (rest x f) = parts a f t r unit ∙ (λ i. t.1 *ℤ assign-same zero x (pos 0) i +ℤ value-rest zero x (pos 0) f i) in
      let pb : value b f ≡ t.1 *ℤ pos 1 +ℤ value zero (rest x f) = parts b f t r unit ∙ (λ i. t.1 *ℤ assign-same zero x (pos 1) i +ℤ value-rest zero x (pos 1) f i) in
      differs t.1 (value zero (rest x f)) (unit_is t.1 (unit_found f.terms t unit)) (sym pa ∙ free a b agree ∙ pb)
    where
      differs : (c q : ℤ) → (c ≡ pos 1) ⊎ (c ≡ negsuc 0) → c *ℤ pos 0 +ℤ q ≡ c *ℤ pos 1 +ℤ q → ⊥
      differs c q (inl is) h = let e : pos 1 *ℤ pos 0 +ℤ q ≡ pos 1 *ℤ pos 1 +ℤ q = subst (λ (d : ℤ). d *ℤ pos 0 +ℤ q ≡ d *ℤ pos 1 +ℤ q) is h in absurd (omega (arith, ints, e))
      differs c q (inr is) h = let e : negsuc 0 *ℤ pos 0 +ℤ q ≡ negsuc 0 *ℤ pos 1 +ℤ q = subst (λ (d : ℤ). d *ℤ pos 0 +ℤ q ≡ d *ℤ pos 1 +ℤ q) is h in absurd (omega (arith, ints, e))

      agree : AgreeOff Z (assign (λ n. pos 0) x (pos 0)) (assign (λ n. pos 0) x (pos 1))
      agree n off = by_test (eqb n x) refl
        where
          by_test : (c : Bool) → eqb n x ≡ c → ◌≡◌ {A = ℤ} (cond c (pos 0) (pos 0)) (cond c (pos 1) (pos 0))
          by_test true e = absurd (off (subst Z (sym (eqb-true n x e)) z))
          by_test false e = refl

  -- ---- pivots

  pivot-put : (u : Term) (g : Lin) → RisesFrom 0 g.terms → ¬ (place u.0 ≡ x) → IsPivot Z u g → IsPivot (with_place Z x) u (substitute_lin x (solution f t) g)
  pivot-put u g rg far p = record {
    unit = p.unit;
    other = λ s. p.other (with_solution s);
    free = λ s s' h. p.free (with_solution s) (with_solution s') (agree-solution s s' h);
    splits = λ s. value-substitute s x (solution f t) g rg ∙ p.splits (with_solution s) ∙ ap (λ z. u.1 *ℤ z +ℤ p.other (with_solution s)) (kept s);
  }
    where
      kept : (s : Assignment) → with_solution s (place u.0) ≡ s (place u.0)
      kept s = by_test (eqb (place u.0) x) refl
        where
          by_test : (b : Bool) → eqb (place u.0) x ≡ b → cond b (value s (solution f t)) (s (place u.0)) ≡ s (place u.0)
          by_test true e = absurd (far (eqb-true (place u.0) x e))
          by_test false e = refl

  taken-one : (p : Option Term) (g : Lin) → RisesFrom 0 g.terms → ((n : ℕ) → IsPlace p n → ¬ (n ≡ x)) → IsTaken Z p g → IsTaken (with_place Z x) p (substitute_lin x (solution f t) g)
  taken-one None g rg far h = no_terms x (solution f t) g h
  taken-one (Some u) g rg far h = pivot-put u g rg (far (place u.0) refl) h

  pub taken-put : (ps : List (Option Term)) (gs : List Lin) → AllRise gs → ((n : ℕ) → IsPlaceOf ps n → ¬ (n ≡ x)) → AllTaken Z ps gs → AllTaken (with_place Z x) ps (put t f gs)
  taken-put [] [] rg far h = tt
  taken-put [] (g ∷ gs) rg far h = absurd h
  taken-put (p ∷ ps) [] rg far h = absurd h
  taken-put (p ∷ ps) (g ∷ gs) rg far h = (taken-one p g rg.0 (λ n k. far n (inl k)) h.0, taken-put ps gs rg.1 (λ n k. far n (inr k)) h.1)

  pub pivot-own : IsPivot (with_place Z x) t f
  pivot-own = record {
    unit = unit_is t.1 (unit_found f.terms t unit);
    other = λ s. value s (rest x f);
    free = free-rest;
    splits = λ s. parts s f t r unit;
  }
