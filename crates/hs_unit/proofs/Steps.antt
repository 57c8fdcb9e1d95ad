-- What each step of a reduction keeps holds after all steps, and one step as the program does it.
use Rattle.std.proofs.Common.{◌≡◌, ℕ, zero, suc, Bool, true, false, cond, List, [], ◌∷◌, ◌++◌, map, length, Option, None, Some, refl, sym, ap, ◌∙◌, subst, ◌&&◌, Result, Ok, Err, IfOk}
use Rattle.hs_pure.specs.declared.lin.Lin.{Lin}
use Rattle.hs_elimination.specs.Cases.{substitute_lin}
use Rattle.hs_elimination.specs.Linear.{place}
use Rattle.hs_unit.specs.declared.reduction.Reduction.{Reduction}
use Rattle.hs_unit.specs.Sides.{Comparison, forms}
use Rattle.hs_unit.specs.Reduction.{Term, all_small, unit_term, solution, put, put_right, passed, solved_for, step_for, step, after, steps}

pub some_is : {X : Type 0} (x y : X) → ◌≡◌ {A = Option X} (Some x) (Some y) → x ≡ y
some_is x y e = cc

pub and_first : (a b : Bool) → (a && b) ≡ true → a ≡ true
and_first true b h = refl
and_first false b h = absurd cc

pub and_second : (a b : Bool) → (a && b) ≡ true → b ≡ true
and_second true b h = h
and_second false b h = absurd cc

-- the forms stay small where those of the right side do
abbrev pub StaySmall : Reduction → Lin → List Lin → Term → Type 0
StaySmall r f later t = (all_small (put t f r.taken) && all_small (put t f later) && all_small (forms (put_right t f r.right))) ≡ true

module _ (P : Reduction → Type 0) where
  abbrev KeptBySome : Type 0
  KeptBySome = (r : Reduction) (f : Lin) (later : List Lin) → r.later ≡ f ∷ later → f.terms ≡ [] → P r → P (passed r f later)

  abbrev KeptByUnits : Type 0
  KeptByUnits = (r : Reduction) (f : Lin) (later : List Lin) (t : Term) → r.later ≡ f ∷ later → unit_term f.terms ≡ Some t → StaySmall r f later t → P r → P (solved_for r f later t)

  module _ (pass : KeptBySome) (solve : KeptByUnits) where
    -- what a step keeps
    module _ (r : Reduction) (f : Lin) (later : List Lin) (e : r.later ≡ f ∷ later) (p : P r) where
      by_small : (t : Term) → unit_term f.terms ≡ Some t → (b : Bool) → (all_small (put t f r.taken) && all_small (put t f later) && all_small (forms (put_right t f r.right))) ≡ b → (q : Reduction) → ◌≡◌ {A = Option Reduction} (cond b (Some (solved_for r f later t)) None) (Some q) → P q
      by_small t u true s q h = subst P (some_is (solved_for r f later t) q h) (solve r f later t e u s p)
      by_small t u false s q h = absurd cc

      by_unit : (o : Option Term) → unit_term f.terms ≡ o → (q : Reduction) → step_for r f later o ≡ Some q → P q
      by_unit None u q h = absurd cc
      by_unit (Some t) u q h = by_small t u (all_small (put t f r.taken) && all_small (put t f later) && all_small (forms (put_right t f r.right))) refl q h

      by_terms : (ts : List Term) → f.terms ≡ ts → (q : Reduction) → step r f later ts ≡ Some q → P q
      by_terms [] u q h = subst P (some_is (passed r f later) q h) (pass r f later e u p)
      by_terms (t ∷ ts) u q h = by_unit (unit_term f.terms) refl q (subst (λ (us : List Term). step_for r f later (unit_term us) ≡ Some q) (sym u) h)

      pub kept-step : (q : Reduction) → step r f later f.terms ≡ Some q → P q
      kept-step q h = by_terms f.terms refl q h

    -- what all steps keep
    pub kept-steps : (n : ℕ) (r : Reduction) (later : List Lin) → r.later ≡ later → P r → (q : Reduction) → steps n r later ≡ Some q → P q × (q.later ≡ [])
    kept-steps n r [] e p q h = let is = some_is r q h in (subst P is p, subst (λ (x : Reduction). x.later ≡ []) is e)
    kept-steps zero r (f ∷ later) e p q h = absurd cc
    kept-steps (suc n) r (f ∷ later) e p q h = by_step (kept-steps n) (step r f later f.terms) refl h
      where
        by_step : ((r : Reduction) (later : List Lin) → r.later ≡ later → P r → (q : Reduction) → steps n r later ≡ Some q → P q × (q.later ≡ [])) → (o : Option Reduction) → step r f later f.terms ≡ o → after (λ x. steps n x x.later) o ≡ Some q → P q × (q.later ≡ [])
        by_step ih None s k = absurd cc
        by_step ih (Some x) s k = ih x x.later refl (kept-step r f later e p x s) q k

-- ---- as the program does it

pub ok_map : {T E : Type 0} {P Q : T → Type 0} (r : Result T E) → ((x : T) → P x → Q x) → IfOk r P → IfOk r Q
ok_map (Ok x) f h = f x h
ok_map (Err e) f h = tt

-- the results are small, and are these
abbrev pub Kept : ℕ → Lin → List Lin → List Lin → Type 0
Kept x u as' bs = (all_small (map (substitute_lin x u) as') ≡ true) × (bs ≡ map (substitute_lin x u) as')

abbrev pub put_all : ℕ → Lin → List Comparison → List Comparison
put_all x u cs = map (λ c. (c.0, substitute_lin x u c.1)) cs

abbrev pub KeptRight : ℕ → Lin → List Comparison → List Comparison → Type 0
KeptRight x u cs ds = (all_small (forms (put_all x u cs)) ≡ true) × (ds ≡ put_all x u cs)

chosen_is : {X : Type 0} (b : Bool) (x y : X) → ◌≡◌ {A = Option X} (cond b (Some x) None) (Some y) → (b ≡ true) × (y ≡ x)
chosen_is true x y h = (refl, cc)
chosen_is false x y h = absurd cc

pub kept : (x : ℕ) (u : Lin) (as' bs : List Lin) (o : Option (List Lin)) → ◌≡◌ {A = Option (List Lin)} o (cond (all_small (map (substitute_lin x u) as')) (Some (map (substitute_lin x u) as')) None) → o ≡ Some bs → Kept x u as' bs
kept x u as' bs o is some = chosen_is (all_small (map (substitute_lin x u) as')) (map (substitute_lin x u) as') bs (sym is ∙ some)

pub kept_right : (x : ℕ) (u : Lin) (cs ds : List Comparison) (o : Option (List Comparison)) → ◌≡◌ {A = Option (List Comparison)} o (cond (all_small (forms (put_all x u cs))) (Some (put_all x u cs)) None) → o ≡ Some ds → KeptRight x u cs ds
kept_right x u cs ds o is some = chosen_is (all_small (forms (put_all x u cs))) (put_all x u cs) ds (sym is ∙ some)

three : {X : Type 0} (a b c : Bool) (x y : X) → a ≡ true → b ≡ true → c ≡ true → cond (a && b && c) x y ≡ x
three a b c x y p q r = rw (p, q, r) refl

pub solved_step : (r : Reduction) (f : Lin) (later : List Lin) (t : Term) (u : Lin) (taken2 later2 taken3 : List Lin) (right2 : List Comparison) (pivots2 : List (Option Term)) → u ≡ solution f t
    → Kept (place t.0) u r.taken taken2 → Kept (place t.0) u later later2 → KeptRight (place t.0) u r.right right2 → taken3 ≡ taken2 ++ f ∷ [] → pivots2 ≡ r.pivots ++ Some t ∷ []
    → ◌≡◌ {A = Option Reduction} (Some record { pivots = pivots2; taken = taken3; later = later2; right = right2 }) (step_for r f later (Some t))
solved_step r f later t u taken2 later2 taken3 right2 pivots2 is a b c last piv =
    let a2 = subst (λ (v : Lin). Kept (place t.0) v r.taken taken2) is a in
    let b2 = subst (λ (v : Lin). Kept (place t.0) v later later2) is b in
    let c2 = subst (λ (v : Lin). KeptRight (place t.0) v r.right right2) is c in
    (λ i. Some record { pivots = piv i; taken = (last ∙ ap (λ (xs : List Lin). xs ++ f ∷ []) a2.1) i; later = b2.1 i; right = c2.1 i })
    ∙ sym (three (all_small (put t f r.taken)) (all_small (put t f later)) (all_small (forms (put_right t f r.right))) (Some (solved_for r f later t)) None a2.0 b2.0 c2.0)

length-map : {X Y : Type 0} (g : X → Y) (xs : List X) → length (map g xs) ≡ length xs
length-map g [] = refl
length-map g (x ∷ xs) = ap (λ (n : ℕ). suc n) (length-map g xs)

-- a form with variables is taken by a unit term
pub proper-step : (r : Reduction) (f : Lin) (later : List Lin) → ¬ (f.terms ≡ []) → step_for r f later (unit_term f.terms) ≡ step r f later f.terms
proper-step r f later h = by_terms f.terms refl
  where
    by_terms : (ts : List Term) → f.terms ≡ ts → step_for r f later (unit_term ts) ≡ step r f later ts
    by_terms [] e = absurd (h e)
    by_terms (t ∷ ts) e = refl

-- a step leaves one form less
pub step-length : (r : Reduction) (f : Lin) (later : List Lin) (q : Reduction) → step r f later f.terms ≡ Some q → length q.later ≡ length later
step-length r f later q h = by_terms f.terms h
  where
    by_small : (t : Term) (b : Bool) → ◌≡◌ {A = Option Reduction} (cond b (Some (solved_for r f later t)) None) (Some q) → length q.later ≡ length later
    by_small t true k = ap (λ (x : Reduction). length x.later) (sym (some_is (solved_for r f later t) q k)) ∙ length-map (substitute_lin (place t.0) (solution f t)) later
    by_small t false k = absurd cc

    by_unit : (o : Option Term) → step_for r f later o ≡ Some q → length q.later ≡ length later
    by_unit None k = absurd cc
    by_unit (Some t) k = by_small t (all_small (put t f r.taken) && all_small (put t f later) && all_small (forms (put_right t f r.right))) k

    by_terms : (ts : List Term) → step r f later ts ≡ Some q → length q.later ≡ length later
    by_terms [] k = ap (λ (x : Reduction). length x.later) (sym (some_is (passed r f later) q k))
    by_terms (t ∷ ts) k = by_unit (unit_term (t ∷ ts)) k

-- the steps go on after the first
pub steps-on : (r : Reduction) (f : Lin) (later : List Lin) (q : Reduction) (all : List Lin) → all ≡ f ∷ later → step r f later f.terms ≡ Some q → steps (length q.later) q q.later ≡ steps (length all) r all
steps-on r f later q all cut h =
    ap (λ (n : ℕ). steps n q q.later) (step-length r f later q h)
    ∙ sym (ap (after (λ x. steps (length later) x x.later)) h)
    ∙ ap (λ (ls : List Lin). steps (length ls) r ls) (sym cut)

-- and after a form without variables
pass-on : (r : Reduction) (f : Lin) (later all : List Lin) → all ≡ f ∷ later → f.terms ≡ [] → steps (length later) (passed r f later) later ≡ steps (length all) r all
pass-on r f later all cut e = steps-on r f later (passed r f later) all cut (ap (step r f later) e)

pub pass-next : (r : Reduction) (f : Lin) (later : List Lin) (pivots2 : List (Option Term)) (taken2 : List Lin) (g : Lin) → r.later ≡ f ∷ later → f.terms ≡ [] → pivots2 ≡ r.pivots ++ None ∷ [] → taken2 ≡ r.taken ++ g ∷ [] → g ≡ f
    → steps (length later) record { pivots = pivots2; taken = taken2; later = later; right = r.right } later ≡ steps (length r.later) r r.later
pass-next r f later pivots2 taken2 g cut e p t same =
    (λ i. steps (length later) record { pivots = p i; taken = (t ∙ ap (λ (a : Lin). r.taken ++ a ∷ []) same) i; later = later; right = r.right } later)
    ∙ pass-on r f later r.later cut e

-- the forms that are to come stay small
pub later-small : (r : Reduction) (f : Lin) (later : List Lin) (q : Reduction) → all_small later ≡ true → step r f later f.terms ≡ Some q → all_small q.later ≡ true
later-small r f later q s h = by_terms f.terms h
  where
    by_small : (t : Term) (b : Bool) → (all_small (put t f r.taken) && all_small (put t f later) && all_small (forms (put_right t f r.right))) ≡ b → ◌≡◌ {A = Option Reduction} (cond b (Some (solved_for r f later t)) None) (Some q) → all_small q.later ≡ true
    by_small t true e k =
        subst (λ (x : Reduction). all_small x.later ≡ true) (some_is (solved_for r f later t) q k)
        (and_second (all_small (put t f r.taken)) (all_small (put t f later)) (and_first (all_small (put t f r.taken) && all_small (put t f later)) (all_small (forms (put_right t f r.right))) e))
    by_small t false e k = absurd cc

    by_unit : (o : Option Term) → step_for r f later o ≡ Some q → all_small q.later ≡ true
    by_unit None k = absurd cc
    by_unit (Some t) k = by_small t (all_small (put t f r.taken) && all_small (put t f later) && all_small (forms (put_right t f r.right))) refl k

    by_terms : (ts : List Term) → step r f later ts ≡ Some q → all_small q.later ≡ true
    by_terms [] k = subst (λ (x : Reduction). all_small x.later ≡ true) (some_is (passed r f later) q k) s
    by_terms (t ∷ ts) k = by_unit (unit_term (t ∷ ts)) k
