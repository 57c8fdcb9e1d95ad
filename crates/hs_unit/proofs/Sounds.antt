-- What the steps of a reduction keep.
use Rattle.std.proofs.Common.{◌≡◌, ℕ, Bool, true, false, cond, ◌&&◌, inl, inr, ◌⊎◌, List, [], ◌∷◌, ◌++◌, length, None, Some, refl, sym, ap, ◌∙◌, subst, arith, pos, ◌+ℤ◌}
use Rattle.std.proofs.lemmas.Int.{ints}
use Rattle.hs_pure.specs.declared.lin.Lin.{Lin}
use Rattle.hs_elimination.specs.Linear.{place}
use Rattle.hs_elimination.proofs.Meaning.{Assignment, sum_at, value}
use Rattle.hs_unit.specs.declared.reduction.Reduction.{Reduction}
use Rattle.hs_unit.specs.Sides.{Comparison, forms}
use Rattle.hs_unit.specs.Reduction.{Term, all_small, is_small, unit_term, put, put_right, passed, solved_for, steps, start, reduced}
use Rattle.hs_unit.proofs.Zeros.{AllRise, rise-append, Zeros, zeros-append, zeros-parts, AllMeet}
use Rattle.hs_unit.proofs.Solutions.{zeros-put, zeros-put_back, meet-put, meet-put_back, rise-put, rise-put_right}
use Rattle.hs_unit.proofs.Steps.{StaySmall, kept-steps, and_first, and_second}
use Rattle.hs_unit.proofs.Pivots.{AllFreeOf, AllTaken, IsPlaceOf, AreDistinct, place-last, distinct-last, taken-last, all-fewer, taken-fewer, all-free-put, all-free-put_right, not_free, taken-put, pivot-own}

-- ---- constants

pub constant_value : (s : Assignment) (f : Lin) → f.terms ≡ [] → value s f ≡ f.constant
constant_value s f e = ap (λ (ts : List Term). sum_at s ts +ℤ f.constant) e ∙ omega (arith, ints)

-- ---- small forms

and_both : (a b : Bool) → a ≡ true → b ≡ true → (a && b) ≡ true
and_both true b h k = k
and_both false b h k = absurd cc

small-append : (xs ys : List Lin) → all_small xs ≡ true → all_small ys ≡ true → all_small (xs ++ ys) ≡ true
small-append [] ys h k = k
small-append (x ∷ xs) ys h k =
    and_both (is_small x) (all_small (xs ++ ys)) (and_first (is_small x) (all_small xs) h) (small-append xs ys (and_second (is_small x) (all_small xs) h) k)

-- ---- what is kept

-- the reduction of these forms has come to r
pub record IsReduced (left : List Lin) (right : List Comparison) (r : Reduction) : Type 0 where
  pub small_taken : all_small r.taken ≡ true
  pub small_later : all_small r.later ≡ true
  pub small_right : all_small (forms r.right) ≡ true
  pub rise_taken : AllRise r.taken
  pub rise_later : AllRise r.later
  pub rise_right : AllRise (forms r.right)
  pub forth : (s : Assignment) → Zeros s left → Zeros s r.taken × Zeros s r.later
  pub back : (s : Assignment) → Zeros s r.taken → Zeros s r.later → Zeros s left
  pub meet : (s : Assignment) → Zeros s r.taken → Zeros s r.later → AllMeet s right → AllMeet s r.right
  pub meet_back : (s : Assignment) → Zeros s r.taken → Zeros s r.later → AllMeet s r.right → AllMeet s right
  pub taken : AllTaken (IsPlaceOf r.pivots) r.pivots r.taken
  pub distinct : AreDistinct r.pivots
  pub free_later : AllFreeOf (IsPlaceOf r.pivots) r.later
  pub free_right : AllFreeOf (IsPlaceOf r.pivots) (forms r.right)

module _ (left : List Lin) (right : List Comparison) where
  abbrev Is : Reduction → Type 0
  Is r = IsReduced left right r

  -- a form without variables
  module _ (r : Reduction) (f : Lin) (later : List Lin) (cut : r.later ≡ f ∷ later) (e : f.terms ≡ []) (h : Is r) where
    abbrev fewer : Type 0
    fewer = (n : ℕ) → IsPlaceOf (r.pivots ++ None ∷ []) n → IsPlaceOf r.pivots n

    no_place : fewer
    no_place n k = elim (place-last r.pivots None n k) [ inl l ↦ l | inr l ↦ absurd l ]

    small_cut : all_small (f ∷ later) ≡ true
    small_cut = subst (λ (ls : List Lin). all_small ls ≡ true) cut h.small_later

    rise_cut : AllRise (f ∷ later)
    rise_cut = subst AllRise cut h.rise_later

    free_cut : AllFreeOf (IsPlaceOf r.pivots) (f ∷ later)
    free_cut = subst (AllFreeOf (IsPlaceOf r.pivots)) cut h.free_later

    to : (s : Assignment) → Zeros s r.taken × Zeros s r.later → Zeros s (r.taken ++ f ∷ []) × Zeros s later
    to s z = let k = subst (Zeros s) cut z.1 in (zeros-append s r.taken (f ∷ []) z.0 (k.0, tt), k.1)

    from : (s : Assignment) → Zeros s (r.taken ++ f ∷ []) → Zeros s later → Zeros s r.taken × Zeros s r.later
    from s z k = let p = zeros-parts s r.taken (f ∷ []) z in (p.0, subst (Zeros s) (sym cut) (p.1.0, k))

    pub pass : Is (passed r f later)
    pass = record {
      small_taken = small-append r.taken (f ∷ []) h.small_taken (and_both (is_small f) true (and_first (is_small f) (all_small later) small_cut) refl);
      small_later = and_second (is_small f) (all_small later) small_cut;
      small_right = h.small_right;
      rise_taken = rise-append r.taken (f ∷ []) h.rise_taken (rise_cut.0, tt);
      rise_later = rise_cut.1;
      rise_right = h.rise_right;
      forth = λ s z. to s (h.forth s z);
      back = λ s z k. let p = from s z k in h.back s p.0 p.1;
      meet = λ s z k m. let p = from s z k in h.meet s p.0 p.1 m;
      meet_back = λ s z k m. let p = from s z k in h.meet_back s p.0 p.1 m;
      taken = taken-last (IsPlaceOf (r.pivots ++ None ∷ [])) r.pivots r.taken None f (taken-fewer (IsPlaceOf (r.pivots ++ None ∷ [])) (IsPlaceOf r.pivots) no_place r.pivots r.taken h.taken) e;
      distinct = distinct-last r.pivots None h.distinct (λ n k. absurd k);
      free_later = all-fewer (IsPlaceOf (r.pivots ++ None ∷ [])) (IsPlaceOf r.pivots) no_place later free_cut.1;
      free_right = all-fewer (IsPlaceOf (r.pivots ++ None ∷ [])) (IsPlaceOf r.pivots) no_place (forms r.right) h.free_right;
    }

  -- a form that is solved for a variable
  module _ (r : Reduction) (f : Lin) (later : List Lin) (t : Term) (cut : r.later ≡ f ∷ later) (unit : unit_term f.terms ≡ Some t) (stay : StaySmall r f later t) (h : Is r) where
    abbrev Z : ℕ → Type 0
    Z = IsPlaceOf r.pivots

    abbrev Y : ℕ → Type 0
    Y = IsPlaceOf (r.pivots ++ Some t ∷ [])

    one_place : (n : ℕ) → Y n → Z n ⊎ (n ≡ place t.0)
    one_place n k = place-last r.pivots (Some t) n k

    small_next : all_small (f ∷ later) ≡ true
    small_next = subst (λ (ls : List Lin). all_small ls ≡ true) cut h.small_later

    rise_next : AllRise (f ∷ later)
    rise_next = subst AllRise cut h.rise_later

    free_next : AllFreeOf Z (f ∷ later)
    free_next = subst (AllFreeOf Z) cut h.free_later

    new : ¬ (Z (place t.0))
    new = not_free Z f t rise_next.0 unit free_next.0

    two_small : (all_small (put t f r.taken) && all_small (put t f later)) ≡ true
    two_small = and_first (all_small (put t f r.taken) && all_small (put t f later)) (all_small (forms (put_right t f r.right))) stay

    to_put : (s : Assignment) → Zeros s r.taken × Zeros s r.later → Zeros s (put t f r.taken ++ f ∷ []) × Zeros s (put t f later)
    to_put s z =
        let k = subst (Zeros s) cut z.1 in
        (zeros-append s (put t f r.taken) (f ∷ []) (zeros-put s f t rise_next.0 unit k.0 r.taken h.rise_taken z.0) (k.0, tt), zeros-put s f t rise_next.0 unit k.0 later rise_next.1 k.1)

    from_put : (s : Assignment) → Zeros s (put t f r.taken ++ f ∷ []) → Zeros s (put t f later) → (value s f ≡ pos 0) × (Zeros s r.taken × Zeros s r.later)
    from_put s z k =
        let p = zeros-parts s (put t f r.taken) (f ∷ []) z in
        (p.1.0, (zeros-put_back s f t rise_next.0 unit p.1.0 r.taken h.rise_taken p.0, subst (Zeros s) (sym cut) (p.1.0, zeros-put_back s f t rise_next.0 unit p.1.0 later rise_next.1 k)))

    pub solve : Is (solved_for r f later t)
    solve = record {
      small_taken = small-append (put t f r.taken) (f ∷ []) (and_first (all_small (put t f r.taken)) (all_small (put t f later)) two_small) (and_both (is_small f) true (and_first (is_small f) (all_small later) small_next) refl);
      small_later = and_second (all_small (put t f r.taken)) (all_small (put t f later)) two_small;
      small_right = and_second (all_small (put t f r.taken) && all_small (put t f later)) (all_small (forms (put_right t f r.right))) stay;
      rise_taken = rise-append (put t f r.taken) (f ∷ []) (rise-put (λ n. pos 0) f t rise_next.0 unit r.taken h.rise_taken) (rise_next.0, tt);
      rise_later = rise-put (λ n. pos 0) f t rise_next.0 unit later rise_next.1;
      rise_right = rise-put_right (λ n. pos 0) f t rise_next.0 unit r.right h.rise_right;
      forth = λ s z. to_put s (h.forth s z);
      back = λ s z k. let p = from_put s z k in h.back s p.1.0 p.1.1;
      meet = λ s z k m. let p = from_put s z k in meet-put s f t rise_next.0 unit p.0 r.right h.rise_right (h.meet s p.1.0 p.1.1 m);
      meet_back = λ s z k m. let p = from_put s z k in h.meet_back s p.1.0 p.1.1 (meet-put_back s f t rise_next.0 unit p.0 r.right h.rise_right m);
      taken =
          taken-last Y r.pivots (put t f r.taken) (Some t) f
          (taken-fewer Y (λ n. Z n ⊎ (n ≡ place t.0)) one_place r.pivots (put t f r.taken) (taken-put Z f t rise_next.0 unit free_next.0 r.pivots r.taken h.rise_taken (λ n k is. new (subst Z is k)) h.taken))
          (taken-fewer Y (λ n. Z n ⊎ (n ≡ place t.0)) one_place (Some t ∷ []) (f ∷ []) (pivot-own Z f t rise_next.0 unit free_next.0, tt)).0;
      distinct = distinct-last r.pivots (Some t) h.distinct (λ n is k. new (subst Z is k));
      free_later = all-fewer Y (λ n. Z n ⊎ (n ≡ place t.0)) one_place (put t f later) (all-free-put Z f t rise_next.0 unit free_next.0 later rise_next.1 free_next.1);
      free_right = all-fewer Y (λ n. Z n ⊎ (n ≡ place t.0)) one_place (forms (put_right t f r.right)) (all-free-put_right Z f t rise_next.0 unit free_next.0 r.right h.rise_right h.free_right);
    }

  nowhere : (as' : List Lin) → AllFreeOf (IsPlaceOf []) as'
  nowhere [] = tt
  nowhere (a ∷ as') = ((λ s t h. ap (λ (b : Assignment). value b a) (λ i n. h n (λ z. z) i)), nowhere as')

  begun : all_small left ≡ true → all_small (forms right) ≡ true → AllRise left → AllRise (forms right) → Is (start left right)
  begun sl sr rl rr = record {
    small_taken = refl;
    small_later = sl;
    small_right = sr;
    rise_taken = tt;
    rise_later = rl;
    rise_right = rr;
    forth = λ s z. (tt, z);
    back = λ s z k. k;
    meet = λ s z k m. m;
    meet_back = λ s z k m. m;
    taken = tt;
    distinct = tt;
    free_later = nowhere left;
    free_right = nowhere (forms right);
  }

  by_small : (b c : Bool) → all_small left ≡ b → all_small (forms right) ≡ c → (r : Reduction) → cond (b && c) (steps (length left) (start left right) left) None ≡ Some r → AllRise left → AllRise (forms right) → Is r × (r.later ≡ [])
  by_small true true e d r h rl rr = kept-steps Is pass solve (length left) (start left right) left refl (begun e d rl rr) r h
  by_small true false e d r h rl rr = absurd cc
  by_small false c e d r h rl rr = absurd cc

  -- the result of a reduction
  pub is_reduced : (r : Reduction) → reduced left right ≡ Some r → AllRise left → AllRise (forms right) → Is r × (r.later ≡ [])
  is_reduced r h rl rr = by_small (all_small left) (all_small (forms right)) refl refl r h rl rr
