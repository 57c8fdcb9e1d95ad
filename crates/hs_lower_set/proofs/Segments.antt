-- Pieces of code that keep what is set.
use Rattle.std.proofs.Common.{◌≡◌, ℕ, suc, ◌+◌, true, List, [], ◌∷◌, ◌++◌, length, Some, slice_get, refl, sym, ◌∙◌, subst, arith, length-append}
use Rattle.std.proofs.lemmas.List.Elements.{All-append}
use Rattle.hs_core.specs.declared.instr.Instr.{Instr}
use Rattle.hs_core.specs.Set.{reads, writes, GoesTo}
use Rattle.hs_lower_set.proofs.Safe.{Slots, IsWithin, AreSet, with_all, with_within, set_weaker, Safe, here, wider}

some_eq : (x y : Instr) → Some x ≡ Some y → x ≡ y
some_eq x y e = cc

-- ---- places

-- the code has these instructions from a point on
abbrev pub HasCode : List Instr → ℕ → List Instr → Type 0
HasCode code p [] = Unit {0}
HasCode code p (i ∷ is) = (slice_get code p ≡ Some i) × HasCode code (suc p) is

pub split_code : (code : List Instr) (p q : ℕ) (a b : List Instr) → q ≡ p + length a → HasCode code p (a ++ b) → HasCode code p a × HasCode code q b
split_code code p q [] b e h = (tt, subst (λ z. HasCode code z b) (let same : p ≡ q = omega (arith, e) in same) h)
split_code code p q (i ∷ a) b e h = let rest = split_code code (suc p) q a b (omega (arith, e)) h.1 in ((h.0, rest.0), rest.1)

shifted : (x : Instr) (code : List Instr) (p : ℕ) (a : List Instr) → HasCode code p a → HasCode (x ∷ code) (suc p) a
shifted x code p [] h = tt
shifted x code p (i ∷ a) h = (h.0, shifted x code (suc p) a h.1)

pub whole : (code : List Instr) → HasCode code 0 code
whole [] = tt
whole (i ∷ code) = (refl, shifted i code 0 code (whole code))

-- ---- safe steps

-- at an instruction that reads what is set, and after which each point is safe
pub step : (code : List Instr) (p : ℕ) (s : Slots) (i : Instr) → slice_get code p ≡ Some i → AreSet s (reads i) → ((j : ℕ) → GoesTo i p j → Safe code j (with_all (writes i) s)) → Safe code p s
step code p s i at r n = here p s
    (λ instr e. subst (λ x. AreSet s (reads x)) (some_eq i instr (sym at ∙ e)) r)
    (λ instr e j goes. subst (λ x. GoesTo x p j → Safe code j (with_all (writes x) s)) (some_eq i instr (sym at ∙ e)) (n j) goes)

-- ---- segments

-- where its end is safe with t set, its begin is safe with s set
abbrev pub Segment : List Instr → ℕ → Slots → Slots → Type 0
Segment c p s t = (code : List Instr) (q : ℕ) → q ≡ p + length c → HasCode code p c → Safe code q t → Safe code p s

pub nothing : (p : ℕ) (s t : Slots) → IsWithin t s → Segment [] p s t
nothing p s t w = λ code q e h safe. wider (subst (λ z. Safe code z t) (let same : q ≡ p = omega (arith, e) in same) safe) s w

pub in_turn : (a b : List Instr) (p q : ℕ) (s t u : Slots) → q ≡ p + length a → Segment a p s t → Segment b q t u → Segment (a ++ b) p s u
in_turn a b p q s t u at f g = λ code r e h safe.
    let parts = split_code code p q a b at h in
    f code q at parts.0 (g code r (omega (arith, e, at, length-append a b)) parts.1 safe)

-- less is set at the end
pub sooner : (c : List Instr) (p : ℕ) (s t u : Slots) → IsWithin u t → Segment c p s t → Segment c p s u
sooner c p s t u w f = λ code q e h safe. f code q e h (wider safe t w)

-- an instruction after which the next one comes
abbrev pub IsStraight : Instr → Type 0
IsStraight i = (p j : ℕ) → GoesTo i p j → j ≡ suc p

pub one : (i : Instr) (p : ℕ) (s : Slots) → IsStraight i → AreSet s (reads i) → Segment (i ∷ []) p s (with_all (writes i) s)
one i p s straight r = λ code q e h safe.
    step code p s i h.0 r (λ j goes. subst (λ z. Safe code z (with_all (writes i) s)) (let next = straight p j goes in let same : q ≡ j = omega (arith, e, next) in same) safe)

-- ---- values in slots

-- code after which these slots are set, and what was set before
pub record Placing (c : List Instr) (p : ℕ) (s : Slots) (ks : List ℕ) : Type 0 where
  pub set : Slots
  pub segment : Segment c p s set
  pub more : IsWithin s set
  pub given : AreSet set ks

pub place_none : (p : ℕ) (s : Slots) (ks : List ℕ) → AreSet s ks → Placing [] p s ks
place_none p s ks h = record { set = s; segment = nothing p s s (λ k e. e); more = λ k e. e; given = h }

-- slots that were set before
pub place_beside : (c : List Instr) (p : ℕ) (s : Slots) (js ks : List ℕ) → AreSet s js → Placing c p s ks → Placing c p s (js ++ ks)
place_beside c p s js ks h x = record { set = x.set; segment = x.segment; more = x.more; given = All-append (λ k. x.set k ≡ true) js ks (set_weaker s x.set js x.more h) x.given }

pub place_both : (a b : List Instr) (p q : ℕ) (s : Slots) (js ks : List ℕ) → q ≡ p + length a → (x : Placing a p s js) → Placing b q x.set ks → Placing (a ++ b) p s (js ++ ks)
place_both a b p q s js ks at x y = record {
  set = y.set;
  segment = in_turn a b p q s x.set y.set at x.segment y.segment;
  more = λ k e. y.more k (x.more k e);
  given = All-append (λ k. y.set k ≡ true) js ks (set_weaker x.set y.set js y.more x.given) y.given;
}

-- an instruction that reads them
pub after : (c : List Instr) (p : ℕ) (s : Slots) (ks : List ℕ) → Placing c p s ks → (i : Instr) → IsStraight i → reads i ≡ ks → Segment (c ++ i ∷ []) p s (with_all (writes i) s)
after c p s ks x i straight same =
    let q = p + length c in
    let last = one i q x.set straight (subst (AreSet x.set) (sym same) x.given) in
    sooner (c ++ i ∷ []) p s (with_all (writes i) x.set) (with_all (writes i) s) (with_within (writes i) s x.set x.more)
    (in_turn c (i ∷ []) p q s x.set (with_all (writes i) x.set) refl x.segment last)
