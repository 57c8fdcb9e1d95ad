-- Points of a method from which each path reads what is set alone.
use Rattle.std.proofs.Common.{◌≡◌, ℕ, ◌≤◌, nat_eq, Bool, true, false, ◌||◌, inl, inr, List, [], ◌∷◌, ◌++◌, Some, slice_get, refl, sym, arith, eqb-true}
use Rattle.std.specs.List.{All}
use Rattle.std.proofs.lemmas.Bool.{or_cases}
use Rattle.std.proofs.lemmas.List.Elements.{All-weaker, Contains-append_right}
use Rattle.hs_core.specs.declared.instr.Instr.{Instr}
use Rattle.hs_core.specs.declared.program.Method.{Method}
use Rattle.hs_core.specs.Set.{reads, writes, GoesTo, Path, begin, more, IsGiven, MethodIsSet}

-- ---- sets of slots

-- of each slot, whether it is set
abbrev pub Slots : Type 0
Slots = ℕ → Bool

-- what is set in one is set in the other
abbrev pub IsWithin : Slots → Slots → Type 0
IsWithin s t = (k : ℕ) → s k ≡ true → t k ≡ true

-- all of these slots are set
abbrev pub AreSet : Slots → List ℕ → Type 0
AreSet s ks = All (λ k. s k ≡ true) ks

abbrev pub with_all : List ℕ → Slots → Slots
with_all [] s k = s k
with_all (j ∷ js) s k = nat_eq k j || with_all js s k

or_weaker : (b x y : Bool) → (x ≡ true → y ≡ true) → (b || x) ≡ true → (b || y) ≡ true
or_weaker true x y h e = e
or_weaker false x y h e = h e

or_more : (b x : Bool) → x ≡ true → (b || x) ≡ true
or_more true x e = refl
or_more false x e = e

pub or_left : (b x : Bool) → b ≡ true → (b || x) ≡ true
or_left true x e = refl
or_left false x e = cc

pub with_within : (js : List ℕ) (s t : Slots) → IsWithin s t → IsWithin (with_all js s) (with_all js t)
with_within [] s t h = h
with_within (j ∷ js) s t h = λ k e. or_weaker (nat_eq k j) (with_all js s k) (with_all js t k) (with_within js s t h k) e

pub with_more : (js : List ℕ) (s : Slots) → IsWithin s (with_all js s)
with_more [] s = λ k e. e
with_more (j ∷ js) s = λ k e. or_more (nat_eq k j) (with_all js s k) (with_more js s k e)

pub set_weaker : (s t : Slots) (ks : List ℕ) → IsWithin s t → AreSet s ks → AreSet t ks
set_weaker s t ks h a = All-weaker (λ k. s k ≡ true) (λ k. t k ≡ true) h ks a

-- ---- safe points

-- with these slots set, each path from the point reads what is set; so does one where every slot is set
pub data Safe (code : List Instr) : ℕ → Slots → Type 0 where
  here : (i : ℕ) (s : Slots) → ((instr : Instr) → slice_get code i ≡ Some instr → AreSet s (reads instr)) →
      ((instr : Instr) → slice_get code i ≡ Some instr → (j : ℕ) → GoesTo instr i j → Safe code j (with_all (writes instr) s)) → Safe code i s
  full : (i : ℕ) (s : Slots) → ((k : ℕ) → s k ≡ true) → Safe code i s

pub wider : {code : List Instr} {i : ℕ} {s : Slots} → Safe code i s → (t : Slots) → IsWithin s t → Safe code i t
wider (here i s r n) t h = here i t (λ instr at. set_weaker s t (reads instr) h (r instr at)) (λ instr at j goes. wider (n instr at j goes) (with_all (writes instr) t) (with_within (writes instr) s t h))
wider (full i s f) t h = full i t (λ k. h k (f k))

-- ---- paths

given_more : (m : Method) (js written : List ℕ) (k : ℕ) → IsGiven m written k → IsGiven m (js ++ written) k
given_more m js written k (inl p) = inl p
given_more m js written k (inr c) = inr (Contains-append_right js written k c)

given_with : (m : Method) (js written : List ℕ) (s : Slots) → ((k : ℕ) → s k ≡ true → IsGiven m written k) → (k : ℕ) → with_all js s k ≡ true → IsGiven m (js ++ written) k
given_with m [] written s h k e = h k e
given_with m (j ∷ js) written s h k e = elim (or_cases (nat_eq k j) (with_all js s k) e) [
  | inl is ↦ inr (0, omega arith, sym (eqb-true k j is))
  | inr later ↦ given_more m (j ∷ []) (js ++ written) k (given_with m js written s h k later)
]

-- at a point that a path reaches, what is set is given, and the point is safe
record Reached (m : Method) (i : ℕ) (written : List ℕ) : Type 0 where
  set : Slots
  safe : Safe m.code i set
  given : (k : ℕ) → set k ≡ true → IsGiven m written k

goes_on : (m : Method) {i : ℕ} {s : Slots} → Safe m.code i s → (written : List ℕ) → ((k : ℕ) → s k ≡ true → IsGiven m written k) →
    (instr : Instr) → slice_get m.code i ≡ Some instr → (j : ℕ) → GoesTo instr i j → Reached m j (writes instr ++ written)
goes_on m (here i s r n) written h instr at j goes = record { set = with_all (writes instr) s; safe = n instr at j goes; given = given_with m (writes instr) written s h }
goes_on m (full i s f) written h instr at j goes = record { set = s; safe = full j s f; given = λ k e. given_more m (writes instr) written k (h k e) }

all_read : (m : Method) {i : ℕ} {s : Slots} → Safe m.code i s → (instr : Instr) → slice_get m.code i ≡ Some instr → AreSet s (reads instr)
all_read m (here i s r n) instr at = r instr at
all_read m (full i s f) instr at = λ k d lt. f _

module _ (m : Method) (s : Slots) (safe : Safe m.code 0 s) (params : (k : ℕ) → s k ≡ true → k ≤ m.params) where
  reached : {i : ℕ} {written : List ℕ} → Path m i written → Reached m i written
  reached begin = record { set = s; safe = safe; given = λ k e. inl (params k e) }
  reached (more i j written instr p at goes) = let r = reached p in goes_on m r.safe written r.given instr at j goes

  -- a method that is safe from its begin, with its parameters set, is set
  pub method_is_set : MethodIsSet m
  method_is_set i written instr p at = let r = reached p in All-weaker (λ k. r.set k ≡ true) (IsGiven m written) r.given (reads instr) (all_read m r.safe instr at)
