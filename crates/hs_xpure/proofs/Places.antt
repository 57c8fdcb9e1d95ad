-- Addresses that are null or places of a heap, and differ.
use Rattle.std.proofs.Common.{◌≡◌, ◌⊎◌, inl, inr, ℕ, ◌<◌, ◌≤◌, ℤ, pos, ◌<ℤ◌, true, false, Bool, if◌then◌else◌, nat_lt, List, [], ◌∷◌, ◌++◌, map, refl, sym, ap, ◌∙◌, subst, arith}
use Rattle.std.proofs.lemmas.Int.{ints}
use Rattle.std.proofs.lemmas.Bool.Decides.{nat_tests}
use Rattle.hs_pure.specs.declared.var.Var.{Var}
use Rattle.hs_pure.specs.declared.pure.Pure.{Pure}
use Rattle.hs_pure.specs.declared.pure.Pure.TheVariants.{Eq, Lt, Not}
use Rattle.hs_pure.specs.Stack.{Stack, number_value}
use Rattle.hs_pure.specs.Truth.{value, TrueAt}
use Rattle.hs_pure.proofs.Truths.{true-Eq, true-Lt, true-Not, true-Or, Any-first, Any-later}
use Rattle.hs_heap.specs.Heap.{Heap, Parts, none, left, right, RisesFrom, IsHeap}
use Rattle.hs_heap.specs.Meaning.{AllTrueAt}
use Rattle.hs_heap.proofs.Splits.{rises_left, swap_parts}
use Rattle.hs_xpure.specs.Approximation.{address, variable, null, apart, all_apart}
use Rattle.hs_xpure.proofs.Numbers.{Within}

-- ---- equations of variables

value-variable : (s : Stack) (v : Var) → value s (variable v) ≡ (s v).number
value-variable s v = let x = (s v).number in omega (arith, ints)

module _ (s : Stack) where
  pub true_equal : (u v : Var) → (s u).number ≡ (s v).number → TrueAt s (Eq (variable u) (variable v))
  true_equal u v e = (true-Eq s (variable u) (variable v)).1 (value-variable s u ∙ e ∙ sym (value-variable s v))

  equal_true : (u v : Var) → TrueAt s (Eq (variable u) (variable v)) → (s u).number ≡ (s v).number
  equal_true u v e = sym (value-variable s u) ∙ (true-Eq s (variable u) (variable v)).0 e ∙ value-variable s v

  true_null : (u : Var) → (s u).number ≡ pos 0 → TrueAt s (Eq (variable u) null)
  true_null u e = (true-Eq s (variable u) null).1 (value-variable s u ∙ e)

  pub true_positive : (u : Var) → pos 0 <ℤ (s u).number → TrueAt s (Lt null (variable u))
  true_positive u e = (true-Lt s null (variable u)).1 (subst (λ z. pos 0 <ℤ z) (sym (value-variable s u)) e)

-- ---- places

abbrev pub IsPlace : ℤ → Heap → Type 0
IsPlace z [] = ⊥
IsPlace z (e ∷ h) = (z ≡ e.0) ⊎ IsPlace z h

place_left : {h a b : Heap} → Parts h a b → (z : ℤ) → IsPlace z a → IsPlace z h
place_left none z p = p
place_left (left q) z (inl is) = inl is
place_left (left q) z (inr p) = inr (place_left q z p)
place_left (right q) z p = inr (place_left q z p)

place_above : (low : ℤ) (h : Heap) (z : ℤ) → RisesFrom low h → IsPlace z h → low <ℤ z
place_above low [] z r p = absurd p
place_above low (e ∷ h) z (f, r) (inl is) = rw is f
place_above low (e ∷ h) z (f, r) (inr p) = let g = place_above e.0 h z r p in omega (arith, ints)

-- parts share no place
places_differ : (low : ℤ) {h a b : Heap} → Parts h a b → RisesFrom low h → (z : ℤ) → IsPlace z a → IsPlace z b → ⊥
places_differ low none r z p q = p
places_differ low (left {e = e} {b = b} parts) (f, r) z (inl is) q =
    let g = place_above e.0 b z (rises_left e.0 (swap_parts parts) r) q in omega (arith, ints)
places_differ low (left {e = e} parts) (f, r) z (inr p) q = places_differ e.0 parts r z p q
places_differ low (right {e = e} {a = a} parts) (f, r) z p (inl is) =
    let g = place_above e.0 a z (rises_left e.0 parts r) p in omega (arith, ints)
places_differ low (right {e = e} parts) (f, r) z p (inr q) = places_differ e.0 parts r z p q

-- the value of an address
abbrev pub at_address : Stack → ℕ → ℤ
at_address t k = (t (address k)).number

-- the address is null or a place of h
abbrev pub IsPlaced : Stack → Heap → ℕ → Type 0
IsPlaced t h k = (at_address t k ≡ pos 0) ⊎ IsPlace (at_address t k) h

abbrev pub Placed : Stack → Heap → List ℕ → Type 0
Placed t h [] = Unit {0}
Placed t h (k ∷ ks) = IsPlaced t h k × Placed t h ks

placed_left : {h a b : Heap} → Parts h a b → (t : Stack) (ks : List ℕ) → Placed t a ks → Placed t h ks
placed_left parts t [] p = tt
placed_left parts t (k ∷ ks) (inl zero, p) = (inl zero, placed_left parts t ks p)
placed_left parts t (k ∷ ks) (inr place, p) = (inr (place_left parts (at_address t k) place), placed_left parts t ks p)

placed_both : {h a b : Heap} → Parts h a b → (t : Stack) (ks ls : List ℕ) → Placed t a ks → Placed t b ls → Placed t h (ks ++ ls)
placed_both parts t [] ls p q = placed_left (swap_parts parts) t ls q
placed_both parts t (k ∷ ks) ls (inl zero, p) q = (inl zero, placed_both parts t ks ls p q)
placed_both parts t (k ∷ ks) ls (inr place, p) q = (inr (place_left parts (at_address t k) place), placed_both parts t ks ls p q)

pub all_true-append : (s : Stack) (ps qs : List Pure) → AllTrueAt s ps → AllTrueAt s qs → AllTrueAt s (ps ++ qs)
all_true-append s [] qs e f = f
all_true-append s (p ∷ ps) qs (d, e) f = (d, all_true-append s ps qs e f)

all_true-split : (s : Stack) (ps qs : List Pure) → AllTrueAt s (ps ++ qs) → AllTrueAt s ps × AllTrueAt s qs
all_true-split s [] qs f = (tt, f)
all_true-split s (p ∷ ps) qs (d, f) = let (g, h) = all_true-split s ps qs f in ((d, g), h)

module _ (t : Stack) (k l : ℕ) where
  abbrev first : Pure
  first = Eq (variable (address k)) null

  abbrev second : Pure
  second = Eq (variable (address l)) null

  abbrev third : Pure
  third = Not (Eq (variable (address k)) (variable (address l)))

  apart_first : at_address t k ≡ pos 0 → TrueAt t (apart k l)
  apart_first e = (true-Or t (first ∷ second ∷ third ∷ [])).1 (Any-first (TrueAt t) first (second ∷ third ∷ []) (true_null t (address k) e))

  apart_second : at_address t l ≡ pos 0 → TrueAt t (apart k l)
  apart_second e = (true-Or t (first ∷ second ∷ third ∷ [])).1 (Any-later (TrueAt t) first (second ∷ third ∷ []) (Any-first (TrueAt t) second (third ∷ []) (true_null t (address l) e)))

  apart_third : (at_address t k ≡ at_address t l → ⊥) → TrueAt t (apart k l)
  apart_third e = (true-Or t (first ∷ second ∷ third ∷ [])).1 (Any-later (TrueAt t) first (second ∷ third ∷ []) (Any-later (TrueAt t) second (third ∷ []) (Any-first (TrueAt t) third []
      ((true-Not t (Eq (variable (address k)) (variable (address l)))).1 (λ f. e (equal_true t (address k) (address l) f))))))

one_apart : {h a b : Heap} → Parts h a b → IsHeap h → (t : Stack) (k l : ℕ) → IsPlaced t a k → IsPlaced t b l → TrueAt t (apart k l)
one_apart parts is_heap t k l (inl zero) q = apart_first t k l zero
one_apart parts is_heap t k l (inr p) (inl zero) = apart_second t k l zero
one_apart {b = b} parts is_heap t k l (inr p) (inr q) =
    let P : ℤ → Type 0 = λ z. IsPlace z b in
    apart_third t k l (λ same. places_differ (pos 0) parts is_heap (at_address t k) p (subst P (sym same) q))

all_apart_from : {h a b : Heap} → Parts h a b → IsHeap h → (t : Stack) (k : ℕ) (ls : List ℕ) → IsPlaced t a k → Placed t b ls → AllTrueAt t (map (apart k) ls)
all_apart_from parts is_heap t k [] p q = tt
all_apart_from parts is_heap t k (l ∷ ls) p (q, r) = (one_apart parts is_heap t k l p q, all_apart_from parts is_heap t k ls p r)

apart_append : (t : Stack) (k : ℕ) (ks ls : List ℕ) → AllTrueAt t (map (apart k) ks) → AllTrueAt t (map (apart k) ls) → AllTrueAt t (map (apart k) (ks ++ ls))
apart_append t k [] ls e f = f
apart_append t k (l ∷ ks) ls (d, e) f = (d, apart_append t k ks ls e f)

both_apart : {h a b : Heap} → Parts h a b → IsHeap h → (t : Stack) (ks ls : List ℕ) → Placed t a ks → Placed t b ls →
    AllTrueAt t (all_apart ks) → AllTrueAt t (all_apart ls) → AllTrueAt t (all_apart (ks ++ ls))
both_apart parts is_heap t [] ls p q e f = f
both_apart parts is_heap t (k ∷ ks) ls (p, ps) q e f =
    let (d, g) = all_true-split t (map (apart k) ks) (all_apart ks) e in
    all_true-append t (map (apart k) (ks ++ ls)) (all_apart (ks ++ ls))
    (apart_append t k ks ls d (all_apart_from parts is_heap t k ls p q))
    (both_apart parts is_heap t ks ls ps q g f)

-- the addresses are places of h or null, and differ where they are not null
pub record AreAddresses (t : Stack) (h : Heap) (ks : List ℕ) : Type 0 where
  pub placed : Placed t h ks
  pub apart : AllTrueAt t (all_apart ks)

pub no_addresses : (t : Stack) (h : Heap) → AreAddresses t h []
no_addresses t h = record { placed = tt; apart = tt }

pub both_addresses : {h a b : Heap} → Parts h a b → IsHeap h → (t : Stack) (ks ls : List ℕ) → AreAddresses t a ks → AreAddresses t b ls → AreAddresses t h (ks ++ ls)
both_addresses parts is_heap t ks ls p q = record {
  placed = placed_both parts t ks ls p.placed q.placed;
  apart = both_apart parts is_heap t ks ls p.placed q.placed p.apart q.apart;
}

abbrev pub AllNull : Stack → List ℕ → Type 0
AllNull t [] = Unit {0}
AllNull t (k ∷ ks) = (at_address t k ≡ pos 0) × AllNull t ks

null_placed : (t : Stack) (h : Heap) (ks : List ℕ) → AllNull t ks → Placed t h ks
null_placed t h [] z = tt
null_placed t h (k ∷ ks) (e, z) = (inl e, null_placed t h ks z)

null_from : (t : Stack) (k : ℕ) (ks : List ℕ) → at_address t k ≡ pos 0 → AllTrueAt t (map (apart k) ks)
null_from t k [] e = tt
null_from t k (l ∷ ks) e = (apart_first t k l e, null_from t k ks e)

null_apart : (t : Stack) (ks : List ℕ) → AllNull t ks → AllTrueAt t (all_apart ks)
null_apart t [] z = tt
null_apart t (k ∷ ks) (e, z) = all_true-append t (map (apart k) ks) (all_apart ks) (null_from t k ks e) (null_apart t ks z)

pub null_addresses : (t : Stack) (h : Heap) (ks : List ℕ) → AllNull t ks → AreAddresses t h ks
null_addresses t h ks z = record { placed = null_placed t h ks z; apart = null_apart t ks z }

-- s with 0 from n on
abbrev pub cut : ℕ → Stack → Stack
cut n s v = if nat_lt v.number n then s v else number_value (pos 0)

pub cut_below : (n : ℕ) (s : Stack) (v : Var) → v.number < n → s v ≡ cut n s v
cut_below n s v less = let is : nat_lt v.number n ≡ true = grind (arith, nat_tests) in rw is refl

cut_from : (n : ℕ) (s : Stack) (k : ℕ) → n ≤ k → at_address (cut n s) k ≡ pos 0
cut_from n s k le = let isnt : nat_lt k n ≡ false = grind (arith, nat_tests) in ap (λ (b : Bool). (if b then s (address k) else number_value (pos 0)).number) isnt

pub cut_null : (n high : ℕ) (s : Stack) (ks : List ℕ) → Within n high ks → AllNull (cut n s) ks
cut_null n high s [] w = tt
cut_null n high s (k ∷ ks) (d, e, w) = (cut_from n s k d, cut_null n high s ks w)
