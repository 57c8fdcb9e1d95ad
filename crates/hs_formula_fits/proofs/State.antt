-- What a part of a source leaves of a numbering.
use Rattle.std.proofs.Common.{◌≡◌, ℕ, ◌<◌, ◌≤◌, Bool, true, false, ◌||◌, IsTrue, List, [], ◌∷◌, ◌++◌, length, refl, sym, ap, ◌∙◌, subst, arith, append_assoc, append-nil, le_trans, le_of_lt, lt_of_le_of_lt}
use Rattle.std.specs.List.{All}
use Rattle.std.proofs.lemmas.List.{map-append}
use Rattle.std.proofs.lemmas.List.Elements.{All-nil, All-cons, All-head, All-tail, All-map, All-weaker}
use Rattle.hs_pure.specs.declared.var.Var.{Var}
use Rattle.hs_pure.specs.Stack.{same}
use Rattle.hs_pure.proofs.Vars.{or_left, or_right}
use Rattle.hs_heap.specs.Meaning.{is_in}
use Rattle.hs_heap.specs.Sound.{AreDistinct}
use Rattle.hs_heap.proofs.Stacks.{same_false}
use Rattle.hs_numbering.specs.declared.numbering.Named.{Named}
use Rattle.hs_numbering.specs.declared.numbering.Numbering.{Numbering}
use Rattle.hs_numbering.specs.Numbering.{is_open}
use Rattle.hs_formula_fits.specs.Fits.{vars_of, free_vars, NamedFits, RiseAbove, Extends}

-- ---- lists of variables

pub or_assoc : (a b c : Bool) → (a || (b || c)) ≡ ((a || b) || c)
or_assoc true b c = refl
or_assoc false b c = refl

pub is_in-append : (v : Var) (xs ys : List Var) → is_in v (xs ++ ys) ≡ (is_in v xs || is_in v ys)
is_in-append v [] ys = refl
is_in-append v (x ∷ xs) ys = ap (λ b. same v x || b) (is_in-append v xs ys) ∙ or_assoc (same v x) (is_in v xs) (is_in v ys)

pub neither : (a b : Bool) → a ≡ false → b ≡ false → (a || b) ≡ false
neither true b e f = e
neither false b e f = f

pub none_is : (v : Var) (ws : List Var) → All (λ w. v.number ≡ w.number → ⊥) ws → is_in v ws ≡ false
none_is v [] h = refl
none_is v (w ∷ ws) h = neither (same v w) (is_in v ws) (same_false v w (λ e. All-head (λ w. v.number ≡ w.number → ⊥) w ws h (ap (λ (u : Var). u.number) e))) (none_is v ws (All-tail (λ w. v.number ≡ w.number → ⊥) w ws h))

-- the variable's number is above, or below, those of the list
pub above_all : (k : ℕ) (v : Var) (ws : List Var) → All (λ w. w.number ≤ k) ws → k < v.number → is_in v ws ≡ false
above_all k v ws h less = none_is v ws (All-weaker (λ w. w.number ≤ k) (λ w. v.number ≡ w.number → ⊥) (λ w le e. apart k v.number w.number less le e) ws h)
  where
    apart : (k m n : ℕ) → k < m → n ≤ k → m ≡ n → ⊥
    apart k m n less le e = omega arith

pub below_all : (k : ℕ) (v : Var) (ws : List Var) → All (λ w. k < w.number) ws → v.number ≤ k → is_in v ws ≡ false
below_all k v ws h le = none_is v ws (All-weaker (λ w. k < w.number) (λ w. v.number ≡ w.number → ⊥) (λ w less e. apart k v.number w.number le less e) ws h)
  where
    apart : (k m n : ℕ) → m ≤ k → k < n → m ≡ n → ⊥
    apart k m n le less e = omega arith

pub distinct_append : (k : ℕ) (xs ys : List Var) → AreDistinct xs → AreDistinct ys → All (λ v. v.number ≤ k) xs → All (λ v. k < v.number) ys → AreDistinct (xs ++ ys)
distinct_append k [] ys d e a b = e
distinct_append k (x ∷ xs) ys d e a b = (
  is_in-append x xs ys ∙ neither (is_in x xs) (is_in x ys) d.0 (below_all k x ys b (All-head (λ v. v.number ≤ k) x xs a)),
  distinct_append k xs ys d.1 e (All-tail (λ v. v.number ≤ k) x xs a) b,
)

pub in_left : (v : Var) (xs ys : List Var) → IsTrue (is_in v xs) → IsTrue (is_in v (xs ++ ys))
in_left v xs ys h = subst IsTrue (sym (is_in-append v xs ys)) (or_left (is_in v xs) (is_in v ys) h)

pub in_right : (v : Var) (xs ys : List Var) → IsTrue (is_in v ys) → IsTrue (is_in v (xs ++ ys))
in_right v xs ys h = subst IsTrue (sym (is_in-append v xs ys)) (or_right (is_in v xs) (is_in v ys) h)

-- ---- numbers that rise

rise_lower : (j k : ℕ) (vs : List Var) → j ≤ k → RiseAbove k vs → RiseAbove j vs
rise_lower j k [] le r = tt
rise_lower j k (v ∷ vs) le r = (lt_of_le_of_lt le r.0, r.1)

pub rise_above : (k : ℕ) (vs : List Var) → RiseAbove k vs → All (λ v. k < v.number) vs
rise_above k [] r = All-nil (λ (v : Var). k < v.number)
rise_above k (v ∷ vs) r = All-cons (λ v. k < v.number) v vs r.0 (rise_above k vs (rise_lower k v.number vs (le_of_lt r.0) r.1))

-- what rises up to k, and then what rises above k
rise_append : (j k : ℕ) (xs ys : List Var) → j ≤ k → RiseAbove j xs → All (λ v. v.number ≤ k) xs → RiseAbove k ys → RiseAbove j (xs ++ ys)
rise_append j k [] ys le r low s = rise_lower j k ys le s
rise_append j k (x ∷ xs) ys le r low s = (r.0, rise_append x.number k xs ys (All-head (λ v. v.number ≤ k) x xs low) r.1 (All-tail (λ v. v.number ≤ k) x xs low) s)

-- ---- one numbering after another

-- the numbers of the known names are given
abbrev pub KnownFit : Numbering → Type 0
KnownFit m = All (NamedFits m) m.known

pub extends_itself : (n : Numbering) → Extends n n
extends_itself n = record {
  reading = refl;
  fixed = refl;
  names = self (length n.names);
  known = ([], sym (append-nil n.known), tt);
  closed = λ e. refl;
  faults = ([], sym (append-nil n.faults));
}
  where
    self : (k : ℕ) → k ≤ k
    self k = omega arith

-- where the known names end in ms, the numbers of ms are given
learned_low : (m : Numbering) (old ms : List Named) → All (NamedFits m) (old ++ ms) → All (λ v. v.number ≤ length m.names) (vars_of ms)
learned_low m [] ms fit = All-map (λ (v : Var). v.number ≤ length m.names) (λ (x : Named). x.var) ms (All-weaker (NamedFits m) (λ x. x.var.number ≤ length m.names) (λ x f. f.high) ms fit)
learned_low m (x ∷ old) ms fit = learned_low m old ms (All-tail (NamedFits m) x (old ++ ms) fit)

pub extends_later : (n m l : Numbering) → KnownFit m → Extends n m → Extends m l → Extends n l
extends_later n m l fit g h = record {
  reading = h.reading ∙ g.reading;
  fixed = h.fixed ∙ g.fixed;
  names = le_trans g.names h.names;
  known = (
    g.known.0 ++ h.known.0,
    h.known.1 ∙ ap (λ ms. ms ++ h.known.0) g.known.1 ∙ append_assoc n.known g.known.0 h.known.0,
    subst (RiseAbove (length n.names)) (sym (map-append (λ (x : Named). x.var) g.known.0 h.known.0))
        (rise_append (length n.names) (length m.names) (vars_of g.known.0) (vars_of h.known.0) g.names g.known.2 (learned_low m n.known g.known.0 (subst (All (NamedFits m)) g.known.1 fit)) h.known.2),
  );
  closed = λ e. h.closed (ap is_open g.reading ∙ e) ∙ g.closed e;
  faults = (g.faults.0 ++ h.faults.0, h.faults.1 ∙ ap (λ fs. fs ++ h.faults.0) g.faults.1 ∙ append_assoc n.faults g.faults.0 h.faults.0);
}

pub free_more : (n m : Numbering) (g : Extends n m) → free_vars m ≡ free_vars n ++ vars_of g.known.0
free_more n m g =
    (λ i. vars_of (g.fixed i ++ g.known.1 i)) ∙ ap vars_of (sym (append_assoc n.fixed n.known g.known.0)) ∙ map-append (λ (x : Named). x.var) (n.fixed ++ n.known) g.known.0

pub in_free : (n m : Numbering) → Extends n m → (v : Var) → IsTrue (is_in v (free_vars n)) → IsTrue (is_in v (free_vars m))
in_free n m g v h = subst (λ vs. IsTrue (is_in v vs)) (sym (free_more n m g)) (in_left v (free_vars n) (vars_of g.known.0) h)

pub named_later : (n m : Numbering) → length n.names ≤ length m.names → (ms : List Named) → All (NamedFits n) ms → All (NamedFits m) ms
named_later n m le ms h = All-weaker (NamedFits n) (NamedFits m) (λ x f. record { kind = f.kind; low = f.low; high = le_trans f.high le }) ms h

-- a number above k that is given, of a variable that is not free
pub record IsFresh (k : ℕ) (m : Numbering) (u : Var) : Type 0 where
  pub new : k < u.number
  pub given : u.number ≤ length m.names
  pub hidden : is_in u (free_vars m) ≡ false

pub fresh_later : (j k : ℕ) (n m : Numbering) (u : Var) → j ≤ k → Extends n m → IsFresh k n u → IsFresh j m u
fresh_later j k n m u le g f = record {
  new = above j k u.number le f.new;
  given = le_trans f.given g.names;
  hidden = ap (is_in u) (free_more n m g) ∙ is_in-append u (free_vars n) (vars_of g.known.0)
      ∙ neither (is_in u (free_vars n)) (is_in u (vars_of g.known.0)) f.hidden (below_all (length n.names) u (vars_of g.known.0) (rise_above (length n.names) (vars_of g.known.0) g.known.2) f.given);
}
  where
    above : (j k x : ℕ) → j ≤ k → k < x → j < x
    above j k x le less = omega arith

pub all_fresh_later : (j k : ℕ) (n m : Numbering) (us : List Var) → j ≤ k → Extends n m → All (IsFresh k n) us → All (IsFresh j m) us
all_fresh_later j k n m us le g h = All-weaker (IsFresh k n) (IsFresh j m) (λ u f. fresh_later j k n m u le g f) us h
