-- The parts of a written sum add up to it.
use Rattle.std.proofs.Common.{◌≡◌, ℕ, suc, ◌<◌, ◌≤◌, nat_le, ℤ, pos, ◌+ℤ◌, Bool, false, not, ◌&&◌, if◌then◌else◌, List, [], ◌∷◌, ◌++◌, Option, Some, None, slice_get, append_assoc, refl, sym, ap, ◌∙◌, arith}
use Rattle.std.specs.Bool.{IsTrue}
use Rattle.std.specs.List.{fold, AllByRecursion}
use Rattle.std.specs.Option.{option_map}
use Rattle.std.specs.Ordering.{int_eq}
use Rattle.std.proofs.Math.IntN.{+ℤ_idl}
use Rattle.std.proofs.lemmas.List.{append-nil}
use Rattle.hs_tree.specs.declared.expr.PartTree.{PartTree}
use Rattle.hs_pure.specs.declared.var.Var.{Var}
use Rattle.hs_pure.specs.declared.lin.Lin.{Lin}
use Rattle.hs_numbering.specs.declared.numbering.Named.{Named}
use Rattle.hs_numbering.specs.declared.numbering.Numbering.{Numbering}
use Rattle.hs_numbering.specs.Numbering.{is_numbered}
use Rattle.hs_norm_formula.specs.declared.sum.Term.{Term}
use Rattle.hs_norm_formula.specs.Sum.{place, is_of, coefficient, coefficient_in, changed, put, part_term, term, sum_of, with_number, small, add, allowed, or_shape, sum}
use Rattle.hs_norm_formula.proofs.Light.{changed-suc}
use Rattle.hs_written.specs.Writable.{has_number, is_small, terms_fit, sum_fits}
use Rattle.hs_written.specs.Written.{Pairwise, none, another, signed, IsTimes, once, times, AreParts, nothing, constant}
use Rattle.hs_written.specs.Written as written
use Rattle.hs_written.proofs.Names.{both_true, tested_le, is_lt, not_true}
use Rattle.hs_written.proofs.State.{inside, number_var-numbered, each_from_pairs}

-- ---- a variable above all before

abbrev AreBelow : ℕ → List (Var × ℤ) → Type 0
AreBelow k ts = AllByRecursion (λ (t : Var × ℤ). t.0.number < k) ts

below_push : (k m : ℕ) (ts : List (Var × ℤ)) (t : Var × ℤ) → k ≤ m → t.0.number < m → AreBelow k ts → AreBelow m (ts ++ t ∷ [])
below_push k m [] t le lt h = (lt, tt)
below_push k m (u ∷ ts) t le lt h = let first = h.0 in (omega arith, below_push k m ts t le lt h.1)

below_more : (k m : ℕ) (ts : List (Var × ℤ)) → k ≤ m → AreBelow k ts → AreBelow m ts
below_more k m [] le h = tt
below_more k m (u ∷ ts) le h = let first = h.0 in (omega arith, below_more k m ts le h.1)

put-end : (v : Var) (c : ℤ) (ts : List (Var × ℤ)) → AreBelow v.number ts → int_eq c (pos 0) ≡ false → put v c ts ≡ ts ++ (v, c) ∷ []
put-end v c [] h e = λ j. changed false (e j) 0 (v, c) []
put-end v c (t ∷ ts) h e =
    let lt = is_lt t.0.number v.number h.0 in
    (λ j. changed (is_of v (slice_get (t ∷ ts) (if lt j then suc (place v ts) else 0))) (int_eq c (pos 0)) (if lt j then suc (place v ts) else 0) (v, c) (t ∷ ts))
    ∙ changed-suc (is_of v (slice_get ts (place v ts))) (int_eq c (pos 0)) (place v ts) (v, c) t ts ∙ ap (λ us. t ∷ us) (put-end v c ts h.1 e)

coefficient-end : (v : Var) (ts : List (Var × ℤ)) → AreBelow v.number ts → coefficient v ts ≡ pos 0
coefficient-end v [] h = refl
coefficient-end v (t ∷ ts) h =
    let lt = is_lt t.0.number v.number h.0 in
    (λ j. coefficient_in v (slice_get (t ∷ ts) (if lt j then suc (place v ts) else 0))) ∙ coefficient-end v ts h.1

-- ---- one more part

small-same : (c : ℤ) → IsTrue (is_small c) → small c ≡ Some c
small-same c h = λ j. if h j then Some c else None

abbrev term_of : Bool → Option Var → ℕ → Term
term_of minus v n = record { minus = minus; var = v; size = n }

add-constant : (ts : List (Var × ℤ)) (c : ℤ) (minus : Bool) (n : ℕ) → c ≡ signed minus n → IsTrue (is_small c) →
    add (Some (sum_of ts (pos 0))) (term_of minus None n) ≡ Some (sum_of ts c)
add-constant ts c minus n is h =
    (λ j. option_map (with_number (sum_of ts (pos 0)) None) (small (pos 0 +ℤ sym is j)))
    ∙ (λ j. option_map (with_number (sum_of ts (pos 0)) None) (small (+ℤ_idl c j)))
    ∙ (λ j. option_map (with_number (sum_of ts (pos 0)) None) (small-same c h j))

add-term : (ts : List (Var × ℤ)) (v : Var) (c : ℤ) (minus : Bool) (n : ℕ) → c ≡ signed minus n → IsTrue (is_small c) →
    int_eq c (pos 0) ≡ false → AreBelow v.number ts → add (Some (sum_of ts (pos 0))) (term_of minus (Some v) n) ≡ Some (sum_of (ts ++ (v, c) ∷ []) (pos 0))
add-term ts v c minus n is h apart below =
    (λ j. option_map (with_number (sum_of ts (pos 0)) (Some v)) (small (coefficient-end v ts below j +ℤ sym is j)))
    ∙ (λ j. option_map (with_number (sum_of ts (pos 0)) (Some v)) (small (+ℤ_idl c j)))
    ∙ (λ j. option_map (with_number (sum_of ts (pos 0)) (Some v)) (small-same c h j))
    ∙ (λ j. Some (sum_of (put-end v c ts below apart j) (pos 0)))

times-numbered : (v : Var) (n : ℕ) (p : PartTree) (around : List Named) → IsTrue (has_number v) → v.bag ≡ false → IsTimes v n p →
    part_term p (inside around) ≡ ((Some v, n), inside around)
times-numbered v n _ around h kind (once {x = x} e is) =
    ap (λ (z : Var × Numbering). ((Some z.0, 1), z.1)) (number_var-numbered v x around h kind is) ∙ λ j. ((Some v, sym e j), inside around)
times-numbered v n _ around h kind (times {x = x} is) = ap (λ (z : Var × Numbering). ((Some z.0, n), z.1)) (number_var-numbered v x around h kind is)

-- ---- all parts

pub record TermFits (n : ℕ) (t : Var × ℤ) (ts : List (Var × ℤ)) : Type 0 where
  pub above : n ≤ t.0.number
  pub kind : t.0.bag ≡ false
  pub number : IsTrue (has_number t.0)
  pub apart : int_eq t.1 (pos 0) ≡ false
  pub small : IsTrue (is_small t.1)
  pub rest : IsTrue (terms_fit (suc t.0.number) ts)

pub term_fits : (n : ℕ) (t : Var × ℤ) (ts : List (Var × ℤ)) → IsTrue (terms_fit n (t ∷ ts)) → TermFits n t ts
term_fits n t ts h =
    let k = both_true (nat_le n t.0.number && (not t.0.bag && has_number t.0)) ((not (int_eq t.1 (pos 0)) && is_small t.1) && terms_fit (suc t.0.number) ts) h in
    let a = both_true (nat_le n t.0.number) (not t.0.bag && has_number t.0) k.0 in
    let b = both_true (not t.0.bag) (has_number t.0) a.1 in
    let c = both_true (not (int_eq t.1 (pos 0)) && is_small t.1) (terms_fit (suc t.0.number) ts) k.1 in
    let d = both_true (not (int_eq t.1 (pos 0))) (is_small t.1) c.0 in
    record { above = tested_le n t.0.number a.0; kind = not_true t.0.bag b.0; number = b.1; apart = not_true (int_eq t.1 (pos 0)) d.0; small = d.1; rest = c.1 }

-- what the parts of these terms and this constant give
record Given (around : List Named) (k : ℕ) (ts : List (Var × ℤ)) (c : ℤ) (ps : List (Bool × PartTree)) : Type 0 where
  terms : List Term
  given : Pairwise (λ t p. term p (inside around) ≡ (t, inside around)) terms ps
  added : (before : List (Var × ℤ)) → AreBelow k before → fold add (Some (sum_of before (pos 0))) terms ≡ Some (sum_of (before ++ ts) c)

given_term : (around : List Named) (k : ℕ) (t : Var × ℤ) (ts : List (Var × ℤ)) (c : ℤ) (minus : Bool) (n : ℕ) (p : PartTree) (ps : List (Bool × PartTree)) →
    TermFits k t ts → t.1 ≡ signed minus n → IsTimes t.0 n p → Given around (suc t.0.number) ts c ps → Given around k (t ∷ ts) c ((minus, p) ∷ ps)
given_term around k t ts c minus n p ps fit is h rest =
    let le = fit.above in record {
      terms = term_of minus (Some t.0) n ∷ rest.terms;
      given = another (ap (λ (z : (Option Var × ℕ) × Numbering). (term_of minus z.0.0 z.0.1, z.1)) (times-numbered t.0 n p around fit.number fit.kind h)) rest.given;
      added = λ before below.
          ap (λ found. fold add found rest.terms) (add-term before t.0 t.1 minus n is fit.small fit.apart (below_more k t.0.number before le below))
          ∙ rest.added (before ++ t ∷ []) (below_push k (suc t.0.number) before t (omega arith) (omega arith) below)
          ∙ λ j. Some (sum_of (append_assoc before (t ∷ []) ts j) c);
    }

parts_given : (around : List Named) (k : ℕ) (ts : List (Var × ℤ)) (c : ℤ) (ps : List (Bool × PartTree)) → IsTrue (terms_fit k ts) → IsTrue (is_small c) →
    AreParts ts c ps → Given around k ts c ps
parts_given around k _ c _ fit h (nothing e) = record { terms = []; given = none; added = λ before below j. Some (sum_of (sym (append-nil before) j) (sym e j)) }
parts_given around k _ c _ fit h (constant {minus = minus} {n = n} e) = record {
  terms = term_of minus None n ∷ [];
  given = another refl none;
  added = λ before below. add-constant before c minus n e h ∙ λ j. Some (sum_of (sym (append-nil before) j) c);
}
parts_given around k _ c _ fit h (written.term {t = t} {ts = ts} {minus = minus} {n = n} {p = p} {ps = ps} is often rest) =
    let fits = term_fits k t ts fit in
    given_term around k t ts c minus n p ps fits is often (parts_given around (suc t.0.number) ts c ps fits.rest h rest)

pub sum-numbered : (a : Lin) (ps : List (Bool × PartTree)) (at : ℕ) (around : List Named) → IsTrue (sum_fits a) → AreParts a.terms a.constant ps →
    sum ps at (inside around) ≡ (a, inside around)
unfolding sum
sum-numbered a ps at around fit is =
    let fits = both_true (terms_fit 0 a.terms) (is_small a.constant) fit in
    let r = parts_given around 0 a.terms a.constant ps fits.0 fits.1 is in
    ap (λ (z : List Term × Numbering). or_shape at (allowed (is_numbered z.1.reading) z.0) z.1) (each_from_pairs term (inside around) r.terms ps r.given)
    ∙ ap (λ found. or_shape at found (inside around)) (r.added [] tt)
