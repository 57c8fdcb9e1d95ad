-- Sums of variables in scope.
use Rattle.std.proofs.Common.{◌≡◌, suc, ◌≤◌, ◌^◌, ℤ, pos, ◌+ℤ◌, unsigned_abs, Bool, true, false, nat_le, nat_lt, IsTrue, List, [], ◌∷◌, Option, Some, None, unwrap_or, refl, sym, ap, ◌∙◌, subst, if◌then◌else◌, true≢false, slice_get}
use Rattle.std.specs.List.{All, fold, list_any}
use Rattle.std.specs.Option.{option_map}
use Rattle.std.specs.Ordering.{int_eq}
use Rattle.std.proofs.lemmas.List.Elements.{All-nil, All-cons, All-head, All-tail}
use Rattle.hs_pure.specs.declared.var.Var.{Var}
use Rattle.hs_pure.specs.declared.lin.Lin.{Lin}
use Rattle.hs_pure.specs.Stack.{same}
use Rattle.hs_pure.specs.Occurs.{in_lin}
use Rattle.hs_pure.specs.Sums.{LinIsLight, LinIsOrdered}
use Rattle.hs_heap.specs.Tests.{sum_fits}
use Rattle.hs_heap.proofs.Stacks.{same_true}
use Rattle.hs_heap.proofs.Tells.{either_all, tells_le}
use Rattle.hs_heap.proofs.Parts.{sum_told}
use Rattle.hs_norm_formula.specs.declared.sum.Term.{Term}
use Rattle.hs_norm_formula.specs.Sum.{place, is_of, changed, put, so_far, amount, with_number, add, added, zero_sum, weight, allowed}
use Rattle.hs_norm_formula.specs.Laws.{IsNumber}
use Rattle.hs_norm_formula.proofs.Light.{changed-suc, light_is_kept}
use Rattle.hs_norm_formula.proofs.Order.{sum_is_ordered}

module _ (s : Var → Bool) where
  -- the variables of the terms are in scope
  abbrev pub TermsIn : List (Var × ℤ) → Type 0
  TermsIn [] = Unit {0}
  TermsIn (t ∷ ts) = IsTrue (s t.0) × TermsIn ts

  -- the variable, where there is one, is a number in scope
  abbrev pub OptionIn : Option Var → Type 0
  OptionIn None = Unit {0}
  OptionIn (Some v) = (v.bag ≡ false) × IsTrue (s v)

  terms_among : (ts : List (Var × ℤ)) → TermsIn ts → (v : Var) → IsTrue (list_any (λ t. same t.0 v) ts) → IsTrue (s v)
  terms_among [] h = λ v k. absurd (true≢false (sym k))
  terms_among (t ∷ ts) h = either_all (λ v. same t.0 v) (λ v. list_any (λ t. same t.0 v) ts) (λ v. IsTrue (s v)) (λ v e. subst (λ w. IsTrue (s w)) (same_true t.0 v e) h.0) (terms_among ts h.1)

  module _ (v : Var) (c : ℤ) (is : IsTrue (s v)) where
    put_head : (t : Var × ℤ) (ts : List (Var × ℤ)) (b z : Bool) → TermsIn (t ∷ ts) → TermsIn (changed b z 0 (v, c) (t ∷ ts))
    put_head t ts true true h = h.1
    put_head t ts true false h = (is, h.1)
    put_head t ts false true h = h
    put_head t ts false false h = (is, h)

    put_in : (ts : List (Var × ℤ)) → TermsIn ts → TermsIn (put v c ts)
    put_in [] h = of (int_eq c (pos 0))
      where
        of : (z : Bool) → TermsIn (changed false z 0 (v, c) [])
        of true = tt
        of false = (is, tt)
    put_in (t ∷ ts) h = of (nat_lt t.0.number v.number) (put_in ts h.1)
      where
        of : (b : Bool) → TermsIn (put v c ts) → TermsIn (changed (is_of v (slice_get (t ∷ ts) (if b then suc (place v ts) else 0))) (int_eq c (pos 0)) (if b then suc (place v ts) else 0) (v, c) (t ∷ ts))
        of true ih = subst TermsIn (sym (changed-suc (is_of v (slice_get ts (place v ts))) (int_eq c (pos 0)) (place v ts) (v, c) t ts)) (h.0, ih)
        of false ih = put_head t ts (same t.0 v) (int_eq c (pos 0)) h

  with_in : (a : Lin) (v : Option Var) (x : ℤ) → OptionIn v → TermsIn a.terms → TermsIn (with_number a v x).terms
  with_in a None x k h = h
  with_in a (Some v) x k h = put_in v x k.1 a.terms h

  none_stays : (ts : List Term) (b : Lin) → fold add None ts ≡ Some b → ⊥
  none_stays [] b e = cc
  none_stays (t ∷ ts) b e = none_stays ts b e

  added_in : (ts : List Term) (a b : Lin) → All (λ (t : Term). OptionIn t.var) ts → TermsIn a.terms → fold add (Some a) ts ≡ Some b → TermsIn b.terms
  added_in [] a b all h e = subst (λ (c : Lin). TermsIn c.terms) (ap (λ o. unwrap_or o a) e) h
  added_in (t ∷ ts) a b all h e = of (nat_le (unsigned_abs (so_far a t.var +ℤ amount t)) (2 ^ 126)) (added_in ts (with_number a t.var (so_far a t.var +ℤ amount t)) b (All-tail (λ (t : Term). OptionIn t.var) t ts all)) e
    where
      of : (z : Bool) → (TermsIn (with_number a t.var (so_far a t.var +ℤ amount t)).terms → fold add (Some (with_number a t.var (so_far a t.var +ℤ amount t))) ts ≡ Some b → TermsIn b.terms) →
          fold add (option_map (with_number a t.var) (if z then Some (so_far a t.var +ℤ amount t) else None)) ts ≡ Some b → TermsIn b.terms
      of true ih f = ih (with_in a t.var (so_far a t.var +ℤ amount t) (All-head (λ (t : Term). OptionIn t.var) t ts all) h) f
      of false ih f = absurd (none_stays ts b f)

  of_numbers : (ts : List Term) → All (λ (t : Term). OptionIn t.var) ts → All (λ (t : Term). IsNumber t.var) ts
  of_numbers [] h = All-nil _
  of_numbers (t ∷ ts) h = All-cons (λ (t : Term). IsNumber t.var) t ts (is t.var (All-head (λ (t : Term). OptionIn t.var) t ts h)) (of_numbers ts (All-tail (λ (t : Term). OptionIn t.var) t ts h))
    where
      is : (o : Option Var) → OptionIn o → IsNumber o
      is None h = tt
      is (Some v) h = h.0

  -- a sum by its parts
  pub sum_from : (a : Lin) → LinIsLight a → LinIsOrdered a → ((v : Var) → IsTrue (in_lin v a) → IsTrue (s v)) → IsTrue (sum_fits a s)
  sum_from a light ordered among = (sum_told (λ v. false) 0 a s).1 (record {
    ordered = All-cons LinIsOrdered a [] ordered (All-nil LinIsOrdered);
    light = All-cons LinIsLight a [] light (All-nil LinIsLight);
    bags = All-nil _;
    members = All-nil _;
    binders = λ u b. absurd (true≢false (sym b));
    among = among;
  })

  pub sum_parts : (a : Lin) → IsTrue (sum_fits a s) → LinIsLight a × LinIsOrdered a × ((v : Var) → IsTrue (in_lin v a) → IsTrue (s v))
  sum_parts a h = let p = (sum_told (λ v. false) 0 a s).0 h in (All-head LinIsLight a [] p.light, All-head LinIsOrdered a [] p.ordered, p.among)

  -- what is allowed in a source is light
  light_added : (b : Bool) (ts : List Term) (a : Lin) → b ≡ false → allowed b ts ≡ Some a → (weight ts ≤ 2 ^ 126) × (added ts ≡ Some a)
  light_added true ts a f e = absurd (true≢false f)
  light_added false ts a f e = of (nat_le (weight ts) (2 ^ 126)) (tells_le (weight ts) (2 ^ 126)).0 e
    where
      of : (z : Bool) → (IsTrue z → weight ts ≤ 2 ^ 126) → (if z then added ts else None) ≡ Some a → (weight ts ≤ 2 ^ 126) × (added ts ≡ Some a)
      of true t f = (t refl, f)
      of false t f = absurd cc

  pub added_fits : (b : Bool) (ts : List Term) (a : Lin) → b ≡ false → allowed b ts ≡ Some a → All (λ (t : Term). OptionIn t.var) ts → IsTrue (sum_fits a s)
  added_fits b ts a f e all =
      let is = light_added b ts a f e in
      let kept = light_is_kept ts is.0 in
      let same : kept.0 ≡ a = ap (λ o. unwrap_or o a) (sym kept.1 ∙ is.1) in
      sum_from a (subst LinIsLight same kept.2) (sum_is_ordered ts a (of_numbers ts all) is.1) (terms_among a.terms (added_in ts zero_sum a all tt is.1))
