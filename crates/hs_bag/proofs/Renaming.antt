-- An instance that is stated forms no product, and no two of its terms become one: its sums fit where those of the formula fit.
use Rattle.std.proofs.Common.{◌≡◌, ℕ, suc, ◌+◌, ◌<◌, ◌≤◌, ◌⊎◌, inl, inr, ℤ, pos, ◌+ℤ◌, ◌*ℤ◌, FitsSigned, Bool, true, false, not, List, [], ◌∷◌, map, length, refl, sym, ap, ◌∙◌, subst, arith, if◌then◌else◌}
use mir.Syntax.{w128}
use Rattle.std.specs.List.{All}
use Rattle.std.proofs.lemmas.Int.{ints}
use Rattle.std.proofs.Math.IntN.{*ℤ-zero}
use Rattle.hs_pure.specs.declared.var.Var.{Var}
use Rattle.hs_pure.specs.declared.lin.Lin.{Lin}
use Rattle.hs_pure.specs.Stack.{same}
use Rattle.hs_pure.specs.Assertion.{Assertion, truth, eq, lt, le, divides, bag_eq, subset, member, all_of, negation, both, either, exists, forall}
use Rattle.hs_pure.specs.declared.pure.Pure.{Pure}
use Rattle.hs_pure.specs.Assertion.{assertion_of}
use Rattle.hs_pure.specs.Occurs.{top_of}
use Rattle.hs_pure.specs.Sums.{RisesFrom, LinIsOrdered, IsOrdered}
use Rattle.hs_pure.proofs.Mirrored.{top_of-is}
use Rattle.hs_pure.proofs.Lists.{All-first, All-later}
use Rattle.hs_pure.proofs.Vars.{same-eq}
use Rattle.hs_elimination.specs.Linear.{place, number, single, plus, times, scale_term, HasWideTerm}
use Rattle.hs_elimination.specs.Ordered.{AssertionIsOrdered}
use Rattle.hs_elimination.proofs.Order.{order_is}
use Rattle.hs_elimination.proofs.Stacks.{same_place}
use Rattle.hs_elimination.proofs.Variables.{Each, IsOther, each-merge}
use Rattle.hs_reduction.specs.Layout.{Layout, layout, number_variable, variable, element, denied, after}
use Rattle.hs_reduction.specs.Instance.{Substitution, itself, instead, stated}
use Rattle.hs_reduction.proofs.Below.{TermsBelow, LinBelow, Below, from_top}
use Rattle.hs_reduction.proofs.Search.{order_left, order_right, order_body}
use Rattle.hs_bag_parts.specs.Widths.{SharePlace, TimesIsWide, PlusIsWide}
use Rattle.hs_bag_parts.specs.Substituting.{TermsAreWide, SumIsWide, SubstitutedIsWide, InstanceIsWide}
use Rattle.hs_bag.specs.Substituting.{ReducedIsWide, ReductionIsWide}

fits_zero : FitsSigned w128 (pos 0)
fits_zero = omega arith

once : (z : ℤ) → z *ℤ pos 1 ≡ z
once z = omega (arith, ints)

nothing_more : (z : ℤ) → z +ℤ pos 0 ≡ z
nothing_more z = omega (arith, ints)

share_one : (ts : List (Var × ℤ)) (w : Var) (c : ℤ) → Each (IsOther (place w)) ts → ¬ (SharePlace ts ((w, c) ∷ []))
share_one [] w c h s = s
share_one (t ∷ ts) w c h (inl (inl e)) = h.0 (sym e)
share_one (t ∷ ts) w c h (inl (inr e)) = e
share_one (t ∷ ts) w c h (inr s) = share_one ts w c h.1 s

-- f puts variables with numbers below n for those below `low`, different ones for different ones
record Renames (low n : ℕ) (f : Substitution) : Type 0 where
  pub name : Var → Var
  pub is : (v : Var) → v.number < low → f v ≡ single (name v) (pos 1)
  pub below : (v : Var) → v.number < low → (name v).number < n
  pub apart : (u v : Var) → u.number < low → v.number < low → name u ≡ name v → u ≡ v

-- ---- sums

module _ (low n : ℕ) (f : Substitution) (r : Renames low n f) where
  terms_fit : (sum : Lin) (from : ℕ) (ts : List (Var × ℤ)) → RisesFrom from ts → TermsBelow low ts
      → ((v : Var) → from ≤ v.number → v.number < low → Each (IsOther (place (r.name v))) sum.terms) → ¬ (TermsAreWide f sum ts)
  terms_fit sum from [] rise below free h = h
  terms_fit sum from (t ∷ ts) rise below free h =
      by_name (f t.0) (r.is t.0 below.0) (terms_fit (plus sum (times t.1 (f t.0))) (suc t.0.number) ts rise.3 below.1) h
    where
      others : (v : Var) → suc t.0.number ≤ v.number → v.number < low → IsOther (place (r.name v)) (r.name t.0)
      others v more less e =
          let is : t.0 ≡ v = r.apart t.0 v below.0 less (same_place (r.name t.0) (r.name v) e) in
          let numbers : t.0.number ≡ v.number = ap (λ (u : Var). u.number) is in
          absurd (omega arith)

      by_name : (a : Lin) → a ≡ single (r.name t.0) (pos 1)
          → (((v : Var) → suc t.0.number ≤ v.number → v.number < low → Each (IsOther (place (r.name v))) (plus sum (times t.1 a)).terms) → ¬ (TermsAreWide f (plus sum (times t.1 a)) ts))
          → ¬ (TimesIsWide t.1 a ⊎ PlusIsWide sum (times t.1 a) ⊎ TermsAreWide f (plus sum (times t.1 a)) ts)
      by_name a a_is later (inl (fits, inl wide)) = wide (subst (FitsSigned w128) (sym (ap (λ (a : Lin). t.1 *ℤ a.constant) a_is ∙ *ℤ-zero t.1)) fits_zero)
      by_name a a_is later (inl (fits, inr wide)) = no_wide (subst (λ (a : Lin). HasWideTerm (map (scale_term t.1) a.terms)) a_is wide)
        where
          no_wide : ¬ ((¬ (FitsSigned w128 (t.1 *ℤ pos 1))) ⊎ ⊥)
          no_wide (inl not_fit) = not_fit (subst (FitsSigned w128) (sym (once t.1)) fits)
          no_wide (inr none) = none
      by_name a a_is later (inr (inl (inl (fits, wide)))) =
          wide (subst (FitsSigned w128) (sym (ap (λ (a : Lin). sum.constant +ℤ t.1 *ℤ a.constant) a_is ∙ ap (λ z. sum.constant +ℤ z) (*ℤ-zero t.1) ∙ nothing_more sum.constant)) fits)
      by_name a a_is later (inr (inl (inr (share, wide)))) =
          share_one sum.terms (r.name t.0) (t.1 *ℤ pos 1) (free t.0 rise.0 below.0) (subst (λ (a : Lin). SharePlace sum.terms (map (scale_term t.1) a.terms)) a_is share)
      by_name a a_is later (inr (inr wide)) =
          later (λ v more less. subst (λ (a : Lin). Each (IsOther (place (r.name v))) (plus sum (times t.1 a)).terms) (sym a_is)
          (each-merge (IsOther (place (r.name v))) sum.terms ((r.name t.0, t.1 *ℤ pos 1) ∷ []) (free v (omega arith) less) (others v more less, tt))) wide

  lin_fits : (a : Lin) → LinIsOrdered a → LinBelow low a → ¬ (SumIsWide f a)
  lin_fits a rise below = terms_fit (number a.constant) 0 a.terms rise below (λ v more less. tt)

-- ---- formulas

renames_itself : (low n : ℕ) → low ≤ n → Renames low n itself
renames_itself low n h = record { name = λ v. v; is = λ v less. refl; below = λ v less. omega arith; apart = λ u v less more e. e }

abbrev named : ℕ → Var → (Var → Var) → Var → Var
named n u name v = if same u v then number_variable n else name v

renames_instead : (low n : ℕ) (f : Substitution) (u : Var) → Renames low n f → Renames low (suc n) (instead u (variable n) f)
renames_instead low n f u r = record { name = named n u r.name; is = λ v less. is_named v less (same u v); below = λ v less. named_below v less (same u v); apart = λ v w less more. named_apart v w less more (same u v) refl (same u w) refl }
  where
    is_named : (v : Var) → v.number < low → (b : Bool) → (if b then variable n else f v) ≡ single (if b then number_variable n else r.name v) (pos 1)
    is_named v less true = refl
    is_named v less false = r.is v less

    named_below : (v : Var) → v.number < low → (b : Bool) → (if b then number_variable n else r.name v).number < suc n
    named_below v less true = omega arith
    named_below v less false = let h = r.below v less in omega arith

    not_new : (v : Var) → v.number < low → ¬ (number_variable n ≡ r.name v)
    not_new v less e = let h = r.below v less in let same_number : n ≡ (r.name v).number = ap (λ (w : Var). w.number) e in omega arith

    named_apart : (v w : Var) → v.number < low → w.number < low → (b : Bool) → same u v ≡ b → (c : Bool) → same u w ≡ c
        → (if b then number_variable n else r.name v) ≡ (if c then number_variable n else r.name w) → v ≡ w
    named_apart v w less more true b_is true c_is e = sym (same-eq u v b_is) ∙ same-eq u w c_is
    named_apart v w less more true b_is false c_is e = absurd (not_new w more e)
    named_apart v w less more false b_is true c_is e = absurd (not_new v less (sym e))
    named_apart v w less more false b_is false c_is e = r.apart v w less more e

either_fits : {A B : Type 0} → ¬ A → ¬ B → ¬ (A ⊎ B)
either_fits h k (inl a) = h a
either_fits h k (inr b) = k b

module _ (low n : ℕ) (f : Substitution) (r : Renames low n f) where
  two_fit : (a b : Lin) → All LinIsOrdered (a ∷ b ∷ []) → LinBelow low a × LinBelow low b → ¬ (SumIsWide f a ⊎ SumIsWide f b)
  two_fit a b order below =
      either_fits (lin_fits low n f r a (All-first LinIsOrdered a (b ∷ []) order) below.0)
      (lin_fits low n f r b (All-first LinIsOrdered b [] (All-later LinIsOrdered a (b ∷ []) order)) below.1)

substituted_fits : (low n : ℕ) (f : Substitution) → Renames low n f → (p : Assertion) → AssertionIsOrdered p → Below low p → ¬ (SubstitutedIsWide f n p)
substituted_fits low n f r truth order below h = h
substituted_fits low n f r (eq a b) order below h = two_fit low n f r a b order below h
substituted_fits low n f r (lt a b) order below h = two_fit low n f r a b order below h
substituted_fits low n f r (le a b) order below h = two_fit low n f r a b order below h
substituted_fits low n f r (divides d a) order below h = lin_fits low n f r a (All-first LinIsOrdered a [] order) below h
substituted_fits low n f r (bag_eq a b) order below h = h
substituted_fits low n f r (subset a b) order below h = h
substituted_fits low n f r (member a b) order below h = h
substituted_fits low n f r (all_of u b p) order below h = h
substituted_fits low n f r (negation p) order below h = substituted_fits low n f r p order below h
substituted_fits low n f r (both p q) order below h = either_fits (substituted_fits low n f r p (order_left p q order) below.0) (substituted_fits low n f r q (order_right p q order) below.1) h
substituted_fits low n f r (either p q) order below h = either_fits (substituted_fits low n f r p (order_left p q order) below.0) (substituted_fits low n f r q (order_right p q order) below.1) h
substituted_fits low n f r (exists u p) order below h = substituted_fits low (suc n) (instead u (variable n) f) (renames_instead low n f u r) p order below.1 h
substituted_fits low n f r (forall u p) order below h = substituted_fits low (suc n) (instead u (variable n) f) (renames_instead low n f u r) p order below.1 h

instance_fits : (low end : ℕ) (u : Var) (a : Lin) (p : Assertion) → low ≤ end → AssertionIsOrdered p → Below low p → ¬ (InstanceIsWide stated u a end p)
instance_fits low end u a p h order below = substituted_fits low (suc end) (instead u (variable end) itself) (renames_instead low end itself u (renames_itself low end h)) p order below

module _ (l : Layout) (low end : ℕ) (enough : low ≤ end) where
  reduced_fits : (asserted : Bool) (p : Assertion) (new : ℕ) → AssertionIsOrdered p → Below low p → ¬ (ReducedIsWide l stated end asserted p new)
  reduced_fits asserted truth new order below h = h
  reduced_fits asserted (eq a b) new order below h = h
  reduced_fits asserted (lt a b) new order below h = h
  reduced_fits asserted (le a b) new order below h = h
  reduced_fits asserted (divides d a) new order below h = h
  reduced_fits asserted (bag_eq a b) new order below h = h
  reduced_fits asserted (subset a b) new order below h = h
  reduced_fits asserted (member a b) new order below h = h
  reduced_fits true (all_of u b p) new order below (i, (less, h)) = instance_fits low end u (element l i) p enough (order_body u b p order) below.2 h
  reduced_fits false (all_of u b p) new order below h = instance_fits low end u (element l (length l.listed + new)) p enough (order_body u b p order) below.2 h
  reduced_fits asserted (negation p) new order below h = reduced_fits (not asserted) p new order below h
  reduced_fits asserted (both p q) new order below h = either_fits (reduced_fits asserted p new (order_left p q order) below.0) (reduced_fits asserted q (new + denied asserted p) (order_right p q order) below.1) h
  reduced_fits asserted (either p q) new order below h = either_fits (reduced_fits asserted p new (order_left p q order) below.0) (reduced_fits asserted q (new + denied asserted p) (order_right p q order) below.1) h
  reduced_fits asserted (exists u p) new order below h = h
  reduced_fits asserted (forall u p) new order below h = h

-- no number of the reduction whose instances are stated passes 128 bits
pub stated_fits : (start : ℕ) (p : Assertion) → AssertionIsOrdered p → Below start p → ¬ (ReductionIsWide stated start p)
stated_fits start p order below = reduced_fits (layout start p) start (after (layout start p) p) (omega arith) true p 0 order below

-- the same of a formula
pub formula_fits : (start : ℕ) (f : Pure) → IsOrdered f → top_of f < start → ¬ (ReductionIsWide stated start (assertion_of f))
formula_fits start f order above =
    stated_fits start (assertion_of f) ((order_is f).0 order) (from_top start (assertion_of f) (subst (λ n. n < start) (top_of-is f) above))
