-- The reduction has no bag literals.
use Rattle.std.proofs.Common.{◌≡◌, ℕ, zero, suc, ◌+◌, Bool, true, false, ◌||◌, length, refl}
use Rattle.std.proofs.lemmas.Bool.{and_parts}
use Rattle.hs_pure.specs.declared.var.Var.{Var}
use Rattle.hs_pure.specs.declared.lin.Lin.{Lin}
use Rattle.hs_pure.specs.Assertion.{BagTerm, empty, name, one, union, inter, diff, Assertion, truth, eq, lt, le, divides, bag_eq, subset, member, all_of, negation, both, either, exists, forall}
use Rattle.hs_elimination.specs.Ordered.{has_bag_literal}
use Rattle.hs_reduction.specs.Layout.{bags_plain, variable, Layout, layout, width, element, bag_compounds, compounds, denied, after}
use Rattle.hs_reduction.specs.Instance.{Substitution, itself, instead, substituted, Instance, replaced, stated, instance}
use Rattle.hs_reduction.specs.Reduction.{all_below, defined, all_defined, both_defined, reduced, equal_at, within_at, held_at, equal_counts, is_count, are_counts}
use Rattle.hs_reduction.specs.Laws.{ReductionHasNoBags}
use Rattle.hs_reduction.proofs.Back.{none_under}

none_of : (a b : Bool) → a ≡ false → b ≡ false → (a || b) ≡ false
none_of true b e f = e
none_of false b e f = f

plain-all_below : (n : ℕ) (f : ℕ → Assertion) → ((i : ℕ) → has_bag_literal (f i) ≡ false) → has_bag_literal (all_below n f) ≡ false
plain-all_below zero f h = refl
plain-all_below (suc zero) f h = h 0
plain-all_below (suc (suc n)) f h = none_of _ _ (plain-all_below (suc n) f h) (h (suc n))

plain-substituted : (f : Substitution) (n : ℕ) (p : Assertion) → has_bag_literal (substituted f n p) ≡ false
plain-substituted f n truth = refl
plain-substituted f n (eq a b) = refl
plain-substituted f n (lt a b) = refl
plain-substituted f n (le a b) = refl
plain-substituted f n (divides d a) = refl
plain-substituted f n (bag_eq a b) = refl
plain-substituted f n (subset a b) = refl
plain-substituted f n (member a b) = refl
plain-substituted f n (all_of u b p) = refl
plain-substituted f n (negation p) = plain-substituted f n p
plain-substituted f n (both p q) = none_of _ _ (plain-substituted f n p) (plain-substituted f n q)
plain-substituted f n (either p q) = none_of _ _ (plain-substituted f n p) (plain-substituted f n q)
plain-substituted f n (exists u p) = plain-substituted (instead u (variable n) f) (suc n) p
plain-substituted f n (forall u p) = plain-substituted (instead u (variable n) f) (suc n) p

plain-instance : (way : Instance) (u : Var) (a : Lin) (n : ℕ) (p : Assertion) → has_bag_literal (instance way u a n p) ≡ false
plain-instance replaced u a n p = plain-substituted (instead u a itself) n p
plain-instance stated u a n p = plain-substituted (instead u (variable n) itself) (suc n) p

module _ (l : Layout) where
  plain-defined : (block : ℕ) (b : BagTerm) (i : ℕ) → has_bag_literal (defined l block b i) ≡ false
  plain-defined block empty i = refl
  plain-defined block (name v) i = refl
  plain-defined block (one a) i = refl
  plain-defined block (union a b) i = none_of _ _ (none_of _ _ (plain-defined block a i) (plain-defined (block + bag_compounds a) b i)) refl
  plain-defined block (inter a b) i = none_of _ _ (none_of _ _ (plain-defined block a i) (plain-defined (block + bag_compounds a) b i)) refl
  plain-defined block (diff a b) i = none_of _ _ (none_of _ _ (plain-defined block a i) (plain-defined (block + bag_compounds a) b i)) refl

  plain-all_defined : (block : ℕ) (b : BagTerm) → has_bag_literal (all_defined l block b) ≡ false
  plain-all_defined block b = plain-all_below (width l) (defined l block b) (plain-defined block b)

  plain-both_defined : (block : ℕ) (a b : BagTerm) → has_bag_literal (both_defined l block a b) ≡ false
  plain-both_defined block a b = none_of _ _ (plain-all_defined block a) (plain-all_defined (block + bag_compounds a) b)

  module _ (way : Instance) (end : ℕ) where
    plain-reduced : (asserted : Bool) (p : Assertion) (new block : ℕ) → bags_plain p ≡ true → has_bag_literal (reduced l way end asserted p new block) ≡ false
    plain-reduced true truth new block h = refl
    plain-reduced false truth new block h = refl
    plain-reduced true (eq a b) new block h = refl
    plain-reduced false (eq a b) new block h = refl
    plain-reduced true (lt a b) new block h = refl
    plain-reduced false (lt a b) new block h = refl
    plain-reduced true (le a b) new block h = refl
    plain-reduced false (le a b) new block h = refl
    plain-reduced true (divides d a) new block h = refl
    plain-reduced false (divides d a) new block h = refl
    plain-reduced true (exists u p) new block h = none_under (has_bag_literal p) h
    plain-reduced false (exists u p) new block h = none_under (has_bag_literal p) h
    plain-reduced true (forall u p) new block h = none_under (has_bag_literal p) h
    plain-reduced false (forall u p) new block h = none_under (has_bag_literal p) h
    plain-reduced true (bag_eq a b) new block h = none_of _ _ (plain-both_defined block a b) (plain-all_below (width l) (equal_at l block a b) (λ i. refl))
    plain-reduced false (bag_eq a b) new block h = none_of _ _ (plain-both_defined block a b) refl
    plain-reduced true (subset a b) new block h = none_of _ _ (plain-both_defined block a b) (plain-all_below (width l) (within_at l block a b) (λ i. refl))
    plain-reduced false (subset a b) new block h = none_of _ _ (plain-both_defined block a b) refl
    plain-reduced true (member a b) new block h = none_of _ _ (plain-all_defined block b) refl
    plain-reduced false (member a b) new block h = none_of _ _ (plain-all_defined block b) refl
    plain-reduced true (all_of u b p) new block h =
        none_of _ _ (plain-all_defined block b) (plain-all_below (width l) (held_at l way end block u b p) (λ i. plain-instance way u (element l i) end p))
    plain-reduced false (all_of u b p) new block h =
        none_of _ _ (plain-all_defined block b) (plain-instance way u (element l (length l.listed + new)) end p)
    plain-reduced true (negation p) new block h = plain-reduced false p new block h
    plain-reduced false (negation p) new block h = plain-reduced true p new block h
    plain-reduced true (both p q) new block h =
        let (f, g) = and_parts (bags_plain p) (bags_plain q) h in
        none_of _ _ (plain-reduced true p new block f) (plain-reduced true q (new + denied true p) (block + compounds p) g)
    plain-reduced false (both p q) new block h =
        let (f, g) = and_parts (bags_plain p) (bags_plain q) h in
        none_of _ _ (plain-reduced false p new block f) (plain-reduced false q (new + denied false p) (block + compounds p) g)
    plain-reduced true (either p q) new block h =
        let (f, g) = and_parts (bags_plain p) (bags_plain q) h in
        none_of _ _ (plain-reduced true p new block f) (plain-reduced true q (new + denied true p) (block + compounds p) g)
    plain-reduced false (either p q) new block h =
        let (f, g) = and_parts (bags_plain p) (bags_plain q) h in
        none_of _ _ (plain-reduced false p new block f) (plain-reduced false q (new + denied false p) (block + compounds p) g)

  plain-counts : (block : ℕ) → has_bag_literal (are_counts l block) ≡ false
  plain-counts block = plain-all_below (width l) (is_count l block) (λ i. plain-all_below i (equal_counts l block i) (λ j. refl))

pub reduction_has_no_bags : ReductionHasNoBags
reduction_has_no_bags way start p h =
    let l = layout start p in
    none_of _ _ (plain-all_below (length l.bags) (are_counts l) (plain-counts l)) (plain-reduced l way (after l p) true p 0 (length l.bags) h)
