-- The reduction of a question, from what the program finds of its sides.
use Rattle.std.proofs.Common.{◌≡◌, Bool, true, false, cond, ◌⊎◌, inl, inr, List, length, Option, None, Some, MatchOption, refl, sym, ap, ◌∙◌, subst, ◌&&◌}
use Rattle.hs_pure.specs.declared.lin.Lin.{Lin}
use Rattle.hs_pure.specs.Assertion.{Assertion}
use Rattle.hs_unit.specs.declared.reduction.Reduction.{Reduction}
use Rattle.hs_unit.specs.Sides.{Comparison, forms, comparisons, are_zero, HasWideForm}
use Rattle.hs_unit.specs.Reduction.{all_small, steps, start, reduced}
use Rattle.hs_unit.specs.Question.{reduced_sides, reduction}
use Rattle.hs_unit.proofs.Members.{left-equations, equations, wide-small, and_false}

module _ (a b : Assertion) where
  by_sides : (o : Option (List Comparison)) → comparisons a ≡ o → (p : Option (List Comparison)) → comparisons b ≡ p → reduction a b ≡ reduced_sides (equations o) p
  by_sides o e p f = λ i. reduced_sides ((left-equations a ∙ ap equations e) i) (f i)

  left-none : comparisons a ≡ None → reduction a b ≡ None
  left-none e = by_sides None e (comparisons b) refl

  none_of : (o : Option (List Lin)) → reduced_sides o None ≡ None
  none_of None = refl
  none_of (Some fs) = refl

  right-none : comparisons b ≡ None → reduction a b ≡ None
  right-none e = by_sides (comparisons a) refl None e ∙ none_of (equations (comparisons a))

  pub not-zero : (cs : List Comparison) → comparisons a ≡ Some cs → are_zero cs ≡ false → reduction a b ≡ None
  not-zero cs e z = by_sides (Some cs) e (comparisons b) refl ∙ (λ i. reduced_sides (cond {A = Option (List Lin)} (z i) (Some (forms cs)) None) (comparisons b))

  pub reduction-is : (cs ds : List Comparison) → comparisons a ≡ Some cs → are_zero cs ≡ true → comparisons b ≡ Some ds → reduction a b ≡ reduced (forms cs) ds
  reduction-is cs ds e z f = by_sides (Some cs) e (Some ds) f ∙ (λ i. reduced_sides (cond {A = Option (List Lin)} (z i) (Some (forms cs)) None) (Some ds))

  not_both : (fs : List Lin) (ds : List Comparison) (c : Bool) → c ≡ false → cond c (steps (length fs) (start fs ds) fs) None ≡ None
  not_both fs ds c e = (λ i. cond {A = Option Reduction} (e i) (steps (length fs) (start fs ds) fs) None)

  first_false : (c d : Bool) → c ≡ false → (c && d) ≡ false
  first_false true d h = absurd cc
  first_false false d h = refl

  -- where a form is wide, all of them are not small
  not_small : ((cs ds : List Comparison) → comparisons a ≡ Some cs → comparisons b ≡ Some ds → (all_small (forms cs) && all_small (forms ds)) ≡ false) → reduction a b ≡ None
  not_small large = by_left (comparisons a) refl (comparisons b) refl
    where
      by_zero : (cs ds : List Comparison) → comparisons a ≡ Some cs → comparisons b ≡ Some ds → (z : Bool) → are_zero cs ≡ z → reduction a b ≡ None
      by_zero cs ds e f true z = reduction-is cs ds e z f ∙ not_both (forms cs) ds (all_small (forms cs) && all_small (forms ds)) (large cs ds e f)
      by_zero cs ds e f false z = not-zero cs e z

      by_left : (o : Option (List Comparison)) → comparisons a ≡ o → (p : Option (List Comparison)) → comparisons b ≡ p → reduction a b ≡ None
      by_left None e p f = left-none e
      by_left (Some cs) e None f = right-none f
      by_left (Some cs) e (Some ds) f = by_zero cs ds e f (are_zero cs) refl

  pub no-left : ((comparisons a ≡ None) ⊎ HasWideForm a) → reduction a b ≡ None
  no-left (inl e) = left-none e
  no-left (inr w) = not_small (λ cs ds e f. first_false (all_small (forms cs)) (all_small (forms ds)) (wide-small a cs e w))

  pub no-right : ((comparisons b ≡ None) ⊎ HasWideForm b) → reduction a b ≡ None
  no-right (inl e) = right-none e
  no-right (inr w) = not_small (λ cs ds e f. and_false (all_small (forms cs)) (all_small (forms ds)) (wide-small b ds f w))

-- ---- as the program finds it

-- what the program finds of a side
abbrev pub IsSide : Assertion → Option (List Comparison) → Type 0
IsSide p o = MatchOption o ((comparisons p ≡ None) ⊎ HasWideForm p) (λ cs. comparisons p ≡ Some cs)

found_none : (p : Assertion) (o : Option (List Comparison)) → IsSide p o → o ≡ None → (comparisons p ≡ None) ⊎ HasWideForm p
found_none p o h e = subst (IsSide p) e h

pub found_some : (p : Assertion) (o : Option (List Comparison)) (cs : List Comparison) → IsSide p o → o ≡ Some cs → comparisons p ≡ Some cs
found_some p o cs h e = subst (IsSide p) e h

module _ (a b : Assertion) where
  pub none-of_left : (o : Option (List Comparison)) → IsSide a o → o ≡ None → reduction a b ≡ None
  none-of_left o h e = no-left a b (found_none a o h e)

  pub none-of_right : (o : Option (List Comparison)) → IsSide b o → o ≡ None → reduction a b ≡ None
  none-of_right o h e = no-right a b (found_none b o h e)

  module _ (o p : Option (List Comparison)) (cs ds : List Comparison) (h : IsSide a o) (e : o ≡ Some cs) (k : IsSide b p) (f : p ≡ Some ds) where
    pub found-reduction : are_zero cs ≡ true → (fs : List Lin) → fs ≡ forms cs → (r : Option Reduction) → r ≡ reduced fs ds → reduction a b ≡ r
    found-reduction z fs l r is = reduction-is a b cs ds (found_some a o cs h e) z (found_some b p ds k f) ∙ ap (λ (gs : List Lin). reduced gs ds) (sym l) ∙ sym is
