-- The variables of an assertion and its renaming, as of a formula.
use Rattle.std.specs.Prelude.{ℕ, max, Bool, false, not, ◌&&◌, ◌||◌}
use Rattle.hs_pure.specs.declared.var.Var.{Var}
use Rattle.hs_pure.specs.Stack.{same}
use Rattle.hs_pure.specs.Assertion.{BagTerm, empty, name, one, union, inter, diff, Assertion, truth, eq, lt, le, divides, bag_eq, subset, member, all_of, negation, both, either, exists, forall}
use Rattle.hs_pure.specs.Occurs.{in_lin, lin_top}
use Rattle.hs_pure.specs.Rename.{renamed_lin}

module _ (v : Var) where
  abbrev pub in_bag_term : BagTerm → Bool
  in_bag_term empty = false
  in_bag_term (name u) = same u v
  in_bag_term (one a) = in_lin v a
  in_bag_term (union a b) = in_bag_term a || in_bag_term b
  in_bag_term (inter a b) = in_bag_term a || in_bag_term b
  in_bag_term (diff a b) = in_bag_term a || in_bag_term b

  -- whether v occurs free
  abbrev pub is_free_in : Assertion → Bool
  is_free_in truth = false
  is_free_in (eq a b) = in_lin v a || in_lin v b
  is_free_in (lt a b) = in_lin v a || in_lin v b
  is_free_in (le a b) = in_lin v a || in_lin v b
  is_free_in (divides d a) = in_lin v a
  is_free_in (bag_eq a b) = in_bag_term a || in_bag_term b
  is_free_in (subset a b) = in_bag_term a || in_bag_term b
  is_free_in (member a b) = in_lin v a || in_bag_term b
  is_free_in (all_of u b p) = in_bag_term b || (not (same u v) && is_free_in p)
  is_free_in (negation p) = is_free_in p
  is_free_in (both p q) = is_free_in p || is_free_in q
  is_free_in (either p q) = is_free_in p || is_free_in q
  is_free_in (exists u p) = not (same u v) && is_free_in p
  is_free_in (forall u p) = not (same u v) && is_free_in p

  -- whether a quantifier or an `all_of` binds v
  abbrev pub is_bound_in : Assertion → Bool
  is_bound_in truth = false
  is_bound_in (eq a b) = false
  is_bound_in (lt a b) = false
  is_bound_in (le a b) = false
  is_bound_in (divides d a) = false
  is_bound_in (bag_eq a b) = false
  is_bound_in (subset a b) = false
  is_bound_in (member a b) = false
  is_bound_in (all_of u b p) = same u v || is_bound_in p
  is_bound_in (negation p) = is_bound_in p
  is_bound_in (both p q) = is_bound_in p || is_bound_in q
  is_bound_in (either p q) = is_bound_in p || is_bound_in q
  is_bound_in (exists u p) = same u v || is_bound_in p
  is_bound_in (forall u p) = same u v || is_bound_in p

  -- whether v occurs at all
  abbrev pub occurs_in : Assertion → Bool
  occurs_in truth = false
  occurs_in (eq a b) = in_lin v a || in_lin v b
  occurs_in (lt a b) = in_lin v a || in_lin v b
  occurs_in (le a b) = in_lin v a || in_lin v b
  occurs_in (divides d a) = in_lin v a
  occurs_in (bag_eq a b) = in_bag_term a || in_bag_term b
  occurs_in (subset a b) = in_bag_term a || in_bag_term b
  occurs_in (member a b) = in_lin v a || in_bag_term b
  occurs_in (all_of u b p) = in_bag_term b || (same u v || occurs_in p)
  occurs_in (negation p) = occurs_in p
  occurs_in (both p q) = occurs_in p || occurs_in q
  occurs_in (either p q) = occurs_in p || occurs_in q
  occurs_in (exists u p) = same u v || occurs_in p
  occurs_in (forall u p) = same u v || occurs_in p

abbrev pub bag_term_top : BagTerm → ℕ
bag_term_top empty = 0
bag_term_top (name u) = u.number
bag_term_top (one a) = lin_top a
bag_term_top (union a b) = max (bag_term_top a) (bag_term_top b)
bag_term_top (inter a b) = max (bag_term_top a) (bag_term_top b)
bag_term_top (diff a b) = max (bag_term_top a) (bag_term_top b)

-- the greatest number that occurs, or 0
abbrev pub assertion_top : Assertion → ℕ
assertion_top truth = 0
assertion_top (eq a b) = max (lin_top a) (lin_top b)
assertion_top (lt a b) = max (lin_top a) (lin_top b)
assertion_top (le a b) = max (lin_top a) (lin_top b)
assertion_top (divides d a) = lin_top a
assertion_top (bag_eq a b) = max (bag_term_top a) (bag_term_top b)
assertion_top (subset a b) = max (bag_term_top a) (bag_term_top b)
assertion_top (member a b) = max (lin_top a) (bag_term_top b)
assertion_top (all_of u b p) = max (bag_term_top b) (max u.number (assertion_top p))
assertion_top (negation p) = assertion_top p
assertion_top (both p q) = max (assertion_top p) (assertion_top q)
assertion_top (either p q) = max (assertion_top p) (assertion_top q)
assertion_top (exists u p) = max u.number (assertion_top p)
assertion_top (forall u p) = max u.number (assertion_top p)

module _ (ρ : Var → Var) where
  abbrev pub renamed_term : BagTerm → BagTerm
  renamed_term empty = empty
  renamed_term (name v) = name (ρ v)
  renamed_term (one a) = one (renamed_lin ρ a)
  renamed_term (union a b) = union (renamed_term a) (renamed_term b)
  renamed_term (inter a b) = inter (renamed_term a) (renamed_term b)
  renamed_term (diff a b) = diff (renamed_term a) (renamed_term b)

  -- the assertion with ρ v in the place of each v, bound ones too
  abbrev pub renamed_assertion : Assertion → Assertion
  renamed_assertion truth = truth
  renamed_assertion (eq a b) = eq (renamed_lin ρ a) (renamed_lin ρ b)
  renamed_assertion (lt a b) = lt (renamed_lin ρ a) (renamed_lin ρ b)
  renamed_assertion (le a b) = le (renamed_lin ρ a) (renamed_lin ρ b)
  renamed_assertion (divides d a) = divides d (renamed_lin ρ a)
  renamed_assertion (bag_eq a b) = bag_eq (renamed_term a) (renamed_term b)
  renamed_assertion (subset a b) = subset (renamed_term a) (renamed_term b)
  renamed_assertion (member a b) = member (renamed_lin ρ a) (renamed_term b)
  renamed_assertion (all_of u b p) = all_of (ρ u) (renamed_term b) (renamed_assertion p)
  renamed_assertion (negation p) = negation (renamed_assertion p)
  renamed_assertion (both p q) = both (renamed_assertion p) (renamed_assertion q)
  renamed_assertion (either p q) = either (renamed_assertion p) (renamed_assertion q)
  renamed_assertion (exists u p) = exists (ρ u) (renamed_assertion p)
  renamed_assertion (forall u p) = forall (ρ u) (renamed_assertion p)
