-- What occurs is free or bound.
use Rattle.std.proofs.Common.{◌≡◌, Bool, true, false, not, ◌&&◌, ◌||◌, IsTrue, inl, inr, List, [], ◌∷◌, refl, sym, ap, ◌∙◌, subst}
use Rattle.std.specs.List.{list_any}
use Rattle.std.proofs.lemmas.Bool.{or_cases, and_parts}
use Rattle.hs_pure.specs.declared.var.Var.{Var}
use Rattle.hs_pure.specs.declared.pure.Pure.{Pure}
use Rattle.hs_pure.specs.Stack.{same}
use Rattle.hs_pure.specs.Assertion.{Assertion, truth, eq, lt, le, divides, bag_eq, subset, member, all_of, negation, both, either, exists, forall, assertion_of}
use Rattle.hs_pure.specs.Occurs.{in_lin, is_free, is_bound, occurs}
use Rattle.hs_pure.specs.Mirror.{in_bag_term, is_free_in, is_bound_in, occurs_in}
use Rattle.hs_pure.proofs.Vars.{or_left, or_right}
use Rattle.hs_pure.proofs.Renamed.{free-occurs_of}
use Rattle.hs_pure.proofs.Mirrored.{is_free-is, is_bound-is, occurs-is}
use Rattle.hs_heap.specs.declared.formula.Disjunct.{Disjunct}
use Rattle.hs_heap.specs.Meaning.{is_in}
use Rattle.hs_heap.specs.Variables.{in_atom, is_free_in_disjunct, occurs_in_disjunct}
use Rattle.hs_heap.specs.Renamed.{is_bound_in_disjunct}

none : (b : Bool) → b ≡ (b || false)
none true = refl
none false = refl

two : (f b g c : Bool) → ((f || b) || (g || c)) ≡ ((f || g) || (b || c))
two true b g c = refl
two false true true c = refl
two false true false c = refl
two false false true c = refl
two false false false c = refl

under : (m s f b : Bool) → (m || (s || (f || b))) ≡ ((m || (not s && f)) || (s || b))
under true s f b = refl
under false true f b = refl
under false false true b = refl
under false false false b = refl

module _ (v : Var) where
  splits : (p : Assertion) → occurs_in v p ≡ (is_free_in v p || is_bound_in v p)
  splits truth = refl
  splits (eq a b) = none (in_lin v a || in_lin v b)
  splits (lt a b) = none (in_lin v a || in_lin v b)
  splits (le a b) = none (in_lin v a || in_lin v b)
  splits (divides d a) = none (in_lin v a)
  splits (bag_eq a b) = none (in_bag_term v a || in_bag_term v b)
  splits (subset a b) = none (in_bag_term v a || in_bag_term v b)
  splits (member a b) = none (in_lin v a || in_bag_term v b)
  splits (all_of u b p) = ap (λ o. in_bag_term v b || (same u v || o)) (splits p) ∙ under (in_bag_term v b) (same u v) (is_free_in v p) (is_bound_in v p)
  splits (negation p) = splits p
  splits (both p q) = (λ i. splits p i || splits q i) ∙ two (is_free_in v p) (is_bound_in v p) (is_free_in v q) (is_bound_in v q)
  splits (either p q) = (λ i. splits p i || splits q i) ∙ two (is_free_in v p) (is_bound_in v p) (is_free_in v q) (is_bound_in v q)
  splits (exists u p) = ap (λ o. same u v || o) (splits p) ∙ under false (same u v) (is_free_in v p) (is_bound_in v p)
  splits (forall u p) = ap (λ o. same u v || o) (splits p) ∙ under false (same u v) (is_free_in v p) (is_bound_in v p)

  pub occurs-splits : (p : Pure) → occurs v p ≡ (is_free v p || is_bound v p)
  occurs-splits p = occurs-is v p ∙ splits (assertion_of p) ∙ (λ i. sym (is_free-is v p) i || sym (is_bound-is v p) i)

  pub bound-occurs_of : (p : Pure) → IsTrue (is_bound v p) → IsTrue (occurs v p)
  bound-occurs_of p e = subst IsTrue (sym (occurs-splits p)) (or_right (is_free v p) (is_bound v p) e)

-- ---- disjuncts

module _ (p q : Pure → Bool) (within : (x : Pure) → IsTrue (p x) → IsTrue (q x)) where
  some_within : (xs : List Pure) → IsTrue (list_any p xs) → IsTrue (list_any q xs)
  some_within [] e = e
  some_within (x ∷ xs) e = elim (or_cases (p x) (list_any p xs) e) [ inl k ↦ or_left (q x) (list_any q xs) (within x k) | inr k ↦ or_right (q x) (list_any q xs) (some_within xs k) ]

module _ (v : Var) (d : Disjunct) where
  -- what stands outside of the binders occurs
  pub stands_occurs : IsTrue (list_any (in_atom v) d.atoms || list_any (is_free v) d.pure) → IsTrue (occurs_in_disjunct v d)
  stands_occurs e = or_right (is_in v d.bound) (list_any (in_atom v) d.atoms || list_any (occurs v) d.pure) (elim (or_cases (list_any (in_atom v) d.atoms) (list_any (is_free v) d.pure) e) [
    | inl k ↦ or_left (list_any (in_atom v) d.atoms) (list_any (occurs v) d.pure) k
    | inr k ↦ or_right (list_any (in_atom v) d.atoms) (list_any (occurs v) d.pure) (some_within (is_free v) (occurs v) (λ p. free-occurs_of p v) d.pure k)
  ])

  pub free_occurs : IsTrue (is_free_in_disjunct v d) → IsTrue (occurs_in_disjunct v d)
  free_occurs e = stands_occurs (and_parts (not (is_in v d.bound)) (list_any (in_atom v) d.atoms || list_any (is_free v) d.pure) e).1

  pub bound_occurs : IsTrue (is_bound_in_disjunct v d) → IsTrue (occurs_in_disjunct v d)
  bound_occurs e = elim (or_cases (is_in v d.bound) (list_any (is_bound v) d.pure) e) [
    | inl k ↦ or_left (is_in v d.bound) (list_any (in_atom v) d.atoms || list_any (occurs v) d.pure) k
    | inr k ↦ or_right (is_in v d.bound) (list_any (in_atom v) d.atoms || list_any (occurs v) d.pure)
        (or_right (list_any (in_atom v) d.atoms) (list_any (occurs v) d.pure) (some_within (is_bound v) (occurs v) (bound-occurs_of v) d.pure k))
  ]
