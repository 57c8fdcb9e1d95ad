-- The conditions of a formula, for its parts, and what each quantifier becomes.
use Rattle.std.proofs.Common.{◌≡◌, ℕ, ◌<◌, Bool, true, false, ◌||◌, IsTrue, ℤ, List, [], ◌∷◌, map, ◌⊎◌, inl, inr, refl, sym, ap, ◌∙◌, subst}
use Rattle.std.specs.List.{All, list_any}
use Rattle.std.proofs.lemmas.List.Elements.{All-nil, All-cons}
use Rattle.hs_pure.specs.declared.var.Var.{Var}
use Rattle.hs_pure.specs.declared.lin.Lin.{Lin}
use Rattle.hs_pure.specs.declared.bag.Bag.{Bag}
use Rattle.hs_pure.specs.declared.pure.Pure.{Pure}
use Rattle.hs_pure.specs.declared.pure.Pure.TheVariants as pure_of
use Rattle.hs_pure.specs.Assertion.{Assertion, eq, lt, le, divides, bag_eq, subset, member, all_of, negation, exists, forall, bag_term_of, pure_level, assertion_of}
use Rattle.hs_pure.specs.Occurs.{BagUse, bag_use, bag_use_level, has_bags}
use Rattle.hs_pure.specs.Rename.{sums, sums_level}
use Rattle.hs_pure.specs.Sums.{LinIsOrdered, IsOrdered}
use Rattle.hs_pure.proofs.Views.{fold-Eq, fold-Lt, fold-Le, fold-Divides, fold-BagEq, fold-Subset, fold-Member, fold-AllOf, fold-Not, fold-And, fold-Or, fold-Exists, fold-Forall}
use Rattle.hs_pure.proofs.Lists.{All-pieces}
use Rattle.hs_elimination.specs.Normal.{is_simple}
use Rattle.hs_elimination.specs.Ordered.{AssertionIsOrdered}
use Rattle.hs_elimination.specs.Elimination.{without_variable}
use Rattle.hs_elimination.specs.Decided.{without_quantifiers}
use Rattle.hs_elimination.proofs.Order.{order_is, bags_are}
use Rattle.hs_elimination.proofs.Decided.{simple-without, ordered-without}
use Rattle.hs_quantifiers.specs.Size.{stage_size, quantifier_size}
use Rattle.hs_quantifiers.specs.Span.{HasWideStages, HasWideQuantifiers}
use Rattle.hs_quantifiers.proofs.Stages.{max_left, max_right}

-- ---- bag literals

pub bags-Not : (p q : Pure) → p ≡ pure_of.Not q → has_bags p ≡ false → has_bags q ≡ false
bags-Not p q is h = sym (ap (λ u. u.has) (ap bag_use is ∙ fold-Not bag_use_level q)) ∙ h

pub bags-Exists : (p : Pure) (u : Var) (q : Pure) → p ≡ pure_of.Exists u q → has_bags p ≡ false → has_bags q ≡ false
bags-Exists p u q is h = sym (ap (λ u. u.has) (ap bag_use is ∙ fold-Exists bag_use_level u q)) ∙ h

pub bags-Forall : (p : Pure) (u : Var) (q : Pure) → p ≡ pure_of.Forall u q → has_bags p ≡ false → has_bags q ≡ false
bags-Forall p u q is h = sym (ap (λ u. u.has) (ap bag_use is ∙ fold-Forall bag_use_level u q)) ∙ h

neither_left : (a b : Bool) → (a || b) ≡ false → a ≡ false
neither_left true b h = absurd cc
neither_left false b h = refl

neither_right : (a b : Bool) → (a || b) ≡ false → b ≡ false
neither_right true b h = absurd cc
neither_right false b h = h

each_none : (ps : List Pure) → list_any (λ (u : BagUse). u.has) (map bag_use ps) ≡ false → All (λ p. has_bags p ≡ false) ps
each_none [] h = All-nil _
each_none (p ∷ ps) h = All-cons (λ p. has_bags p ≡ false) p ps (neither_left _ _ h) (each_none ps (neither_right (has_bags p) _ h))

pub bags-And : (p : Pure) (ps : List Pure) → p ≡ pure_of.And ps → has_bags p ≡ false → All (λ p. has_bags p ≡ false) ps
bags-And p ps is h = each_none ps (sym (ap (λ u. u.has) (ap bag_use is ∙ fold-And bag_use_level ps)) ∙ h)

pub bags-Or : (p : Pure) (ps : List Pure) → p ≡ pure_of.Or ps → has_bags p ≡ false → All (λ p. has_bags p ≡ false) ps
bags-Or p ps is h = each_none ps (sym (ap (λ u. u.has) (ap bag_use is ∙ fold-Or bag_use_level ps)) ∙ h)

-- ---- order

pub ordered-Not : (p q : Pure) → p ≡ pure_of.Not q → IsOrdered p → IsOrdered q
ordered-Not p q is h = subst (All LinIsOrdered) (ap sums is ∙ fold-Not sums_level q) h

pub ordered-Exists : (p : Pure) (u : Var) (q : Pure) → p ≡ pure_of.Exists u q → IsOrdered p → IsOrdered q
ordered-Exists p u q is h = subst (All LinIsOrdered) (ap sums is ∙ fold-Exists sums_level u q) h

pub ordered-Forall : (p : Pure) (u : Var) (q : Pure) → p ≡ pure_of.Forall u q → IsOrdered p → IsOrdered q
ordered-Forall p u q is h = subst (All LinIsOrdered) (ap sums is ∙ fold-Forall sums_level u q) h

pub ordered-And : (p : Pure) (ps : List Pure) → p ≡ pure_of.And ps → IsOrdered p → All IsOrdered ps
ordered-And p ps is h = All-pieces LinIsOrdered sums ps (subst (All LinIsOrdered) (ap sums is ∙ fold-And sums_level ps) h)

pub ordered-Or : (p : Pure) (ps : List Pure) → p ≡ pure_of.Or ps → IsOrdered p → All IsOrdered ps
ordered-Or p ps is h = All-pieces LinIsOrdered sums ps (subst (All LinIsOrdered) (ap sums is ∙ fold-Or sums_level ps) h)

-- ---- a formula r that is one without its quantifiers

module _ (q r : Pure) (bags : has_bags q ≡ false) (order : IsOrdered q) (exact : assertion_of r ≡ without_quantifiers (assertion_of q)) where
  pub simple_of : IsTrue (is_simple (assertion_of r))
  simple_of = subst (λ a. IsTrue (is_simple a)) (sym exact) (simple-without (assertion_of q) (sym (bags_are q) ∙ bags))

  pub ordered_of : IsOrdered r
  ordered_of = (order_is r).1 (subst AssertionIsOrdered (sym exact) (ordered-without (assertion_of q) ((order_is q).0 order)))

module _ (p d : Pure) (denied : assertion_of d ≡ negation (assertion_of p)) where
  pub simple_denied : IsTrue (is_simple (assertion_of p)) → IsTrue (is_simple (assertion_of d))
  simple_denied h = subst (λ a. IsTrue (is_simple a)) (sym denied) h

  pub ordered_denied : IsOrdered p → IsOrdered d
  ordered_denied h = (order_is d).1 (subst AssertionIsOrdered (sym denied) ((order_is p).0 h))

module _ (p : Pure) (u : Var) (q : Pure) (is : p ≡ pure_of.Exists u q) where
  exists_is : assertion_of p ≡ exists u (assertion_of q)
  exists_is = ap assertion_of is ∙ fold-Exists pure_level u q

  pub size-Exists-inner : (n : ℕ) → n < quantifier_size (assertion_of q) → n < quantifier_size (assertion_of p)
  size-Exists-inner n h = subst (λ a. n < quantifier_size a) (sym exists_is) (max_left n (quantifier_size (assertion_of q)) (stage_size u (without_quantifiers (assertion_of q))) h)

  pub wide-Exists-inner : HasWideQuantifiers (assertion_of q) → HasWideQuantifiers (assertion_of p)
  wide-Exists-inner h = subst HasWideQuantifiers (sym exists_is) (inl h)

  module _ (r : Pure) (exact : assertion_of r ≡ without_quantifiers (assertion_of q)) where
    pub result-Exists : (s : Pure) → assertion_of s ≡ without_variable u (assertion_of r) → assertion_of s ≡ without_quantifiers (assertion_of p)
    result-Exists s e = e ∙ ap (without_variable u) exact ∙ ap without_quantifiers (sym exists_is)

    pub size-Exists : (n : ℕ) → n < stage_size u (assertion_of r) → n < quantifier_size (assertion_of p)
    size-Exists n h =
        subst (λ a. n < quantifier_size a) (sym exists_is)
        (max_right n (quantifier_size (assertion_of q)) (stage_size u (without_quantifiers (assertion_of q))) (subst (λ a. n < stage_size u a) exact h))

    pub wide-Exists : HasWideStages u (assertion_of r) → HasWideQuantifiers (assertion_of p)
    wide-Exists h = subst HasWideQuantifiers (sym exists_is) (inr (subst (HasWideStages u) exact h))

module _ (p : Pure) (u : Var) (q : Pure) (is : p ≡ pure_of.Forall u q) where
  forall_is : assertion_of p ≡ forall u (assertion_of q)
  forall_is = ap assertion_of is ∙ fold-Forall pure_level u q

  pub size-Forall-inner : (n : ℕ) → n < quantifier_size (assertion_of q) → n < quantifier_size (assertion_of p)
  size-Forall-inner n h = subst (λ a. n < quantifier_size a) (sym forall_is) (max_left n (quantifier_size (assertion_of q)) (stage_size u (negation (without_quantifiers (assertion_of q)))) h)

  pub wide-Forall-inner : HasWideQuantifiers (assertion_of q) → HasWideQuantifiers (assertion_of p)
  wide-Forall-inner h = subst HasWideQuantifiers (sym forall_is) (inl h)

  module _ (r : Pure) (exact : assertion_of r ≡ without_quantifiers (assertion_of q)) where
    pub result-Forall : (s : Pure) → assertion_of s ≡ negation (without_variable u (negation (assertion_of r))) → assertion_of s ≡ without_quantifiers (assertion_of p)
    result-Forall s e = e ∙ ap (λ a. negation (without_variable u (negation a))) exact ∙ ap without_quantifiers (sym forall_is)

    pub size-Forall : (n : ℕ) → n < stage_size u (negation (assertion_of r)) → n < quantifier_size (assertion_of p)
    size-Forall n h =
        subst (λ a. n < quantifier_size a) (sym forall_is)
        (max_right n (quantifier_size (assertion_of q)) (stage_size u (negation (without_quantifiers (assertion_of q)))) (subst (λ a. n < stage_size u (negation a)) exact h))

    pub wide-Forall : HasWideStages u (negation (assertion_of r)) → HasWideQuantifiers (assertion_of p)
    wide-Forall h = subst HasWideQuantifiers (sym forall_is) (inr (subst (λ a. HasWideStages u (negation a)) exact h))

module _ (p q : Pure) (is : p ≡ pure_of.Not q) where
  not_is : assertion_of p ≡ negation (assertion_of q)
  not_is = ap assertion_of is ∙ fold-Not pure_level q

  pub result-Not : (r s : Pure) → assertion_of r ≡ without_quantifiers (assertion_of q) → assertion_of s ≡ negation (assertion_of r) → assertion_of s ≡ without_quantifiers (assertion_of p)
  result-Not r s exact e = e ∙ ap negation exact ∙ ap without_quantifiers (sym not_is)

  pub size-Not : (n : ℕ) → n < quantifier_size (assertion_of q) → n < quantifier_size (assertion_of p)
  size-Not n h = subst (λ a. n < quantifier_size a) (sym not_is) h

  pub wide-Not : HasWideQuantifiers (assertion_of q) → HasWideQuantifiers (assertion_of p)
  wide-Not h = subst HasWideQuantifiers (sym not_is) h

-- ---- literals

abbrev Kept : Pure → Type 0
Kept p = assertion_of p ≡ without_quantifiers (assertion_of p)

kept_by : (p : Pure) (a : Assertion) → assertion_of p ≡ a → a ≡ without_quantifiers a → Kept p
kept_by p a e k = e ∙ k ∙ ap without_quantifiers (sym e)

pub literal_kept : (p : Pure) → ((a : Lin) × (b : Lin) × (p ≡ pure_of.Eq a b)) ⊎ ((a : Lin) × (b : Lin) × (p ≡ pure_of.Lt a b)) ⊎ ((a : Lin) × (b : Lin) × (p ≡ pure_of.Le a b))
    ⊎ ((d : ℤ) × (a : Lin) × (p ≡ pure_of.Divides d a)) ⊎ ((a : Bag) × (b : Bag) × (p ≡ pure_of.BagEq a b)) ⊎ ((a : Bag) × (b : Bag) × (p ≡ pure_of.Subset a b)) ⊎ ((a : Lin) × (b : Bag) × (p ≡ pure_of.Member a b))
    ⊎ ((u : Var) × (b : Bag) × (q : Pure) × (p ≡ pure_of.AllOf u b q)) → Kept p
literal_kept p (inl w) = kept_by p (eq w.0 w.1) (ap assertion_of w.2 ∙ fold-Eq pure_level w.0 w.1) refl
literal_kept p (inr (inl w)) = kept_by p (lt w.0 w.1) (ap assertion_of w.2 ∙ fold-Lt pure_level w.0 w.1) refl
literal_kept p (inr (inr (inl w))) = kept_by p (le w.0 w.1) (ap assertion_of w.2 ∙ fold-Le pure_level w.0 w.1) refl
literal_kept p (inr (inr (inr (inl w)))) = kept_by p (divides w.0 w.1) (ap assertion_of w.2 ∙ fold-Divides pure_level w.0 w.1) refl
literal_kept p (inr (inr (inr (inr (inl w))))) = kept_by p (bag_eq (bag_term_of w.0) (bag_term_of w.1)) (ap assertion_of w.2 ∙ fold-BagEq pure_level w.0 w.1) refl
literal_kept p (inr (inr (inr (inr (inr (inl w)))))) = kept_by p (subset (bag_term_of w.0) (bag_term_of w.1)) (ap assertion_of w.2 ∙ fold-Subset pure_level w.0 w.1) refl
literal_kept p (inr (inr (inr (inr (inr (inr (inl w))))))) = kept_by p (member w.0 (bag_term_of w.1)) (ap assertion_of w.2 ∙ fold-Member pure_level w.0 w.1) refl
literal_kept p (inr (inr (inr (inr (inr (inr (inr w))))))) = kept_by p (all_of w.0 (bag_term_of w.1) (assertion_of w.2)) (ap assertion_of w.3 ∙ fold-AllOf pure_level w.0 w.1 w.2) refl
