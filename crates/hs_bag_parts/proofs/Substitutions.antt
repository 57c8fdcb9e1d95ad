-- What the code substitutes, step by step.
use Rattle.std.proofs.Common.{◌≡◌, ℕ, suc, ◌+◌, ◌<◌, ◌⊎◌, inl, inr, ℤ, List, length, drop, get_or, map, Bor, refl, sym, ap, ◌∙◌, subst, arith}
use Rattle.std.specs.List.{fold, Contains}
use Rattle.std.proofs.lemmas.List.{drop_more}
use Rattle.hs_pure.specs.declared.var.Var.{Var}
use Rattle.hs_pure.specs.declared.lin.Lin.{Lin}
use Rattle.hs_pure.specs.declared.pure.Pure.{Pure}
use Rattle.hs_pure.specs.declared.pure.Pure.TheVariants as pure_of
use Rattle.hs_pure.specs.Assertion.{Assertion, eq, both, exists, forall, pure_level, assertion_of}
use Rattle.hs_pure.proofs.Views.{fold-Exists, fold-Forall}
use Rattle.hs_elimination.specs.Linear.{plus, times}
use Rattle.hs_reduction.specs.Layout.{number_variable, variable}
use Rattle.hs_reduction.specs.Instance as Instances
use Rattle.hs_reduction.specs.Instance.{itself, instead, substituted, instance}
use Rattle.hs_bag_parts.specs.declared.instances.Substitution.{Substitution, fold-roll-Substitution}
use Rattle.hs_bag_parts.specs.declared.instances.Substitution.TheOpen.{Substitution-F}
use Rattle.hs_bag_parts.specs.declared.instances.Substitution.TheVariants as substitution_of
use Rattle.hs_bag_parts.specs.declared.instances.Way.{Way}
use Rattle.hs_bag_parts.specs.declared.instances.Way.TheVariants.{Replaced, Stated}
use Rattle.hs_bag_parts.specs.Widths.{TimesIsWide, PlusIsWide}
use Rattle.hs_bag_parts.specs.Substituting.{substitution, substitution_level, way_of, TermsAreWide, SubstitutedIsWide, InstanceIsWide}
use Rattle.hs_bag_parts.proofs.Members.{through-And, through-Or, and_member, or_member}

pub substitution-Term : (u : Var) (a : Bor Lin) → substitution (substitution_of.Term u a) ≡ instead u a.now itself
substitution-Term u a = ap substitution (sym (substitution_of.rolls-Term u a)) ∙ fold-roll-Substitution (Var → Lin) substitution_level (Substitution-F.Term u a)

pub substitution-Bound : (u : Var) (n : ℕ) (outer : Bor Substitution) → substitution (substitution_of.Bound u n outer) ≡ instead u (variable n) (substitution outer.now)
substitution-Bound u n outer = ap substitution (sym (substitution_of.rolls-Bound u n outer)) ∙ fold-roll-Substitution (Var → Lin) substitution_level (Substitution-F.Bound u n outer)

-- ---- sums

module _ (f : Instances.Substitution) where
  abbrev pub added : Lin → Var × ℤ → Lin
  added sum t = plus sum (times t.1 (f t.0))

  pub wide_product : (ts : List (Var × ℤ)) (i : ℕ) (d : Var × ℤ) (sum : Lin) → i < length ts → TimesIsWide (get_or ts i d).1 (f (get_or ts i d).0) → TermsAreWide f sum (drop i ts)
  wide_product ts i d sum lt h = subst (TermsAreWide f sum) (sym (drop_more ts i d lt)) (inl h)

  module _ (ts : List (Var × ℤ)) (i : ℕ) (d : Var × ℤ) (sum now product : Lin) (lt : i < length ts)
      (product_is : product ≡ times (get_or ts i d).1 (f (get_or ts i d).0)) where
    pub added_more : now ≡ plus sum product → fold added now (drop (i + 1) ts) ≡ fold added sum (drop i ts)
    added_more now_is =
        ap (λ s. fold added s (drop (i + 1) ts)) (now_is ∙ ap (plus sum) product_is)
        ∙ sym (ap (fold added sum) (drop_more ts i d lt))

    whole : TimesIsWide (get_or ts i d).1 (f (get_or ts i d).0) ⊎ PlusIsWide sum (times (get_or ts i d).1 (f (get_or ts i d).0)) ⊎ TermsAreWide f (plus sum (times (get_or ts i d).1 (f (get_or ts i d).0))) (drop (i + 1) ts) → TermsAreWide f sum (drop i ts)
    whole h = subst (TermsAreWide f sum) (sym (drop_more ts i d lt)) h

    pub wide_sum : PlusIsWide sum product → TermsAreWide f sum (drop i ts)
    wide_sum h = whole (inr (inl (subst (PlusIsWide sum) product_is h)))

    pub wide_later : now ≡ plus sum product → TermsAreWide f now (drop (i + 1) ts) → TermsAreWide f sum (drop i ts)
    wide_later now_is h = whole (inr (inr (subst (λ s. TermsAreWide f s (drop (i + 1) ts)) (now_is ∙ ap (plus sum) product_is) h)))

-- ---- formulas

module _ (f : Instances.Substitution) (n : ℕ) where
  pub substituted-And : (p : Pure) (ps qs : List Pure) → p ≡ pure_of.And ps → map assertion_of qs ≡ map (λ p. substituted f n (assertion_of p)) ps → assertion_of (pure_of.And qs) ≡ substituted f n (assertion_of p)
  substituted-And = through-And (substituted f n) refl refl (λ p q. refl) (λ p q. refl)

  pub substituted-Or : (p : Pure) (ps qs : List Pure) → p ≡ pure_of.Or ps → map assertion_of qs ≡ map (λ p. substituted f n (assertion_of p)) ps → assertion_of (pure_of.Or qs) ≡ substituted f n (assertion_of p)
  substituted-Or = through-Or (substituted f n) refl refl (λ p q. refl) (λ p q. refl)

  pub wide-And : (p : Pure) (ps : List Pure) → p ≡ pure_of.And ps → ((q : Pure) × (Contains ps q × SubstitutedIsWide f n (assertion_of q))) → SubstitutedIsWide f n (assertion_of p)
  wide-And = and_member (SubstitutedIsWide f n) (λ p q. inl) (λ p q. inr)

  pub wide-Or : (p : Pure) (ps : List Pure) → p ≡ pure_of.Or ps → ((q : Pure) × (Contains ps q × SubstitutedIsWide f n (assertion_of q))) → SubstitutedIsWide f n (assertion_of p)
  wide-Or = or_member (SubstitutedIsWide f n) (λ p q. inl) (λ p q. inr)

abbrev under : Var → ℕ → Instances.Substitution → Instances.Substitution
under u n f = instead u (variable n) f

module _ (f g : Instances.Substitution) (n m : ℕ) (u : Var) (whole p : Pure) (g_is : g ≡ instead u (variable n) f) (m_is : m ≡ n + 1) where
  inner_is : (q : Assertion) → substituted g m q ≡ substituted (instead u (variable n) f) (suc n) q
  inner_is q = let e : m ≡ suc n = omega arith in λ i. substituted (g_is i) (e i) q

  inner_wide : (q : Assertion) → SubstitutedIsWide g m q → SubstitutedIsWide (instead u (variable n) f) (suc n) q
  inner_wide q h = let e : m ≡ suc n = omega arith in subst (λ k. SubstitutedIsWide (instead u (variable n) f) k q) e (subst (λ (h : Instances.Substitution). SubstitutedIsWide h m q) g_is h)

  pub wide-Exists : whole ≡ pure_of.Exists u p → SubstitutedIsWide g m (assertion_of p) → SubstitutedIsWide f n (assertion_of whole)
  wide-Exists is h = subst (SubstitutedIsWide f n) (sym (ap assertion_of is ∙ fold-Exists pure_level u p)) (inner_wide (assertion_of p) h)

  pub wide-Forall : whole ≡ pure_of.Forall u p → SubstitutedIsWide g m (assertion_of p) → SubstitutedIsWide f n (assertion_of whole)
  wide-Forall is h = subst (SubstitutedIsWide f n) (sym (ap assertion_of is ∙ fold-Forall pure_level u p)) (inner_wide (assertion_of p) h)

  module _ (q : Assertion) (q_is : q ≡ substituted g m (assertion_of p)) where
    pub substituted-Exists : whole ≡ pure_of.Exists u p → exists (number_variable n) q ≡ substituted f n (assertion_of whole)
    substituted-Exists is = ap (exists (number_variable n)) (q_is ∙ inner_is (assertion_of p)) ∙ sym (ap (substituted f n) (ap assertion_of is ∙ fold-Exists pure_level u p))

    pub substituted-Forall : whole ≡ pure_of.Forall u p → forall (number_variable n) q ≡ substituted f n (assertion_of whole)
    substituted-Forall is = ap (forall (number_variable n)) (q_is ∙ inner_is (assertion_of p)) ∙ sym (ap (substituted f n) (ap assertion_of is ∙ fold-Forall pure_level u p))

-- ---- instances

module _ (way : Way) (u : Var) (n : ℕ) (p : Assertion) where
  pub wide-Replaced : (a : Bor Lin) → way ≡ Replaced → SubstitutedIsWide (substitution (substitution_of.Term u a)) n p → InstanceIsWide (way_of way) u a.now n p
  wide-Replaced a is h =
      subst (λ (w : Way). InstanceIsWide (way_of w) u a.now n p) (sym is)
      (subst (λ (f : Instances.Substitution). SubstitutedIsWide f n p) (substitution-Term u a) h)

  module _ (a : Lin) (own : Bor Lin) (m : ℕ) (is : way ≡ Stated) (own_is : own.now ≡ variable n) (m_is : m ≡ n + 1) where
    own_term : substitution (substitution_of.Term u own) ≡ instead u (variable n) itself
    own_term = substitution-Term u own ∙ ap (λ (b : Lin). instead u b itself) own_is

    pub wide-Stated : SubstitutedIsWide (substitution (substitution_of.Term u own)) m p → InstanceIsWide (way_of way) u a n p
    wide-Stated h =
        let next : m ≡ suc n = omega arith in
        subst (λ (w : Way). InstanceIsWide (way_of w) u a n p) (sym is)
        (subst (λ (k : ℕ). SubstitutedIsWide (instead u (variable n) itself) k p) next (subst (λ (f : Instances.Substitution). SubstitutedIsWide f m p) own_term h))

    pub instance-Stated : (q e parts whole : Assertion) → q ≡ substituted (substitution (substitution_of.Term u own)) m p → e ≡ eq own.now a → parts ≡ both e q → whole ≡ exists (number_variable n) parts
        → whole ≡ instance (way_of way) u a n p
    instance-Stated q e parts whole q_is e_is parts_are whole_is =
        let next : m ≡ suc n = omega arith in
        let inner : q ≡ substituted (instead u (variable n) itself) (suc n) p = q_is ∙ (λ i. substituted (own_term i) (next i) p) in
        let first : e ≡ eq (variable n) a = e_is ∙ ap (λ b. eq b a) own_is in
        whole_is ∙ ap (exists (number_variable n)) (parts_are ∙ (λ i. both (first i) (inner i))) ∙ sym (ap (λ (w : Way). instance (way_of w) u a n p) is)
