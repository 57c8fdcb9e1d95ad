-- Assertions with many members.
use Rattle.std.proofs.Common.{◌≡◌, ℕ, ◌<◌, List, [], ◌∷◌, map, inl, inr, refl, sym, ap, ◌∙◌, subst}
use Rattle.std.specs.List.{fold, Contains}
use Rattle.hs_pure.specs.declared.pure.Pure.{Pure}
use Rattle.hs_pure.specs.declared.pure.Pure.TheVariants as pure_of
use Rattle.hs_pure.specs.Assertion.{Assertion, both, either, every, some, pure_level, assertion_of}
use Rattle.hs_pure.proofs.Views.{fold-And, fold-Or}
use Rattle.hs_pure.proofs.Mirrored.{fold-joined}
use Rattle.hs_elimination.specs.Decided.{without_quantifiers}
use Rattle.hs_elimination.proofs.Stage3.{contains_cases, contains_none}
use Rattle.hs_cooper_forms.proofs.Changes.{map-map, contains-map}
use Rattle.hs_quantifiers.specs.Size.{quantifier_size}
use Rattle.hs_quantifiers.specs.Span.{HasWideQuantifiers}
use Rattle.hs_quantifiers.proofs.Stages.{max_left, max_right}

without-every : (qs : List Assertion) → without_quantifiers (every qs) ≡ every (map without_quantifiers qs)
without-every [] = refl
without-every (q ∷ qs) = fold-joined both both without_quantifiers (λ p q. refl) q qs

without-some : (qs : List Assertion) → without_quantifiers (some qs) ≡ some (map without_quantifiers qs)
without-some [] = refl
without-some (q ∷ qs) = fold-joined either either without_quantifiers (λ p q. refl) q qs

-- what the members of the result are
abbrev AreWithout : List Pure → List Pure → Type 0
AreWithout qs ps = map assertion_of qs ≡ map (λ p. without_quantifiers (assertion_of p)) ps

pub without-And : (p : Pure) (ps qs : List Pure) → p ≡ pure_of.And ps → AreWithout qs ps → assertion_of (pure_of.And qs) ≡ without_quantifiers (assertion_of p)
without-And p ps qs is e =
    fold-And pure_level qs ∙ ap every (e ∙ sym (map-map assertion_of without_quantifiers ps)) ∙ sym (without-every (map assertion_of ps))
    ∙ ap without_quantifiers (sym (fold-And pure_level ps)) ∙ ap (λ q. without_quantifiers (assertion_of q)) (sym is)

pub without-Or : (p : Pure) (ps qs : List Pure) → p ≡ pure_of.Or ps → AreWithout qs ps → assertion_of (pure_of.Or qs) ≡ without_quantifiers (assertion_of p)
without-Or p ps qs is e =
    fold-Or pure_level qs ∙ ap some (e ∙ sym (map-map assertion_of without_quantifiers ps)) ∙ sym (without-some (map assertion_of ps))
    ∙ ap without_quantifiers (sym (fold-Or pure_level ps)) ∙ ap (λ q. without_quantifiers (assertion_of q)) (sym is)

-- ---- what holds of all that are joined where it holds of one

module _ (Q : Assertion → Type 0) (op : Assertion → Assertion → Assertion) (first : (p q : Assertion) → Q p → Q (op p q)) (second : (p q : Assertion) → Q q → Q (op p q)) where
  fold_first : (p : Assertion) (ps : List Assertion) → Q p → Q (fold op p ps)
  fold_first p [] h = h
  fold_first p (q ∷ ps) h = fold_first (op p q) ps (first p q h)

  fold_member : (p : Assertion) (ps : List Assertion) (q : Assertion) → Contains ps q → Q q → Q (fold op p ps)
  fold_member p [] q k h = contains_none q k
  fold_member p (r ∷ ps) q k h = step (fold_member (op p r) ps q)
    where
      step : (Contains ps q → Q q → Q (fold op (op p r) ps)) → Q (fold op (op p r) ps)
      step ih = elim (contains_cases r q ps k) [ inl is ↦ fold_first (op p r) ps (second p r (subst Q (sym is) h)) | inr later ↦ ih later h ]

  list_member : (p : Assertion) (ps : List Assertion) (q : Assertion) → Contains (p ∷ ps) q → Q q → Q (fold op p ps)
  list_member p ps q k h = elim (contains_cases p q ps k) [ inl is ↦ fold_first p ps (subst Q (sym is) h) | inr later ↦ fold_member p ps q later h ]

module _ (Q : Assertion → Type 0) where
  every_member : ((p q : Assertion) → Q p → Q (both p q)) → ((p q : Assertion) → Q q → Q (both p q)) → (ps : List Assertion) (q : Assertion) → Contains ps q → Q q → Q (every ps)
  every_member first second [] q k h = contains_none q k
  every_member first second (p ∷ ps) q k h = list_member Q both first second p ps q k h

  some_member : ((p q : Assertion) → Q p → Q (either p q)) → ((p q : Assertion) → Q q → Q (either p q)) → (ps : List Assertion) (q : Assertion) → Contains ps q → Q q → Q (some ps)
  some_member first second [] q k h = contains_none q k
  some_member first second (p ∷ ps) q k h = list_member Q either first second p ps q k h

  abbrev Member : List Pure → Type 0
  Member ps = (q : Pure) × (Contains ps q × Q (assertion_of q))

  and_member : ((p q : Assertion) → Q p → Q (both p q)) → ((p q : Assertion) → Q q → Q (both p q)) → (p : Pure) (ps : List Pure) → p ≡ pure_of.And ps → Member ps → Q (assertion_of p)
  and_member first second p ps is w =
      subst Q (sym (ap assertion_of is ∙ fold-And pure_level ps)) (every_member first second (map assertion_of ps) (assertion_of w.0) (contains-map assertion_of ps w.0 w.1.0) w.1.1)

  or_member : ((p q : Assertion) → Q p → Q (either p q)) → ((p q : Assertion) → Q q → Q (either p q)) → (p : Pure) (ps : List Pure) → p ≡ pure_of.Or ps → Member ps → Q (assertion_of p)
  or_member first second p ps is w =
      subst Q (sym (ap assertion_of is ∙ fold-Or pure_level ps)) (some_member first second (map assertion_of ps) (assertion_of w.0) (contains-map assertion_of ps w.0 w.1.0) w.1.1)

pub size-And : (n : ℕ) (p : Pure) (ps : List Pure) → p ≡ pure_of.And ps → ((q : Pure) × (Contains ps q × (n < quantifier_size (assertion_of q)))) → n < quantifier_size (assertion_of p)
size-And n = and_member (λ q. n < quantifier_size q) (λ p q. max_left n (quantifier_size p) (quantifier_size q)) (λ p q. max_right n (quantifier_size p) (quantifier_size q))

pub size-Or : (n : ℕ) (p : Pure) (ps : List Pure) → p ≡ pure_of.Or ps → ((q : Pure) × (Contains ps q × (n < quantifier_size (assertion_of q)))) → n < quantifier_size (assertion_of p)
size-Or n = or_member (λ q. n < quantifier_size q) (λ p q. max_left n (quantifier_size p) (quantifier_size q)) (λ p q. max_right n (quantifier_size p) (quantifier_size q))

pub wide-And : (p : Pure) (ps : List Pure) → p ≡ pure_of.And ps → ((q : Pure) × (Contains ps q × HasWideQuantifiers (assertion_of q))) → HasWideQuantifiers (assertion_of p)
wide-And = and_member HasWideQuantifiers (λ p q. inl) (λ p q. inr)

pub wide-Or : (p : Pure) (ps : List Pure) → p ≡ pure_of.Or ps → ((q : Pure) × (Contains ps q × HasWideQuantifiers (assertion_of q))) → HasWideQuantifiers (assertion_of p)
wide-Or = or_member HasWideQuantifiers (λ p q. inl) (λ p q. inr)
