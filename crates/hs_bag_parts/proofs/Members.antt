-- Assertions with many members.
use Rattle.std.proofs.Common.{◌≡◌, List, [], ◌∷◌, map, inl, inr, sym, ap, ◌∙◌, subst, Result, Ok, Err, OnOk}
use Rattle.std.specs.List.{fold, Contains}
use Rattle.hs_pure.specs.declared.pure.Pure.{Pure}
use Rattle.hs_pure.specs.declared.pure.Pure.TheVariants as pure_of
use Rattle.hs_pure.specs.Assertion.{Assertion, truth, negation, both, either, every, some, pure_level, assertion_of}
use Rattle.hs_pure.proofs.Views.{fold-And, fold-Or}
use Rattle.hs_pure.proofs.Mirrored.{fold-joined}
use Rattle.hs_elimination.proofs.Stage3.{contains_cases, contains_none}
use Rattle.hs_cooper_forms.proofs.Changes.{map-map, contains-map}

-- ---- what changes each member

module _ (g : Assertion → Assertion) (g_truth : g truth ≡ truth) (g_false : g (negation truth) ≡ negation truth)
    (g_both : (p q : Assertion) → g (both p q) ≡ both (g p) (g q)) (g_either : (p q : Assertion) → g (either p q) ≡ either (g p) (g q)) where
  through-every : (qs : List Assertion) → g (every qs) ≡ every (map g qs)
  through-every [] = g_truth
  through-every (q ∷ qs) = fold-joined both both g g_both q qs

  through-some : (qs : List Assertion) → g (some qs) ≡ some (map g qs)
  through-some [] = g_false
  through-some (q ∷ qs) = fold-joined either either g g_either q qs

  pub through-And : (p : Pure) (ps qs : List Pure) → p ≡ pure_of.And ps → map assertion_of qs ≡ map (λ p. g (assertion_of p)) ps → assertion_of (pure_of.And qs) ≡ g (assertion_of p)
  through-And p ps qs is e =
      fold-And pure_level qs ∙ ap every (e ∙ sym (map-map assertion_of g ps)) ∙ sym (through-every (map assertion_of ps))
      ∙ ap g (sym (fold-And pure_level ps)) ∙ ap (λ q. g (assertion_of q)) (sym is)

  pub through-Or : (p : Pure) (ps qs : List Pure) → p ≡ pure_of.Or ps → map assertion_of qs ≡ map (λ p. g (assertion_of p)) ps → assertion_of (pure_of.Or qs) ≡ g (assertion_of p)
  through-Or p ps qs is e =
      fold-Or pure_level qs ∙ ap some (e ∙ sym (map-map assertion_of g ps)) ∙ sym (through-some (map assertion_of ps))
      ∙ ap g (sym (fold-Or pure_level ps)) ∙ ap (λ q. g (assertion_of q)) (sym is)

-- ---- what holds of all that are joined where it holds of one

module _ (Q : Assertion → Type 0) (op : Assertion → Assertion → Assertion) (first : (p q : Assertion) → Q p → Q (op p q)) (second : (p q : Assertion) → Q q → Q (op p q)) where
  fold_first : (p : Assertion) (ps : List Assertion) → Q p → Q (fold op p ps)
  fold_first p [] h = h
  fold_first p (q ∷ ps) h = fold_first (op p q) ps (first p q h)

  fold_member : (p : Assertion) (ps : List Assertion) (q : Assertion) → Contains ps q → Q q → Q (fold op p ps)
  fold_member p [] q k h = contains_none q k
  fold_member p (r ∷ ps) q k h = step (fold_member (op p r) ps q)
    where
      step : (Contains ps q → Q q → Q (fold op (op p r) ps)) → Q (fold op (op p r) ps)
      step ih = elim (contains_cases r q ps k) [ inl is ↦ fold_first (op p r) ps (second p r (subst Q (sym is) h)) | inr later ↦ ih later h ]

  list_member : (p : Assertion) (ps : List Assertion) (q : Assertion) → Contains (p ∷ ps) q → Q q → Q (fold op p ps)
  list_member p ps q k h = elim (contains_cases p q ps k) [ inl is ↦ fold_first p ps (subst Q (sym is) h) | inr later ↦ fold_member p ps q later h ]

module _ (Q : Assertion → Type 0) where
  every_member : ((p q : Assertion) → Q p → Q (both p q)) → ((p q : Assertion) → Q q → Q (both p q)) → (ps : List Assertion) (q : Assertion) → Contains ps q → Q q → Q (every ps)
  every_member first second [] q k h = contains_none q k
  every_member first second (p ∷ ps) q k h = list_member Q both first second p ps q k h

  some_member : ((p q : Assertion) → Q p → Q (either p q)) → ((p q : Assertion) → Q q → Q (either p q)) → (ps : List Assertion) (q : Assertion) → Contains ps q → Q q → Q (some ps)
  some_member first second [] q k h = contains_none q k
  some_member first second (p ∷ ps) q k h = list_member Q either first second p ps q k h

  abbrev Member : List Pure → Type 0
  Member ps = (q : Pure) × (Contains ps q × Q (assertion_of q))

  pub and_member : ((p q : Assertion) → Q p → Q (both p q)) → ((p q : Assertion) → Q q → Q (both p q)) → (p : Pure) (ps : List Pure) → p ≡ pure_of.And ps → Member ps → Q (assertion_of p)
  and_member first second p ps is w =
      subst Q (sym (ap assertion_of is ∙ fold-And pure_level ps)) (every_member first second (map assertion_of ps) (assertion_of w.0) (contains-map assertion_of ps w.0 w.1.0) w.1.1)

  pub or_member : ((p q : Assertion) → Q p → Q (either p q)) → ((p q : Assertion) → Q q → Q (either p q)) → (p : Pure) (ps : List Pure) → p ≡ pure_of.Or ps → Member ps → Q (assertion_of p)
  or_member first second p ps is w =
      subst Q (sym (ap assertion_of is ∙ fold-Or pure_level ps)) (some_member first second (map assertion_of ps) (assertion_of w.0) (contains-map assertion_of ps w.0 w.1.0) w.1.1)

-- ---- results

pub on_ok_map : {T E P Q : Type 0} (r : Result T E) → (P → Q) → OnOk r P → OnOk r Q
on_ok_map (Ok x) f h = f h
on_ok_map (Err e) f h = h
