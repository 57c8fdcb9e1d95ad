-- The members of a conjunction that may be asked may be asked, and what is seen of them is seen of it.
use Rattle.std.proofs.Common.{◌≡◌, ◌<◌, ◌^◌, Bool, true, false, not, ◌&&◌, ◌||◌, IsTrue, List, [], ◌∷◌, ◌++◌, map, ◌↔◌, refl, sym, ap, ◌∙◌, subst}
use Rattle.std.specs.List.{All, list_any}
use Rattle.std.proofs.lemmas.List.Elements.{All-nil, All-cons, All-head, All-map}
use Rattle.std.proofs.lemmas.Bool.{false≢true}
use Rattle.hs_pure.specs.declared.var.Var.{Var}
use Rattle.hs_pure.specs.declared.pure.Pure.{Pure}
use Rattle.hs_pure.specs.declared.pure.Pure.TheVariants as pure_of
use Rattle.hs_pure.specs.Assertion.{pure_level, assertion_of}
use Rattle.hs_pure.specs.Occurs.{BagUse, bag_use, bag_use_level, is_bags_plain, occurs, occurs_level}
use Rattle.hs_pure.specs.Sums.{LinIsOrdered, IsOrdered}
use Rattle.hs_pure.proofs.Lists.{All-later}
use Rattle.hs_pure.proofs.Truths.{every-all}
use Rattle.hs_pure.proofs.Views.{fold-And}
use Rattle.hs_elimination.specs.Ordered.{assertion_sums, AssertionIsOrdered}
use Rattle.hs_elimination.proofs.Order.{order_is, All-both, All-before, All-after}
use Rattle.hs_reduction.specs.Layout.{bags_plain}
use Rattle.hs_reduction.specs.Laws.{BagsPlainIsOfAssertion}
use Rattle.hs_quantifiers.proofs.Parts.{ordered-And}
use Rattle.hs_decide.specs.Asking.{IsAskable}

-- ---- members of a list of which none is so

first_not : (a b : Bool) → IsTrue (not (a || b)) → IsTrue (not a)
first_not true b h = h
first_not false b h = refl

later_not : (a b : Bool) → IsTrue (not (a || b)) → IsTrue (not b)
later_not true b h = absurd cc
later_not false b h = h

each_plain : (ps : List Pure) → IsTrue (not (list_any (λ (u : BagUse). u.under) (map bag_use ps))) → All (λ p. IsTrue (is_bags_plain p)) ps
each_plain [] h = All-nil _
each_plain (p ∷ ps) h = All-cons (λ p. IsTrue (is_bags_plain p)) p ps (first_not _ _ h) (each_plain ps (later_not (bag_use p).under _ h))

plain-And : (p : Pure) (ps : List Pure) → p ≡ pure_of.And ps → IsTrue (is_bags_plain p) → All (λ p. IsTrue (is_bags_plain p)) ps
plain-And p ps is h = each_plain ps (subst (λ (u : BagUse). IsTrue (not u.under)) (ap bag_use is ∙ fold-And bag_use_level ps) h)

-- ---- variables of members

in_first : (a b : Bool) → IsTrue a → IsTrue (a || b)
in_first true b h = refl
in_first false b h = absurd cc

in_later : (a b : Bool) → IsTrue b → IsTrue (a || b)
in_later true b h = refl
in_later false b h = h

abbrev IsLow : Pure → Type 0
IsLow p = (v : Var) → IsTrue (occurs v p) → v.number < 2 ^ 31

each_low : (ps : List Pure) → ((v : Var) → IsTrue (list_any (λ b. b) (map (occurs v) ps)) → v.number < 2 ^ 31) → All IsLow ps
each_low [] h = All-nil _
each_low (p ∷ ps) h = All-cons IsLow p ps (λ v k. h v (in_first (occurs v p) _ k)) (each_low ps (λ v k. h v (in_later (occurs v p) _ k)))

low-And : (p : Pure) (ps : List Pure) → p ≡ pure_of.And ps → IsLow p → All IsLow ps
low-And p ps is h = each_low ps (λ v k. h v (subst IsTrue (sym (ap (occurs v) is ∙ fold-And (occurs_level v) ps)) k))

-- ---- all together

each_askable : (ps : List Pure) → All (λ p. IsTrue (is_bags_plain p)) ps → All IsOrdered ps → All IsLow ps → All IsAskable ps
each_askable ps plain ordered low = λ k d less. record { plain = plain k d less; ordered = ordered k d less; low = low k d less }

pub askable-And : (p : Pure) (ps : List Pure) → p ≡ pure_of.And ps → IsAskable p → All IsAskable ps
askable-And p ps is h = each_askable ps (plain-And p ps is h.plain) (ordered-And p ps is h.ordered) (low-And p ps is h.low)

pub askable-more : (ps : List Pure) (q : Pure) → All IsAskable ps → IsAskable q → All IsAskable (ps ++ q ∷ [])
askable-more ps q h k = All-both IsAskable ps (q ∷ []) h (All-cons IsAskable q [] k (All-nil IsAskable))

-- ---- a conjunction of what may be asked

and_parts : (a b : Bool) → IsTrue (a && b) ↔ IsTrue a × IsTrue b
and_parts true b = (λ h. (refl, h), λ h. h.1)
and_parts false b = (λ h. absurd (false≢true h), λ h. absurd (false≢true h.0))

some_low : (v : Var) (ps : List Pure) → All IsLow ps → IsTrue (list_any (λ b. b) (map (occurs v) ps)) → v.number < 2 ^ 31
some_low v [] h k = absurd (false≢true k)
some_low v (p ∷ ps) h k = by_test (occurs v p) refl (some_low v ps (All-later IsLow p ps h))
  where
    by_test : (b : Bool) → occurs v p ≡ b → (IsTrue (list_any (λ b. b) (map (occurs v) ps)) → v.number < 2 ^ 31) → v.number < 2 ^ 31
    by_test true e later = All-head IsLow p ps h v e
    by_test false e later = later (subst (λ b. IsTrue (b || list_any (λ b. b) (map (occurs v) ps))) e k)

module _ (plain : BagsPlainIsOfAssertion) (ps : List Pure) (all : All IsAskable ps) where
  plain_all : IsTrue (is_bags_plain (pure_of.And ps))
  plain_all =
      subst IsTrue (sym (plain (pure_of.And ps) ∙ ap bags_plain (fold-And pure_level ps)))
      ((every-all (λ a. IsTrue (bags_plain a)) refl (λ p q. and_parts (bags_plain p) (bags_plain q)) (map assertion_of ps)).1
      (All-map (λ a. IsTrue (bags_plain a)) assertion_of ps (λ k d less. subst IsTrue (plain _) (all k d less).plain)))

  ordered_all : IsOrdered (pure_of.And ps)
  ordered_all =
      (order_is (pure_of.And ps)).1
      (subst AssertionIsOrdered (sym (fold-And pure_level ps))
      ((every-all AssertionIsOrdered (All-nil LinIsOrdered)
      (λ p q. (λ h. (All-before LinIsOrdered (assertion_sums p) (assertion_sums q) h, All-after LinIsOrdered (assertion_sums p) (assertion_sums q) h), λ h. All-both LinIsOrdered (assertion_sums p) (assertion_sums q) h.0 h.1))
      (map assertion_of ps)).1
      (All-map AssertionIsOrdered assertion_of ps (λ k d less. (order_is _).0 (all k d less).ordered))))

  low_all : IsLow (pure_of.And ps)
  low_all v k = some_low v ps (λ i d less. (all i d less).low) (subst IsTrue (fold-And (occurs_level v) ps) k)

  pub askable-all : IsAskable (pure_of.And ps)
  askable-all = record { plain = plain_all; ordered = ordered_all; low = low_all }
