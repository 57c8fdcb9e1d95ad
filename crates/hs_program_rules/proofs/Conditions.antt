-- Terms and conditions over slots say the same of the variables that slots hold.
use Rattle.std.proofs.Common.{ℕ, ℤ, pos, ◌+ℤ◌, ◌*ℤ◌, ◌≡◌, ◌<ℤ◌, ◌≤ℤ◌, ◌↔◌, ◌⊎◌, Bool, true, false, ◌&&◌, ⊎_elim, List, [], ◌∷◌, map, refl, sym, ◌∙◌, ap, subst}
use Rattle.std.specs.List.{All, Any, list_all, flat_map}
use Rattle.std.proofs.lemmas.Bool.{and_parts, and_from}
use Rattle.std.proofs.lemmas.List.Elements.{All-nil, All-cons, All-head, All-tail}
use Rattle.hs_pure.specs.declared.var.Var.{Var}
use Rattle.hs_pure.specs.declared.lin.Lin.{Lin}
use Rattle.hs_pure.specs.declared.pure.Pure.{Pure, map-Pure}
use Rattle.hs_pure.specs.declared.pure.Pure.TheOpen.{Pure-F}
use Rattle.hs_pure.specs.Stack.{Stack}
use Rattle.hs_pure.specs.Assertion.{Assertion, truth, eq, lt, le, divides, bag_eq, subset, member, all_of, negation, both, either, exists, forall, pure_level, assertion_of}
use Rattle.hs_pure.specs.Truth.{sum_at, value, IsTrueAt, TrueAt}
use Rattle.hs_pure.specs.Rename.{sums, sums_level, renamed, KeepsApart}
use Rattle.hs_pure.specs.Sums.{RisesFrom, LinIsOrdered}
use Rattle.hs_pure.specs.Mirror.{is_bound_in}
use Rattle.hs_pure.proofs.Lists.{All-left, All-right, All-pieces}
use Rattle.hs_pure.proofs.Levels.{Both, related}
use Rattle.hs_pure.proofs.Mirrored.{is_bound-is}
use Rattle.hs_pure.proofs.Renamed.{truth-renamed}
use Rattle.hs_pure.proofs.Truths.{every-all, some-all, true-every, true-some, Any-first, Any-later, Any-cases, Any-nil}
use Rattle.hs_heap.specs.Tests.{pure_fits}
use Rattle.hs_heap.proofs.Booleans.{clash}
use Rattle.hs_core.specs.Machine.{Slots, stack_at}
use Rattle.hs_core.specs.Set.{slots_in}
use Rattle.hs_core.specs.Sound.{ConditionFits}
use Rattle.hs_core.specs.Tests.{is_slot, is_simple, is_simple_level}
use Rattle.hs_core.proofs.SimpleTells.{condition_told}
use Rattle.hs_program_rules.specs.States.{Held, IsHeld, variable_in}
use Rattle.hs_program_rules.specs.Safe.{SlotsFit}
use Rattle.hs_program_rules.proofs.Fitting.{held_value}

-- ---- sums

abbrev pub over : Held → Var → Var
over held v = variable_in held v.number

slot_number : (slots : Slots) (v : Var) → v.bag ≡ false → (stack_at slots v).number ≡ slots v.number
slot_number slots v e = rw e refl

sum_over : (held : Held) (t : Stack) (slots : Slots) → SlotsFit held t slots → (n : ℕ) (ts : List (Var × ℤ)) → RisesFrom n ts → All (IsHeld held) (map (λ u. u.0.number) ts) →
    sum_at (λ v. t (over held v)) ts ≡ sum_at (stack_at slots) ts
sum_over held t slots fit n [] r all = refl
sum_over held t slots fit n (u ∷ ts) r all =
    let first : (t (over held u.0)).number ≡ (stack_at slots u.0).number =
    held_value held t slots u.0.number fit (All-head (IsHeld held) u.0.number (map (λ u. u.0.number) ts) all) ∙ sym (slot_number slots u.0 r.1) in
    let rest = sum_over held t slots fit _ ts r.3 (All-tail (IsHeld held) u.0.number (map (λ u. u.0.number) ts) all) in
    λ i. u.1 *ℤ first i +ℤ rest i

pub value_over : (held : Held) (t : Stack) (slots : Slots) (a : Lin) → SlotsFit held t slots → LinIsOrdered a → All (IsHeld held) (slots_in a) →
    value (λ v. t (over held v)) a ≡ value (stack_at slots) a
value_over held t slots a fit r all = ap (λ z. z +ℤ a.constant) (sum_over held t slots fit 0 a.terms r all)

values_over : (held : Held) (t : Stack) (slots : Slots) (ls : List Lin) → SlotsFit held t slots → All LinIsOrdered ls → All (IsHeld held) (flat_map slots_in ls) →
    All (λ a. value (λ v. t (over held v)) a ≡ value (stack_at slots) a) ls
values_over held t slots [] fit r all = All-nil _
values_over held t slots (a ∷ ls) fit r all =
    All-cons (λ a. value (λ v. t (over held v)) a ≡ value (stack_at slots) a) a ls
    (value_over held t slots a fit (All-head LinIsOrdered a ls r) (All-left (IsHeld held) (slots_in a) (flat_map slots_in ls) all))
    (values_over held t slots ls fit (All-tail LinIsOrdered a ls r) (All-right (IsHeld held) (slots_in a) (flat_map slots_in ls) all))

-- ---- assertions without quantifiers and bags

abbrev is_plain : Assertion → Bool
is_plain truth = true
is_plain (eq a b) = true
is_plain (lt a b) = true
is_plain (le a b) = true
is_plain (divides d a) = true
is_plain (bag_eq a b) = false
is_plain (subset a b) = false
is_plain (member a b) = false
is_plain (all_of u b p) = false
is_plain (negation p) = is_plain p
is_plain (both p q) = is_plain p && is_plain q
is_plain (either p q) = is_plain p && is_plain q
is_plain (exists u p) = false
is_plain (forall u p) = false

abbrev IsPlain : Assertion → Type 0
IsPlain q = is_plain q ≡ true

plain_parts : (p q : Assertion) → ((is_plain p && is_plain q) ≡ true) ↔ IsPlain p × IsPlain q
plain_parts p q = (λ h. and_parts (is_plain p) (is_plain q) h, λ h. and_from (is_plain p) (is_plain q) h.0 h.1)

abbrev Simple : Bool → Assertion → Type 0
Simple b q = b ≡ true → IsPlain q

all_plain : (es : List (Both Simple is_simple_level pure_level)) → list_all (λ b. b) (map (λ e. e.0) es) ≡ true → All IsPlain (map (λ e. e.1.0) es)
all_plain [] h = All-nil IsPlain
all_plain (e ∷ es) h =
    let parts = and_parts e.0 (list_all (λ b. b) (map (λ e. e.0) es)) h in
    All-cons IsPlain e.1.0 (map (λ e. e.1.0) es) (e.1.1 parts.0) (all_plain es parts.1)

simple_plain : (p : Pure) → is_simple p ≡ true → IsPlain (assertion_of p)
simple_plain = related Simple is_simple_level pure_level step
  where
    step : (z : Pure-F (Both Simple is_simple_level pure_level)) → Simple (is_simple_level (map-Pure (Both Simple is_simple_level pure_level) Bool (λ e. e.0) z)) (pure_level (map-Pure (Both Simple is_simple_level pure_level) Assertion (λ e. e.1.0) z))
    step (Pure-F.Eq a b) h = refl
    step (Pure-F.Lt a b) h = refl
    step (Pure-F.Le a b) h = refl
    step (Pure-F.Divides d a) h = refl
    step (Pure-F.BagEq a b) h = clash h refl
    step (Pure-F.Subset a b) h = clash h refl
    step (Pure-F.Member a b) h = clash h refl
    step (Pure-F.AllOf u b p) h = clash h refl
    step (Pure-F.Not p) h = p.1.1 h
    step (Pure-F.And ps) h = (every-all IsPlain refl plain_parts (map (λ e. e.1.0) ps)).1 (all_plain ps h)
    step (Pure-F.Or ps) h = (some-all IsPlain refl plain_parts (map (λ e. e.1.0) ps)).1 (all_plain ps h)
    step (Pure-F.Exists u p) h = clash h refl
    step (Pure-F.Forall u p) h = clash h refl

plain_binds_nothing : (u : Var) (q : Assertion) → IsPlain q → is_bound_in u q ≡ false
plain_binds_nothing u truth h = refl
plain_binds_nothing u (eq a b) h = refl
plain_binds_nothing u (lt a b) h = refl
plain_binds_nothing u (le a b) h = refl
plain_binds_nothing u (divides d a) h = refl
plain_binds_nothing u (bag_eq a b) h = clash h refl
plain_binds_nothing u (subset a b) h = clash h refl
plain_binds_nothing u (member a b) h = clash h refl
plain_binds_nothing u (all_of v b p) h = clash h refl
plain_binds_nothing u (negation p) h = plain_binds_nothing u p h
plain_binds_nothing u (both p q) h =
    let parts = and_parts (is_plain p) (is_plain q) h in rw (plain_binds_nothing u p parts.0) (plain_binds_nothing u q parts.1)
plain_binds_nothing u (either p q) h =
    let parts = and_parts (is_plain p) (is_plain q) h in rw (plain_binds_nothing u p parts.0) (plain_binds_nothing u q parts.1)
plain_binds_nothing u (exists v p) h = clash h refl
plain_binds_nothing u (forall v p) h = clash h refl

-- ---- the same values make the same conditions true

module _ (s t : Stack) where
  abbrev SameValue : Lin → Type 0
  SameValue a = value s a ≡ value t a

  abbrev SameTruth : List Lin → Assertion → Type 0
  SameTruth ls q = IsPlain q → All SameValue ls → IsTrueAt s q ↔ IsTrueAt t q

  pair_same : (R : ℤ → ℤ → Type 0) (a b : Lin) → All SameValue (a ∷ b ∷ []) → R (value s a) (value s b) ↔ R (value t a) (value t b)
  pair_same R a b all =
      let l = All-head SameValue a (b ∷ []) all in
      let r = All-head SameValue b [] (All-tail SameValue a (b ∷ []) all) in (
        λ h. subst (λ z. R z (value t b)) l (subst (λ z. R (value s a) z) r h),
        λ h. subst (λ z. R z (value s b)) (sym l) (subst (λ z. R (value t a) z) (sym r) h),
      )

  abbrev Each : Type 0
  Each = Both SameTruth sums_level pure_level

  all_same : (es : List Each) → All IsPlain (map (λ e. e.1.0) es) → All (λ (e : Each). All SameValue e.0) es →
      (All (IsTrueAt s) (map (λ e. e.1.0) es) ↔ All (IsTrueAt t) (map (λ e. e.1.0) es)) × (Any (IsTrueAt s) (map (λ e. e.1.0) es) ↔ Any (IsTrueAt t) (map (λ e. e.1.0) es))
  all_same [] plain all = (
    (λ h. All-nil (IsTrueAt t), λ h. All-nil (IsTrueAt s)),
    (λ h. absurd (Any-nil (IsTrueAt s) h), λ h. absurd (Any-nil (IsTrueAt t) h)),
  )
  all_same (e ∷ es) plain all =
      let qs = map (λ (e : Each). e.1.0) es in
      let one = e.1.1 (All-head IsPlain e.1.0 qs plain) (All-head (λ (e : Each). All SameValue e.0) e es all) in
      let more = all_same es (All-tail IsPlain e.1.0 qs plain) (All-tail (λ (e : Each). All SameValue e.0) e es all) in (
        (
          λ h. All-cons (IsTrueAt t) e.1.0 qs (one.0 (All-head (IsTrueAt s) e.1.0 qs h)) (more.0.0 (All-tail (IsTrueAt s) e.1.0 qs h)),
          λ h. All-cons (IsTrueAt s) e.1.0 qs (one.1 (All-head (IsTrueAt t) e.1.0 qs h)) (more.0.1 (All-tail (IsTrueAt t) e.1.0 qs h)),
        ),
        (
          λ h. ⊎_elim (λ x. Any-first (IsTrueAt t) e.1.0 qs (one.0 x)) (λ l. Any-later (IsTrueAt t) e.1.0 qs (more.1.0 l)) (Any-cases (IsTrueAt s) e.1.0 qs h),
          λ h. ⊎_elim (λ x. Any-first (IsTrueAt s) e.1.0 qs (one.1 x)) (λ l. Any-later (IsTrueAt s) e.1.0 qs (more.1.1 l)) (Any-cases (IsTrueAt t) e.1.0 qs h),
        ),
      )

  same_truth : (p : Pure) → SameTruth (sums p) (assertion_of p)
  same_truth = related SameTruth sums_level pure_level step
    where
      step : (z : Pure-F Each) → SameTruth (sums_level (map-Pure Each (List Lin) (λ e. e.0) z)) (pure_level (map-Pure Each Assertion (λ e. e.1.0) z))
      step (Pure-F.Eq a b) plain all = pair_same (λ x y. x ≡ y) a b all
      step (Pure-F.Lt a b) plain all = pair_same (λ x y. x <ℤ y) a b all
      step (Pure-F.Le a b) plain all = pair_same (λ x y. x ≤ℤ y) a b all
      step (Pure-F.Divides d a) plain all =
          let l = All-head SameValue a [] all in
          let P : ℤ → Type 0 = λ z. (pos 1 ≤ℤ d) × ((k : ℤ) × (z ≡ k *ℤ d)) in
          (subst P l, subst P (sym l))
      step (Pure-F.BagEq a b) plain all = clash plain refl
      step (Pure-F.Subset a b) plain all = clash plain refl
      step (Pure-F.Member a b) plain all = clash plain refl
      step (Pure-F.AllOf u b p) plain all = clash plain refl
      step (Pure-F.Not p) plain all = let i = p.1.1 plain all in (λ h g. h (i.1 g), λ h g. h (i.0 g))
      step (Pure-F.And ps) plain all =
          let qs = map (λ (e : Each). e.1.0) ps in
          let both = all_same ps ((every-all IsPlain refl plain_parts qs).0 plain) (All-pieces SameValue (λ (e : Each). e.0) ps all) in
          (λ h. (true-every t qs).1 (both.0.0 ((true-every s qs).0 h)), λ h. (true-every s qs).1 (both.0.1 ((true-every t qs).0 h)))
      step (Pure-F.Or ps) plain all =
          let qs = map (λ (e : Each). e.1.0) ps in
          let both = all_same ps ((some-all IsPlain refl plain_parts qs).0 plain) (All-pieces SameValue (λ (e : Each). e.0) ps all) in
          (λ h. (true-some t qs).1 (both.1.0 ((true-some s qs).0 h)), λ h. (true-some s qs).1 (both.1.1 ((true-some t qs).0 h)))
      step (Pure-F.Exists u p) plain all = clash plain refl
      step (Pure-F.Forall u p) plain all = clash plain refl

-- a condition on slots says the same of the variables that they hold
pub condition_over : (held : Held) (t : Stack) (slots : Slots) (n : ℕ) (c : Pure) → SlotsFit held t slots → ConditionFits n c → All (IsHeld held) (flat_map slots_in (sums c)) →
    TrueAt t (renamed (over held) c) ↔ TrueAt (stack_at slots) c
condition_over held t slots n c fit fits all =
    let simple = (and_parts (is_simple c) (pure_fits (is_slot n) 0 c (is_slot n)) ((condition_told n c).1 fits)).0 in
    let plain = simple_plain c simple in
    let apart : KeepsApart (over held) c = λ u v b o e. clash b (is_bound-is u c ∙ plain_binds_nothing u (assertion_of c) plain) in
    let one = truth-renamed (over held) c t apart in
    let two = same_truth (λ v. t (over held v)) (stack_at slots) c plain (values_over held t slots (sums c) fit fits.formed.ordered all) in
    (λ h. two.0 (one.0 h), λ h. one.1 (two.1 h))
