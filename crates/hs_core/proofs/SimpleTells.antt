-- What the test of a condition tells: no quantifier, no bag literal, and terms over slots.
use Rattle.std.proofs.Common.{◌≡◌, ℕ, ◌≤◌, Bool, true, false, not, ◌&&◌, ◌||◌, nat_le, IsTrue, inl, inr, List, [], ◌∷◌, map, refl, sym, subst}
use Rattle.std.specs.List.{list_all, list_any}
use Rattle.std.proofs.lemmas.Bool.{or_cases, and_parts, and_from}
use Rattle.hs_pure.specs.declared.var.Var.{Var}
use Rattle.hs_pure.specs.declared.pure.Pure.{Pure, ind-Pure, fold-roll-Pure, map-Pure, roll-Pure}
use Rattle.hs_pure.specs.declared.pure.Pure.TheOpen.{Pure-F}
use Rattle.hs_pure.specs.Occurs.{BagUse, is_free, is_bound, is_bound_level, bag_use, bag_use_level, has_bags}
use Rattle.hs_pure.specs.Eval.{has_quantifiers, has_quantifiers_level}
use Rattle.hs_pure.proofs.Vars.{or_left}
use Rattle.hs_heap.specs.Tests.{pure_fits}
use Rattle.hs_heap.proofs.Tells.{Tells, tells_both, tells_not, tells_le}
use Rattle.hs_heap.proofs.Parts.{PartsFit, parts_of, pure_told}
use Rattle.hs_heap.proofs.Booleans.{or_false_left, or_false_right, not_of_false, clash}
use Rattle.hs_heap.proofs.Occurring.{occurs-splits}
use Rattle.hs_core.specs.Sound.{IsUpTo, IsSlot, ConditionFits}
use Rattle.hs_core.specs.Tests.{is_up_to, is_slot, is_simple, is_simple_level, condition_fits}

-- ---- formulas without quantifiers and bag literals

-- what is told of a formula
record Marks : Type 0 where
  pub test : Bool
  pub quantified : Bool
  pub has : Bool
  pub under : Bool
  pub bound : Var → Bool

record Clear (q : Marks) : Type 0 where
  pub quantified : q.quantified ≡ false
  pub has : q.has ≡ false
  pub under : q.under ≡ false
  pub bound : (u : Var) → q.bound u ≡ false

abbrev Told : Marks → Type 0
Told q = (IsTrue q.test → Clear q) × (q.quantified ≡ false → q.has ≡ false → IsTrue q.test)

abbrev no_marks : Marks
no_marks = record { test = true; quantified = false; has = false; under = false; bound = λ v. false }

abbrev joined : Marks → Marks → Marks
joined q r = record {
  test = q.test && r.test;
  quantified = q.quantified || r.quantified;
  has = q.has || r.has;
  under = q.under || r.under;
  bound = λ v. q.bound v || r.bound v;
}

none_of : (a b : Bool) → a ≡ false → b ≡ false → (a || b) ≡ false
none_of true b e f = absurd cc
none_of false b e f = f

no_marks_told : Told no_marks
no_marks_told = (λ h. record { quantified = refl; has = refl; under = refl; bound = λ u. refl }, λ e f. refl)

joined_told : (q r : Marks) → Told q → Told r → Told (joined q r)
joined_told q r f g = (
  λ h.
      let parts = and_parts q.test r.test h in
      let a : Clear q = f.0 parts.0 in
      let b : Clear r = g.0 parts.1 in
      record {
        quantified = none_of q.quantified r.quantified a.quantified b.quantified;
        has = none_of q.has r.has a.has b.has;
        under = none_of q.under r.under a.under b.under;
        bound = λ u. none_of (q.bound u) (r.bound u) (a.bound u) (b.bound u);
      },
  λ c d. and_from q.test r.test (f.1 (or_false_left q.quantified r.quantified c) (or_false_left q.has r.has d)) (g.1 (or_false_right q.quantified r.quantified c) (or_false_right q.has r.has d)),
)

-- a bag literal
has_told : (q : Marks) → q.test ≡ false → q.has ≡ true → Told q
has_told q e f = (λ h. clash h e, λ c d. clash f d)

-- a quantifier
quantified_told : (q : Marks) → q.test ≡ false → q.quantified ≡ true → Told q
quantified_told q e f = (λ h. clash h e, λ c d. clash f c)

abbrev marks_of : Pure → Marks
marks_of p = record { test = is_simple p; quantified = has_quantifiers p; has = has_bags p; under = (bag_use p).under; bound = λ v. is_bound v p }

abbrev ToldOf : Type 0
ToldOf = (p : Pure) × Told (marks_of p)

abbrev pure_in : Pure-F ToldOf → Pure-F Pure
pure_in y = map-Pure ToldOf Pure (λ e. e.0) y

abbrev level : Pure-F ToldOf → Marks
level y = record {
  test = is_simple_level (map-Pure Pure Bool is_simple (pure_in y));
  quantified = has_quantifiers_level (map-Pure Pure Bool has_quantifiers (pure_in y));
  has = (bag_use_level (map-Pure Pure BagUse bag_use (pure_in y))).has;
  under = (bag_use_level (map-Pure Pure BagUse bag_use (pure_in y))).under;
  bound = λ v. is_bound_level v (map-Pure Pure Bool (is_bound v) (pure_in y));
}

rolled : (y : Pure-F ToldOf) → marks_of (roll-Pure (pure_in y)) ≡ level y
rolled y = λ i. record {
  test = fold-roll-Pure Bool is_simple_level (pure_in y) i;
  quantified = fold-roll-Pure Bool has_quantifiers_level (pure_in y) i;
  has = (fold-roll-Pure BagUse bag_use_level (pure_in y) i).has;
  under = (fold-roll-Pure BagUse bag_use_level (pure_in y) i).under;
  bound = λ v. fold-roll-Pure Bool (is_bound_level v) (pure_in y) i;
}

-- the marks of several formulas
abbrev group : List ToldOf → Marks
group ps = record {
  test = list_all (λ b. b) (map is_simple (map (λ (e : ToldOf). e.0) ps));
  quantified = list_any (λ p. p) (map has_quantifiers (map (λ (e : ToldOf). e.0) ps));
  has = list_any (λ (p : BagUse). p.has) (map bag_use (map (λ (e : ToldOf). e.0) ps));
  under = list_any (λ (p : BagUse). p.under) (map bag_use (map (λ (e : ToldOf). e.0) ps));
  bound = λ v. list_any (λ p. p) (map (is_bound v) (map (λ (e : ToldOf). e.0) ps));
}

group_told : (ps : List ToldOf) → Told (group ps)
group_told [] = no_marks_told
group_told (p ∷ ps) = joined_told (marks_of p.0) (group ps) p.1 (group_told ps)

step : (y : Pure-F ToldOf) → Told (level y)
step (Pure-F.Eq a b) = no_marks_told
step (Pure-F.Lt a b) = no_marks_told
step (Pure-F.Le a b) = no_marks_told
step (Pure-F.Divides d a) = no_marks_told
step (Pure-F.BagEq a b) = has_told (level (Pure-F.BagEq a b)) refl refl
step (Pure-F.Subset a b) = has_told (level (Pure-F.Subset a b)) refl refl
step (Pure-F.Member a b) = has_told (level (Pure-F.Member a b)) refl refl
step (Pure-F.AllOf u b p) = has_told (level (Pure-F.AllOf u b p)) refl refl
step (Pure-F.Not p) = p.1
step (Pure-F.And ps) = group_told ps
step (Pure-F.Or ps) = group_told ps
step (Pure-F.Exists u p) = quantified_told (level (Pure-F.Exists u p)) refl refl
step (Pure-F.Forall u p) = quantified_told (level (Pure-F.Forall u p)) refl refl

marks_told : (p : Pure) → Told (marks_of p)
marks_told = ind-Pure (λ p. Told (marks_of p)) (λ x y is. subst (λ x. Told (marks_of (roll-Pure x))) is (subst Told (sym (rolled y)) (step y)))

-- ---- slots

pub up_to_told : (n k : ℕ) → Tells (is_up_to n k) (IsUpTo n k)
up_to_told n k = tells_both (nat_le 1 k) (nat_le k n) (1 ≤ k) (k ≤ n) (tells_le 1 k) (tells_le k n)

pub slot_told : (n : ℕ) (v : Var) → Tells (is_slot n v) (IsSlot n v)
slot_told n v = tells_both (not v.bag) (is_up_to n v.number) (v.bag ≡ false) (IsUpTo n v.number) (tells_not v.bag) (up_to_told n v.number)

-- ---- conditions

module _ (n : ℕ) (p : Pure) where
  abbrev Fit : Type 0
  Fit = PartsFit (is_slot n) 0 (is_slot n) (parts_of (is_slot n) 0 p)

  forth : Clear (marks_of p) → Fit → ConditionFits n p
  forth c f = record {
    formed = record {
      ordered = f.ordered;
      light = f.light;
      bags = f.bags;
      binders = λ u b. clash b (c.bound u);
      members = f.members;
      plain = not_of_false c.under;
    };
    no_quantifiers = c.quantified;
    no_bags = c.has;
    slots = λ v o. elim (or_cases (is_free v p) (is_bound v p) (subst IsTrue (occurs-splits v p) o)) [
      | inl e ↦ (slot_told n v).0 (f.among v e)
      | inr e ↦ clash e (c.bound v)
    ];
  }

  back : Clear (marks_of p) → ConditionFits n p → Fit
  back c f = record {
    ordered = f.formed.ordered;
    light = f.formed.light;
    bags = f.formed.bags;
    members = f.formed.members;
    binders = λ u b. clash b (c.bound u);
    among = λ v e. (slot_told n v).1 (f.slots v (subst IsTrue (sym (occurs-splits v p)) (or_left (is_free v p) (is_bound v p) e)));
  }

  pub condition_told : Tells (condition_fits n p) (ConditionFits n p)
  condition_told = (
    λ h. let parts = and_parts (is_simple p) (pure_fits (is_slot n) 0 p (is_slot n)) h in forth ((marks_told p).0 parts.0) ((pure_told (is_slot n) 0 p (is_slot n)).0 parts.1),
    λ f.
        let simple : IsTrue (is_simple p) = (marks_told p).1 f.no_quantifiers f.no_bags in
        and_from (is_simple p) (pure_fits (is_slot n) 0 p (is_slot n)) simple ((pure_told (is_slot n) 0 p (is_slot n)).1 (back ((marks_told p).0 simple) f)),
  )
