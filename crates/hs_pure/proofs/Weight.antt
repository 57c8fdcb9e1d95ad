-- Sums whose coefficients add up to little stay in range under every renaming, and stay in order.
use Rattle.std.proofs.Common.{◌≡◌, ℕ, zero, suc, ◌+◌, ◌<◌, ◌≤◌, ◌^◌, ℤ, pos, ◌+ℤ◌, unsigned_abs, Bool, true, false, nat_lt, List, [], ◌∷◌, ◌++◌, length, get_or, map, take, lit<, refl, sym, ap, ◌∙◌, subst, if◌then◌else◌, arith}
use mir.Syntax.{w128}
use Rattle.std.proofs.lemmas.Int.{ints, fits_signed_from_abs}
use Rattle.std.proofs.lemmas.Bool.Decides.{Decides-int_eq, nat_tests}
use Rattle.std.proofs.lemmas.List.{map-append}
use Rattle.std.proofs.lemmas.List.Elements.{All-map}
use Rattle.std.specs.List.{fold, All, flat_map}
use Rattle.std.specs.Ordering.{int_eq}
use Rattle.hs_pure.specs.declared.var.Var.{Var}
use Rattle.hs_pure.specs.declared.lin.Lin.{Lin}
use Rattle.hs_pure.specs.declared.bag.Bag.{Bag, map-Bag}
use Rattle.hs_pure.specs.declared.bag.Bag.TheOpen.{Bag-F}
use Rattle.hs_pure.specs.declared.pure.Pure.{Pure, map-Pure}
use Rattle.hs_pure.specs.declared.pure.Pure.TheOpen.{Pure-F}
use Rattle.hs_pure.specs.Stack.{same}
use Rattle.hs_pure.specs.Occurs.{BagUse, bag_use, bag_use_level}
use Rattle.hs_pure.specs.Rename.{add_term, renamed_terms, renamed_lin, renamed_bag, renamed_bag_level, renamed, renamed_level, bag_sums, bag_sums_level, sums, sums_level, MergeFits, LinInRange, InRange}
use Rattle.hs_pure.specs.Sums.{weight, LinIsLight, IsLight, RisesFrom, LinIsOrdered, IsOrdered, KeepsKinds}
use Rattle.hs_pure.proofs.Vars.{same-eq, same-from}
use Rattle.hs_pure.proofs.Levels.{related, Both, related_bag, BothBag}
use Rattle.hs_pure.proofs.Views.{fold_bag-Empty, fold_bag-Name, fold_bag-One, fold_bag-Union, fold_bag-Inter, fold_bag-Diff, fold-Eq, fold-Lt, fold-Le, fold-Divides, fold-BagEq, fold-Subset, fold-Member, fold-AllOf, fold-Not, fold-And, fold-Or, fold-Exists, fold-Forall}
use Rattle.hs_pure.proofs.Lists.{All-weaker}

abs_add : (a b : ℤ) → unsigned_abs (a +ℤ b) ≤ unsigned_abs a + unsigned_abs b
abs_add a b = omega (arith, ints)

weight-add_term : (v : Var) (c : ℤ) (ts : List (Var × ℤ)) → weight (add_term v c ts) ≤ unsigned_abs c + weight ts
weight-add_term v c [] = omega arith
weight-add_term v c (t ∷ ts) = go (nat_lt t.0.number v.number) (same t.0 v) (int_eq (t.1 +ℤ c) (pos 0)) (weight-add_term v c ts)
  where
    go : (less is none : Bool) → weight (add_term v c ts) ≤ unsigned_abs c + weight ts →
        weight (if less then t ∷ add_term v c ts else (if is then (if none then ts else (v, t.1 +ℤ c) ∷ ts) else (v, c) ∷ t ∷ ts)) ≤ unsigned_abs c + (unsigned_abs t.1 + weight ts)
    go true is none ih = omega arith
    go false true true ih = omega arith
    go false true false ih = let h = abs_add t.1 c in omega arith
    go false false none ih = omega arith

module _ (ρ : Var → Var) where
  weight-fold : (ts sum : List (Var × ℤ)) → weight (fold (λ s t. add_term (ρ t.0) t.1 s) sum ts) ≤ weight sum + weight ts
  weight-fold [] sum = omega arith
  weight-fold (t ∷ ts) sum = let h = weight-add_term (ρ t.0) t.1 sum in let i = weight-fold ts (add_term (ρ t.0) t.1 sum) in omega arith

  -- what is added to a light sum stays in range
  merges_light : (v : Var) (c : ℤ) (ts : List (Var × ℤ)) (n : ℕ) → weight ts + unsigned_abs c ≤ n → n < 2 ^ 127 → MergeFits v c ts
  merges_light v c [] n le lt i d less is = absurd (omega arith)
  merges_light v c (t ∷ ts) n le lt zero d less is = let h = abs_add t.1 c in fits_signed_from_abs w128 (t.1 +ℤ c) (omega arith)
  merges_light v c (t ∷ ts) n le lt (suc i) d less is = merges_light v c ts n (omega arith) lt i d (omega arith) is

  -- the first terms and the next one weigh no more than all
  weight-next : (k : ℕ) (ts : List (Var × ℤ)) (d : Var × ℤ) → k < length ts → weight (take k ts) + unsigned_abs (get_or ts k d).1 ≤ weight ts
  weight-next k [] d less = absurd (omega arith)
  weight-next zero (t ∷ ts) d less = omega arith
  weight-next (suc k) (t ∷ ts) d less = let h = weight-next k ts d (omega arith) in omega arith

  pub lin_in_range : (a : Lin) → LinIsLight a → LinInRange ρ a
  lin_in_range a le = record {
    merges_fit = λ k d less.
        let t = get_or a.terms k d in
        let h = weight-fold (take k a.terms) [] in
        let i = weight-next k a.terms d less in
        let j : 2 ^ 126 < 2 ^ 127 = lit< tt in
        merges_light (ρ t.0) t.1 (renamed_terms ρ (take k a.terms)) (2 ^ 126) (omega arith) j;
  }

  -- a renamed sum weighs no more
  pub lin_light-renamed : (a : Lin) → LinIsLight a → LinIsLight (renamed_lin ρ a)
  lin_light-renamed a le = let h = weight-fold a.terms [] in omega arith

  pub light_in_range : (p : Pure) → IsLight p → InRange ρ p
  light_in_range p h = record { each = All-weaker LinIsLight (LinInRange ρ) lin_in_range (sums p) h }

  -- the sums of a renamed formula are the renamed sums

  abbrev BagSums : Bag → List Lin → Type 0
  BagSums b ls = bag_sums b ≡ map (renamed_lin ρ) ls

  abbrev BagPair : Type 0
  BagPair = BothBag BagSums (renamed_bag_level ρ) bag_sums_level

  two : (a b : List Lin) (c d : List Lin) → a ≡ map (renamed_lin ρ) c → b ≡ map (renamed_lin ρ) d → a ++ b ≡ map (renamed_lin ρ) (c ++ d)
  two a b c d e f = (λ i. e i ++ f i) ∙ sym (map-append (renamed_lin ρ) c d)

  bag_level_sums : (z : Bag-F BagPair) → BagSums (renamed_bag_level ρ (map-Bag BagPair Bag (λ e. e.0) z)) (bag_sums_level (map-Bag BagPair (List Lin) (λ e. e.1.0) z))
  bag_level_sums Bag-F.Empty = fold_bag-Empty bag_sums_level
  bag_level_sums (Bag-F.Name v) = fold_bag-Name bag_sums_level (ρ v)
  bag_level_sums (Bag-F.One a) = fold_bag-One bag_sums_level (renamed_lin ρ a)
  bag_level_sums (Bag-F.Union a b) = fold_bag-Union bag_sums_level a.0 b.0 ∙ two (bag_sums a.0) (bag_sums b.0) a.1.0 b.1.0 a.1.1 b.1.1
  bag_level_sums (Bag-F.Inter a b) = fold_bag-Inter bag_sums_level a.0 b.0 ∙ two (bag_sums a.0) (bag_sums b.0) a.1.0 b.1.0 a.1.1 b.1.1
  bag_level_sums (Bag-F.Diff a b) = fold_bag-Diff bag_sums_level a.0 b.0 ∙ two (bag_sums a.0) (bag_sums b.0) a.1.0 b.1.0 a.1.1 b.1.1

  pub bag_sums-renamed : (b : Bag) → bag_sums (renamed_bag ρ b) ≡ map (renamed_lin ρ) (bag_sums b)
  bag_sums-renamed = related_bag BagSums (renamed_bag_level ρ) bag_sums_level bag_level_sums

  abbrev Sums : Pure → List Lin → Type 0
  Sums p ls = sums p ≡ map (renamed_lin ρ) ls

  abbrev Pair : Type 0
  Pair = Both Sums (renamed_level ρ) sums_level

  all_sums : (zs : List Pair) → flat_map (λ ls. ls) (map sums (map (λ (e : Pair). e.0) zs)) ≡ map (renamed_lin ρ) (flat_map (λ ls. ls) (map (λ (e : Pair). e.1.0) zs))
  all_sums [] = refl
  all_sums (z ∷ zs) = two (sums z.0) (flat_map (λ ls. ls) (map sums (map (λ (e : Pair). e.0) zs))) z.1.0 (flat_map (λ ls. ls) (map (λ (e : Pair). e.1.0) zs)) z.1.1 (all_sums zs)

  level_sums : (z : Pure-F Pair) → Sums (renamed_level ρ (map-Pure Pair Pure (λ e. e.0) z)) (sums_level (map-Pure Pair (List Lin) (λ e. e.1.0) z))
  level_sums (Pure-F.Eq a b) = fold-Eq sums_level (renamed_lin ρ a) (renamed_lin ρ b)
  level_sums (Pure-F.Lt a b) = fold-Lt sums_level (renamed_lin ρ a) (renamed_lin ρ b)
  level_sums (Pure-F.Le a b) = fold-Le sums_level (renamed_lin ρ a) (renamed_lin ρ b)
  level_sums (Pure-F.Divides d a) = fold-Divides sums_level d (renamed_lin ρ a)
  level_sums (Pure-F.BagEq a b) = fold-BagEq sums_level (renamed_bag ρ a) (renamed_bag ρ b) ∙ two (bag_sums (renamed_bag ρ a)) (bag_sums (renamed_bag ρ b)) (bag_sums a) (bag_sums b) (bag_sums-renamed a) (bag_sums-renamed b)
  level_sums (Pure-F.Subset a b) = fold-Subset sums_level (renamed_bag ρ a) (renamed_bag ρ b) ∙ two (bag_sums (renamed_bag ρ a)) (bag_sums (renamed_bag ρ b)) (bag_sums a) (bag_sums b) (bag_sums-renamed a) (bag_sums-renamed b)
  level_sums (Pure-F.Member a b) = fold-Member sums_level (renamed_lin ρ a) (renamed_bag ρ b) ∙ ap (λ ls. renamed_lin ρ a ∷ ls) (bag_sums-renamed b)
  level_sums (Pure-F.AllOf u b p) = fold-AllOf sums_level (ρ u) (renamed_bag ρ b) p.0 ∙ two (bag_sums (renamed_bag ρ b)) (sums p.0) (bag_sums b) p.1.0 (bag_sums-renamed b) p.1.1
  level_sums (Pure-F.Not p) = fold-Not sums_level p.0 ∙ p.1.1
  level_sums (Pure-F.And ps) = fold-And sums_level (map (λ (e : Pair). e.0) ps) ∙ all_sums ps
  level_sums (Pure-F.Or ps) = fold-Or sums_level (map (λ (e : Pair). e.0) ps) ∙ all_sums ps
  level_sums (Pure-F.Exists u p) = fold-Exists sums_level (ρ u) p.0 ∙ p.1.1
  level_sums (Pure-F.Forall u p) = fold-Forall sums_level (ρ u) p.0 ∙ p.1.1

  pub sums-renamed : (p : Pure) → sums (renamed ρ p) ≡ map (renamed_lin ρ) (sums p)
  sums-renamed = related Sums (renamed_level ρ) sums_level level_sums

  pub light-renamed : (p : Pure) → IsLight p → IsLight (renamed ρ p)
  light-renamed p h = subst (All LinIsLight) (sym (sums-renamed p))
      (All-map LinIsLight (renamed_lin ρ) (sums p) (All-weaker LinIsLight (λ a. LinIsLight (renamed_lin ρ a)) lin_light-renamed (sums p) h))

-- ---- order

rises_lower : (m n : ℕ) (ts : List (Var × ℤ)) → m ≤ n → RisesFrom n ts → RisesFrom m ts
rises_lower m n [] le h = tt
rises_lower m n (t ∷ ts) le h = let k = h.0 in (omega arith, h.1, h.2, h.3)

not_lower : (m n : ℕ) → nat_lt m n ≡ false → n ≤ m
not_lower m n h = grind (arith, nat_tests)

lower : (m n : ℕ) → nat_lt m n ≡ true → m < n
lower m n h = grind (arith, nat_tests)

apart : (m n : ℕ) → n ≤ m → ¬ (m ≡ n) → n < m
apart m n le h = grind arith

not_zero : (z : ℤ) → int_eq z (pos 0) ≡ false → ¬ (z ≡ pos 0)
not_zero z e h = let f : int_eq z (pos 0) ≡ true = (Decides-int_eq z (pos 0)).1 h in cc

rises-add_term : (v : Var) (c : ℤ) (n : ℕ) (ts : List (Var × ℤ)) → n ≤ v.number → v.bag ≡ false → ¬ (c ≡ pos 0) → RisesFrom n ts → RisesFrom n (add_term v c ts)
rises-add_term v c n [] from kind some h = (from, kind, some, tt)
rises-add_term v c n (t ∷ ts) from kind some h =
    go (nat_lt t.0.number v.number) (same t.0 v) (int_eq (t.1 +ℤ c) (pos 0)) refl refl refl
    (λ (less : t.0.number < v.number). rises-add_term v c (suc t.0.number) ts (omega arith) kind some h.3)
  where
    go : (less is none : Bool) → nat_lt t.0.number v.number ≡ less → same t.0 v ≡ is → int_eq (t.1 +ℤ c) (pos 0) ≡ none →
        (t.0.number < v.number → RisesFrom (suc t.0.number) (add_term v c ts)) →
        RisesFrom n (if less then t ∷ add_term v c ts else (if is then (if none then ts else (v, t.1 +ℤ c) ∷ ts) else (v, c) ∷ t ∷ ts))
    go true is none e f g ih = (h.0, h.1, h.2, ih (lower t.0.number v.number e))
    go false true true e f g ih = let k = h.0 in rises_lower n (suc t.0.number) ts (omega arith) h.3
    go false true false e f g ih = (from, kind, not_zero (t.1 +ℤ c) g, subst (λ (u : Var). RisesFrom (suc u.number) ts) (same-eq t.0 v f) h.3)
    go false false none e f g ih = (from, kind, some, (apart t.0.number v.number (not_lower t.0.number v.number e) (λ (k : t.0.number ≡ v.number). let is : same t.0 v ≡ true = same-from t.0 v k (h.1 ∙ sym kind) in (cc)), h.1, h.2, h.3))

module _ (ρ : Var → Var) (kinds : KeepsKinds ρ) where
  rises-fold : (n : ℕ) (ts sum : List (Var × ℤ)) → RisesFrom n ts → RisesFrom 0 sum → RisesFrom 0 (fold (λ s t. add_term (ρ t.0) t.1 s) sum ts)
  rises-fold n [] sum h g = g
  rises-fold n (t ∷ ts) sum h g = rises-fold (suc t.0.number) ts (add_term (ρ t.0) t.1 sum) h.3 (rises-add_term (ρ t.0) t.1 0 sum (omega arith) (kinds t.0 ∙ h.1) h.2 g)

  pub lin_ordered-renamed : (a : Lin) → LinIsOrdered a → LinIsOrdered (renamed_lin ρ a)
  lin_ordered-renamed a h = rises-fold 0 a.terms [] h tt

  pub ordered-renamed : (p : Pure) → IsOrdered p → IsOrdered (renamed ρ p)
  ordered-renamed p h = subst (All LinIsOrdered) (sym (sums-renamed ρ p))
      (All-map LinIsOrdered (renamed_lin ρ) (sums p) (All-weaker LinIsOrdered (λ a. LinIsOrdered (renamed_lin ρ a)) lin_ordered-renamed (sums p) h))

-- ---- bag literals stay where they are

module _ (ρ : Var → Var) where
  abbrev Uses : Pure → BagUse → Type 0
  Uses p u = bag_use p ≡ u

  abbrev UsePair : Type 0
  UsePair = Both Uses (renamed_level ρ) bag_use_level

  all_uses : (zs : List UsePair) → map bag_use (map (λ (e : UsePair). e.0) zs) ≡ map (λ (e : UsePair). e.1.0) zs
  all_uses [] = refl
  all_uses (z ∷ zs) = λ i. z.1.1 i ∷ all_uses zs i

  level_uses : (z : Pure-F UsePair) → Uses (renamed_level ρ (map-Pure UsePair Pure (λ e. e.0) z)) (bag_use_level (map-Pure UsePair BagUse (λ e. e.1.0) z))
  level_uses (Pure-F.Eq a b) = fold-Eq bag_use_level (renamed_lin ρ a) (renamed_lin ρ b)
  level_uses (Pure-F.Lt a b) = fold-Lt bag_use_level (renamed_lin ρ a) (renamed_lin ρ b)
  level_uses (Pure-F.Le a b) = fold-Le bag_use_level (renamed_lin ρ a) (renamed_lin ρ b)
  level_uses (Pure-F.Divides d a) = fold-Divides bag_use_level d (renamed_lin ρ a)
  level_uses (Pure-F.BagEq a b) = fold-BagEq bag_use_level (renamed_bag ρ a) (renamed_bag ρ b)
  level_uses (Pure-F.Subset a b) = fold-Subset bag_use_level (renamed_bag ρ a) (renamed_bag ρ b)
  level_uses (Pure-F.Member a b) = fold-Member bag_use_level (renamed_lin ρ a) (renamed_bag ρ b)
  level_uses (Pure-F.AllOf u b p) = fold-AllOf bag_use_level (ρ u) (renamed_bag ρ b) p.0 ∙ ap (λ (q : BagUse). bag_use_level (Pure-F.AllOf u b q)) p.1.1
  level_uses (Pure-F.Not p) = fold-Not bag_use_level p.0 ∙ p.1.1
  level_uses (Pure-F.And ps) = fold-And bag_use_level (map (λ (e : UsePair). e.0) ps) ∙ ap (λ (us : List BagUse). bag_use_level (Pure-F.And us)) (all_uses ps)
  level_uses (Pure-F.Or ps) = fold-Or bag_use_level (map (λ (e : UsePair). e.0) ps) ∙ ap (λ (us : List BagUse). bag_use_level (Pure-F.Or us)) (all_uses ps)
  level_uses (Pure-F.Exists u p) = fold-Exists bag_use_level (ρ u) p.0 ∙ ap (λ (q : BagUse). bag_use_level (Pure-F.Exists u q)) p.1.1
  level_uses (Pure-F.Forall u p) = fold-Forall bag_use_level (ρ u) p.0 ∙ ap (λ (q : BagUse). bag_use_level (Pure-F.Forall u q)) p.1.1

  pub bag_use-renamed : (p : Pure) → bag_use (renamed ρ p) ≡ bag_use p
  bag_use-renamed = related Uses (renamed_level ρ) bag_use_level level_uses
