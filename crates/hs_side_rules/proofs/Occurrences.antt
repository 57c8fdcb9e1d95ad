-- A test of each variable that occurs.
use Rattle.std.proofs.Common.{ℤ, Bool, true, false, ◌&&◌, ◌||◌, IsTrue, List, [], ◌∷◌, map, refl, sym, subst}
use Rattle.std.specs.List.{list_any, list_all}
use Rattle.hs_pure.specs.declared.var.Var.{Var}
use Rattle.hs_pure.specs.declared.lin.Lin.{Lin}
use Rattle.hs_pure.specs.declared.bag.Bag.{Bag, ind-Bag, fold-roll-Bag, map-Bag, roll-Bag}
use Rattle.hs_pure.specs.declared.bag.Bag.TheOpen.{Bag-F}
use Rattle.hs_pure.specs.declared.pure.Pure.{Pure, ind-Pure, fold-roll-Pure, map-Pure, roll-Pure}
use Rattle.hs_pure.specs.declared.pure.Pure.TheOpen.{Pure-F}
use Rattle.hs_pure.specs.Stack.{same}
use Rattle.hs_pure.specs.Occurs.{in_lin, in_bag, in_bag_level, occurs, occurs_level}
use Rattle.hs_pure.proofs.Vars.{or_left, or_right, same-eq, same-refl}
use Rattle.hs_heap.proofs.Tells.{Tells, tells, tells_both, either_all}
use Rattle.hs_side_rules.specs.Splitting.{all_in_sum, bag_level as all_level_of_bag, all_in_bag, level as all_level, all_in_formula}

module _ (test : Var → Bool) where
  -- what one test passes the other does
  abbrev pub Everywhere : (Var → Bool) → Type 0
  Everywhere has = (v : Var) → IsTrue (has v) → IsTrue (test v)

  none : Tells true (Everywhere (λ v. false))
  none = (λ h v e. absurd cc, λ h. refl)

  one : (u : Var) → Tells (test u) (Everywhere (λ v. same u v))
  one u = (λ h v e. subst (λ w. IsTrue (test w)) (same-eq u v e) h, λ h. h u (same-refl u))

  both : (p q : Var → Bool) (a b : Bool) → Tells a (Everywhere p) → Tells b (Everywhere q) → Tells (a && b) (Everywhere (λ v. p v || q v))
  both p q a b s t = tells (a && b) (Everywhere p × Everywhere q) (Everywhere (λ v. p v || q v)) (tells_both a b (Everywhere p) (Everywhere q) s t)
      (λ h. either_all p q (λ v. IsTrue (test v)) h.0 h.1) (λ h. (λ v e. h v (or_left (p v) (q v) e), λ v e. h v (or_right (p v) (q v) e)))

  terms_told : (ts : List (Var × ℤ)) → Tells (list_all (λ t. test t.0) ts) (Everywhere (λ v. list_any (λ t. same t.0 v) ts))
  terms_told [] = none
  terms_told (t ∷ ts) = both (λ v. same t.0 v) (λ v. list_any (λ u. same u.0 v) ts) (test t.0) (list_all (λ u. test u.0) ts) (one t.0) (terms_told ts)

  sum_told : (a : Lin) → Tells (all_in_sum test a) (Everywhere (λ v. in_lin v a))
  sum_told a = terms_told a.terms

  -- ---- bags

  abbrev BagTold : Bag → Type 0
  BagTold b = Tells (all_in_bag test b) (Everywhere (λ v. in_bag v b))

  bag_both : (a b : Bag) → BagTold a → BagTold b → Tells (all_in_bag test a && all_in_bag test b) (Everywhere (λ v. in_bag v a || in_bag v b))
  bag_both a b s t = both (λ v. in_bag v a) (λ v. in_bag v b) (all_in_bag test a) (all_in_bag test b) s t

  bag_step : (y : Bag-F ((b : Bag) × BagTold b)) → let x : Bag-F Bag = map-Bag ((b : Bag) × BagTold b) Bag (λ e. e.0) y in
      Tells (all_level_of_bag test (map-Bag Bag Bool (all_in_bag test) x)) (Everywhere (λ v. in_bag_level v (map-Bag Bag Bool (in_bag v) x)))
  bag_step Bag-F.Empty = none
  bag_step (Bag-F.Name u) = one u
  bag_step (Bag-F.One a) = sum_told a
  bag_step (Bag-F.Union a b) = bag_both a.0 b.0 a.1 b.1
  bag_step (Bag-F.Inter a b) = bag_both a.0 b.0 a.1 b.1
  bag_step (Bag-F.Diff a b) = bag_both a.0 b.0 a.1 b.1

  bag_told : (b : Bag) → BagTold b
  bag_told = ind-Bag BagTold (λ x y is.
      subst (λ c. Tells c (Everywhere (λ v. in_bag v (roll-Bag x)))) (sym (fold-roll-Bag Bool (all_level_of_bag test) x))
      (subst (λ has. Tells (all_level_of_bag test (map-Bag Bag Bool (all_in_bag test) x)) (Everywhere has)) (λ i v. sym (fold-roll-Bag Bool (in_bag_level v) x) i)
      (subst (λ x. Tells (all_level_of_bag test (map-Bag Bag Bool (all_in_bag test) x)) (Everywhere (λ v. in_bag_level v (map-Bag Bag Bool (in_bag v) x)))) is (bag_step y))))

  -- ---- formulas

  abbrev Told : Pure → Type 0
  Told p = Tells (all_in_formula test p) (Everywhere (λ v. occurs v p))

  members_told : (ps : List ((p : Pure) × Told p)) →
      Tells (list_all (λ b. b) (map (all_in_formula test) (map (λ e. e.0) ps))) (Everywhere (λ v. list_any (λ b. b) (map (occurs v) (map (λ e. e.0) ps))))
  members_told [] = none
  members_told (p ∷ ps) = both (λ v. occurs v p.0) (λ v. list_any (λ b. b) (map (occurs v) (map (λ e. e.0) ps))) (all_in_formula test p.0) (list_all (λ b. b) (map (all_in_formula test) (map (λ e. e.0) ps))) p.1 (members_told ps)

  sums_told : (a b : Lin) → Tells (all_in_sum test a && all_in_sum test b) (Everywhere (λ v. in_lin v a || in_lin v b))
  sums_told a b = both (λ v. in_lin v a) (λ v. in_lin v b) (all_in_sum test a) (all_in_sum test b) (sum_told a) (sum_told b)

  bags_told : (a b : Bag) → Tells (all_in_bag test a && all_in_bag test b) (Everywhere (λ v. in_bag v a || in_bag v b))
  bags_told a b = bag_both a b (bag_told a) (bag_told b)

  binder_told : (u : Var) (p : Pure) → Told p → Tells (test u && all_in_formula test p) (Everywhere (λ v. same u v || occurs v p))
  binder_told u p t = both (λ v. same u v) (λ v. occurs v p) (test u) (all_in_formula test p) (one u) t

  step : (y : Pure-F ((p : Pure) × Told p)) → let x : Pure-F Pure = map-Pure ((p : Pure) × Told p) Pure (λ e. e.0) y in
      Tells (all_level test (map-Pure Pure Bool (all_in_formula test) x)) (Everywhere (λ v. occurs_level v (map-Pure Pure Bool (occurs v) x)))
  step (Pure-F.Eq a b) = sums_told a b
  step (Pure-F.Lt a b) = sums_told a b
  step (Pure-F.Le a b) = sums_told a b
  step (Pure-F.Divides d a) = sum_told a
  step (Pure-F.BagEq a b) = bags_told a b
  step (Pure-F.Subset a b) = bags_told a b
  step (Pure-F.Member a b) = both (λ v. in_lin v a) (λ v. in_bag v b) (all_in_sum test a) (all_in_bag test b) (sum_told a) (bag_told b)
  step (Pure-F.AllOf u b p) = both (λ v. in_bag v b) (λ v. same u v || occurs v p.0) (all_in_bag test b) (test u && all_in_formula test p.0) (bag_told b) (binder_told u p.0 p.1)
  step (Pure-F.Not p) = p.1
  step (Pure-F.And ps) = members_told ps
  step (Pure-F.Or ps) = members_told ps
  step (Pure-F.Exists u p) = binder_told u p.0 p.1
  step (Pure-F.Forall u p) = binder_told u p.0 p.1

  -- the test is true exactly where each variable that occurs passes
  pub all_told : (p : Pure) → Told p
  all_told = ind-Pure Told (λ x y is.
      subst (λ c. Tells c (Everywhere (λ v. occurs v (roll-Pure x)))) (sym (fold-roll-Pure Bool (all_level test) x))
      (subst (λ has. Tells (all_level test (map-Pure Pure Bool (all_in_formula test) x)) (Everywhere has)) (λ i v. sym (fold-roll-Pure Bool (occurs_level v) x) i)
      (subst (λ x. Tells (all_level test (map-Pure Pure Bool (all_in_formula test) x)) (Everywhere (λ v. occurs_level v (map-Pure Pure Bool (occurs v) x)))) is (step y))))
