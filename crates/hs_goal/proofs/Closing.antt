-- Formulas in which no variable occurs are told.
use Rattle.std.proofs.Common.{◌≡◌, ℤ, Bool, true, false, ◌&&◌, ◌||◌, IsTrue, List, [], ◌∷◌, map, refl, sym, subst}
use Rattle.std.specs.List.{list_any, list_all}
use Rattle.hs_pure.specs.declared.var.Var.{Var}
use Rattle.hs_pure.specs.declared.lin.Lin.{Lin}
use Rattle.hs_pure.specs.declared.bag.Bag.{Bag, ind-Bag, fold-roll-Bag, map-Bag, roll-Bag}
use Rattle.hs_pure.specs.declared.bag.Bag.TheOpen.{Bag-F}
use Rattle.hs_pure.specs.declared.pure.Pure.{Pure, ind-Pure, fold-roll-Pure, map-Pure, roll-Pure}
use Rattle.hs_pure.specs.declared.pure.Pure.TheOpen.{Pure-F}
use Rattle.hs_pure.specs.Stack.{same}
use Rattle.hs_pure.specs.Occurs.{in_lin, in_bag, in_bag_level, occurs, occurs_level}
use Rattle.hs_pure.proofs.Vars.{or_left, or_right, same-refl}
use Rattle.hs_heap.proofs.Booleans.{clash, or_false_left, or_false_right}
use Rattle.hs_heap.proofs.Tells.{Tells, tells, tells_both}
use Rattle.hs_goal.specs.Closed.{sum_is_closed, bag_is_closed, bag_is_closed_level, is_closed, is_closed_level, is_nil}

-- no variable passes the test
abbrev pub Nowhere : (Var → Bool) → Type 0
Nowhere has = (v : Var) → has v ≡ false

or_none : (a b : Bool) → a ≡ false → b ≡ false → (a || b) ≡ false
or_none false b e f = f
or_none true b e f = e

pub nowhere : Tells true (Nowhere (λ v. false))
nowhere = (λ h v. refl, λ h. refl)

pub somewhere : (has : Var → Bool) (u : Var) → IsTrue (has u) → Tells false (Nowhere has)
somewhere has u is = (λ h. absurd cc, λ h. clash is (h u))

module _ (p q : Var → Bool) (a b : Bool) where
  pub nowhere_both : Tells a (Nowhere p) → Tells b (Nowhere q) → Tells (a && b) (Nowhere (λ v. p v || q v))
  nowhere_both s t = tells (a && b) (Nowhere p × Nowhere q) (Nowhere (λ v. p v || q v)) (tells_both a b (Nowhere p) (Nowhere q) s t)
      (λ h v. or_none (p v) (q v) (h.0 v) (h.1 v)) (λ h. (λ v. or_false_left (p v) (q v) (h v), λ v. or_false_right (p v) (q v) (h v)))

terms_told : (ts : List (Var × ℤ)) → Tells (is_nil ts) (Nowhere (λ v. list_any (λ t. same t.0 v) ts))
terms_told [] = nowhere
terms_told (t ∷ ts) = somewhere (λ v. same t.0 v || list_any (λ t. same t.0 v) ts) t.0 (or_left (same t.0 t.0) (list_any (λ u. same u.0 t.0) ts) (same-refl t.0))

sum_told : (a : Lin) → Tells (sum_is_closed a) (Nowhere (λ v. in_lin v a))
sum_told a = terms_told a.terms

-- ---- bags

abbrev BagTold : Bag → Type 0
BagTold b = Tells (bag_is_closed b) (Nowhere (λ v. in_bag v b))

bag_level : (y : Bag-F ((b : Bag) × BagTold b)) → let x : Bag-F Bag = map-Bag ((b : Bag) × BagTold b) Bag (λ e. e.0) y in
    Tells (bag_is_closed_level (map-Bag Bag Bool bag_is_closed x)) (Nowhere (λ v. in_bag_level v (map-Bag Bag Bool (in_bag v) x)))
bag_level Bag-F.Empty = nowhere
bag_level (Bag-F.Name u) = somewhere (λ v. same u v) u (same-refl u)
bag_level (Bag-F.One a) = sum_told a
bag_level (Bag-F.Union a b) = nowhere_both (λ v. in_bag v a.0) (λ v. in_bag v b.0) (bag_is_closed a.0) (bag_is_closed b.0) a.1 b.1
bag_level (Bag-F.Inter a b) = nowhere_both (λ v. in_bag v a.0) (λ v. in_bag v b.0) (bag_is_closed a.0) (bag_is_closed b.0) a.1 b.1
bag_level (Bag-F.Diff a b) = nowhere_both (λ v. in_bag v a.0) (λ v. in_bag v b.0) (bag_is_closed a.0) (bag_is_closed b.0) a.1 b.1

bag_told : (b : Bag) → BagTold b
bag_told = ind-Bag BagTold (λ x y is.
    subst (λ c. Tells c (Nowhere (λ v. in_bag v (roll-Bag x)))) (sym (fold-roll-Bag Bool bag_is_closed_level x))
    (subst (λ has. Tells (bag_is_closed_level (map-Bag Bag Bool bag_is_closed x)) (Nowhere has)) (λ i v. sym (fold-roll-Bag Bool (in_bag_level v) x) i)
    (subst (λ x. Tells (bag_is_closed_level (map-Bag Bag Bool bag_is_closed x)) (Nowhere (λ v. in_bag_level v (map-Bag Bag Bool (in_bag v) x)))) is (bag_level y))))

-- ---- formulas

abbrev Told : Pure → Type 0
Told p = Tells (is_closed p) (Nowhere (λ v. occurs v p))

members_told : (ps : List ((p : Pure) × Told p)) →
    Tells (list_all (λ b. b) (map is_closed (map (λ e. e.0) ps))) (Nowhere (λ v. list_any (λ b. b) (map (occurs v) (map (λ e. e.0) ps))))
members_told [] = nowhere
members_told (p ∷ ps) = nowhere_both (λ v. occurs v p.0) (λ v. list_any (λ b. b) (map (occurs v) (map (λ e. e.0) ps))) (is_closed p.0) (list_all (λ b. b) (map is_closed (map (λ e. e.0) ps))) p.1 (members_told ps)

binder_told : (u : Var) (p : Var → Bool) → Tells false (Nowhere (λ v. same u v || p v))
binder_told u p = somewhere (λ v. same u v || p v) u (or_left (same u u) (p u) (same-refl u))

pure_level : (y : Pure-F ((p : Pure) × Told p)) → let x : Pure-F Pure = map-Pure ((p : Pure) × Told p) Pure (λ e. e.0) y in
    Tells (is_closed_level (map-Pure Pure Bool is_closed x)) (Nowhere (λ v. occurs_level v (map-Pure Pure Bool (occurs v) x)))
pure_level (Pure-F.Eq a b) = nowhere_both (λ v. in_lin v a) (λ v. in_lin v b) (sum_is_closed a) (sum_is_closed b) (sum_told a) (sum_told b)
pure_level (Pure-F.Lt a b) = nowhere_both (λ v. in_lin v a) (λ v. in_lin v b) (sum_is_closed a) (sum_is_closed b) (sum_told a) (sum_told b)
pure_level (Pure-F.Le a b) = nowhere_both (λ v. in_lin v a) (λ v. in_lin v b) (sum_is_closed a) (sum_is_closed b) (sum_told a) (sum_told b)
pure_level (Pure-F.Divides d a) = sum_told a
pure_level (Pure-F.BagEq a b) = nowhere_both (λ v. in_bag v a) (λ v. in_bag v b) (bag_is_closed a) (bag_is_closed b) (bag_told a) (bag_told b)
pure_level (Pure-F.Subset a b) = nowhere_both (λ v. in_bag v a) (λ v. in_bag v b) (bag_is_closed a) (bag_is_closed b) (bag_told a) (bag_told b)
pure_level (Pure-F.Member a b) = nowhere_both (λ v. in_lin v a) (λ v. in_bag v b) (sum_is_closed a) (bag_is_closed b) (sum_told a) (bag_told b)
pure_level (Pure-F.AllOf u b p) = somewhere (λ v. in_bag v b || (same u v || occurs v p.0)) u (or_right (in_bag u b) (same u u || occurs u p.0) (or_left (same u u) (occurs u p.0) (same-refl u)))
pure_level (Pure-F.Not p) = p.1
pure_level (Pure-F.And ps) = members_told ps
pure_level (Pure-F.Or ps) = members_told ps
pure_level (Pure-F.Exists u p) = binder_told u (λ v. occurs v p.0)
pure_level (Pure-F.Forall u p) = binder_told u (λ v. occurs v p.0)

-- the test is true exactly where no variable occurs
pub closed_told : (p : Pure) → Tells (is_closed p) (Nowhere (λ v. occurs v p))
closed_told = ind-Pure Told (λ x y is.
    subst (λ c. Tells c (Nowhere (λ v. occurs v (roll-Pure x)))) (sym (fold-roll-Pure Bool is_closed_level x))
    (subst (λ has. Tells (is_closed_level (map-Pure Pure Bool is_closed x)) (Nowhere has)) (λ i v. sym (fold-roll-Pure Bool (occurs_level v) x) i)
    (subst (λ x. Tells (is_closed_level (map-Pure Pure Bool is_closed x)) (Nowhere (λ v. occurs_level v (map-Pure Pure Bool (occurs v) x)))) is (pure_level y))))
