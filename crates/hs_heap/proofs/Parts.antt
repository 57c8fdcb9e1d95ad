-- What the test of a pure formula tells of its parts.
use Rattle.std.proofs.Common.{◌≡◌, ℕ, suc, ◌+◌, ◌<◌, ◌≤◌, ◌^◌, ℤ, pos, Bool, true, false, not, ◌&&◌, ◌||◌, ◌==◌, nat_le, nat_lt, unsigned_abs, IsTrue, List, [], ◌∷◌, ◌++◌, length, map, refl, sym, ap, ◌∙◌, subst}
use Rattle.std.specs.List.{All, list_all, list_any, flat_map}
use Rattle.std.specs.Ordering.{int_eq}
use Rattle.std.proofs.lemmas.Bool.{and_parts, and_from}
use Rattle.std.proofs.lemmas.Bool.Decides.{Decides-int_eq}
use Rattle.std.proofs.lemmas.List.{length-map}
use Rattle.std.proofs.lemmas.List.Elements.{All-nil, All-cons, All-head, All-tail, All-append}
use Rattle.hs_pure.specs.declared.var.Var.{Var}
use Rattle.hs_pure.specs.declared.lin.Lin.{Lin}
use Rattle.hs_pure.specs.declared.bag.Bag.{Bag, fold-Bag, ind-Bag, fold-roll-Bag, map-Bag, roll-Bag}
use Rattle.hs_pure.specs.declared.bag.Bag.TheOpen.{Bag-F}
use Rattle.hs_pure.specs.declared.pure.Pure.{Pure, fold-Pure, ind-Pure, fold-roll-Pure, map-Pure, roll-Pure}
use Rattle.hs_pure.specs.declared.pure.Pure.TheOpen.{Pure-F}
use Rattle.hs_pure.specs.Stack.{same}
use Rattle.hs_pure.specs.Occurs.{in_lin, in_bag, in_bag_level, is_free, is_free_level, is_bound, is_bound_level}
use Rattle.hs_pure.specs.Rename.{bag_sums, bag_sums_level, sums, sums_level}
use Rattle.hs_pure.specs.Sums.{weight, LinIsLight, RisesFrom, LinIsOrdered}
use Rattle.hs_pure.proofs.Lists.{All-left, All-right}
use Rattle.hs_pure.proofs.Vars.{or_left, or_right}
use Rattle.hs_pure.proofs.Levels.{map_Pure-map_Pure, map_Bag-map_Bag}
use Rattle.hs_heap.specs.WellFormed.{names_in_bag, names_in_bag_level, bag_names, bag_names_level, member_counts, member_counts_level}
use Rattle.hs_heap.specs.Sound.{IsNumbered}
use Rattle.hs_heap.specs.Tests.{number_fits, rises_from, is_light, sum_fits, bag_fits, bag_fits_level, binder_fits, pure_fits, pure_fits_level}
use Rattle.hs_heap.proofs.Stacks.{same_true, same_itself, same_sym}
use Rattle.hs_heap.proofs.Tells.{Tells, tells, tells_both, tells_not, not_true, tells_le, tells_lt, tells_different, either_all}

-- what is told of a formula, and the parts that it is told of
pub record Parts : Type 0 where
  pub fits : (Var → Bool) → Bool
  pub sums : List Lin
  pub names : List Var
  pub counts : List ℕ
  pub bound : Var → Bool
  pub free : Var → Bool

-- ---- two parts, none, and several

abbrev pub no_parts : Parts
no_parts = record { fits = λ s. true; sums = []; names = []; counts = []; bound = λ v. false; free = λ v. false }

abbrev pub joined : Parts → Parts → Parts
joined q r = record {
  fits = λ s. q.fits s && r.fits s;
  sums = q.sums ++ r.sums;
  names = q.names ++ r.names;
  counts = q.counts ++ r.counts;
  bound = λ v. q.bound v || r.bound v;
  free = λ v. q.free v || r.free v;
}

abbrev pub sum_part : Lin → Parts
sum_part a = record { fits = sum_fits a; sums = a ∷ []; names = []; counts = []; bound = λ v. false; free = λ v. in_lin v a }

abbrev pub name_part : Var → Parts
name_part u = record { fits = λ s. u.bag && s u; sums = []; names = u ∷ []; counts = []; bound = λ v. false; free = λ v. same u v }

abbrev pub all_parts : List Parts → Parts
all_parts qs = record {
  fits = λ s. list_all (λ f. f s) (map (λ (q : Parts). q.fits) qs);
  sums = flat_map (λ p. p) (map (λ (q : Parts). q.sums) qs);
  names = flat_map (λ p. p) (map (λ (q : Parts). q.names) qs);
  counts = flat_map (λ p. p) (map (λ (q : Parts). q.counts) qs);
  bound = λ v. list_any (λ p. p) (map (λ (q : Parts). q.bound v) qs);
  free = λ v. list_any (λ p. p) (map (λ (q : Parts). q.free v) qs);
}

abbrev pub counted : ℕ → ℕ → Parts → Parts
counted m n q = record q { fits = λ s. not (m == 1) && q.fits s; counts = n ∷ q.counts }

-- ---- terms in order

pub rises_told : (n : ℕ) (ts : List (Var × ℤ)) → Tells (rises_from n ts) (RisesFrom n ts)
rises_told n [] = (λ h. tt, λ h. refl)
rises_told n (t ∷ ts) = tells (rises_from n (t ∷ ts)) ((n ≤ t.0.number) × ((t.0.bag ≡ false) × ((¬ (t.1 ≡ pos 0)) × RisesFrom (suc t.0.number) ts))) (RisesFrom n (t ∷ ts))
    (tells_both (nat_le n t.0.number) (not t.0.bag && (not (int_eq t.1 (pos 0)) && rises_from (suc t.0.number) ts)) (n ≤ t.0.number) ((t.0.bag ≡ false) × ((¬ (t.1 ≡ pos 0)) × RisesFrom (suc t.0.number) ts)) (tells_le n t.0.number)
    (tells_both (not t.0.bag) (not (int_eq t.1 (pos 0)) && rises_from (suc t.0.number) ts) (t.0.bag ≡ false) ((¬ (t.1 ≡ pos 0)) × RisesFrom (suc t.0.number) ts) (tells_not t.0.bag)
    (tells_both (not (int_eq t.1 (pos 0))) (rises_from (suc t.0.number) ts) (¬ (t.1 ≡ pos 0)) (RisesFrom (suc t.0.number) ts) (not_true (int_eq t.1 (pos 0)) (t.1 ≡ pos 0) (int_told t.1)) (rises_told (suc t.0.number) ts))))
    (λ h. (h.0, h.1.0, h.1.1.0, h.1.1.1)) (λ h. (h.0, (h.1, (h.2, h.3))))
  where
    int_told : (z : ℤ) → Tells (int_eq z (pos 0)) (z ≡ pos 0)
    int_told z = (λ h. (Decides-int_eq z (pos 0)).0 h, λ h. (Decides-int_eq z (pos 0)).1 h)

module _ (outer : Var → Bool) (next : ℕ) where
  abbrev pub under : Var → Parts → Parts
  under u q = record q {
    fits = λ s. binder_fits outer next u && q.fits (λ v. same v u || s v);
    bound = λ v. same u v || q.bound v;
    free = λ v. not (same u v) && q.free v;
  }

  -- a number variable that is numbered and not outside
  abbrev pub Binds : Var → Type 0
  Binds u = (u.bag ≡ false) × (IsNumbered next u × (outer u ≡ false))

  -- what holds of the parts of a formula in a scope
  pub record PartsFit (s : Var → Bool) (q : Parts) : Type 0 where
    pub ordered : All LinIsOrdered q.sums
    pub light : All LinIsLight q.sums
    pub bags : All (λ (v : Var). v.bag ≡ true) q.names
    pub members : All (λ n. ¬ (n ≡ 1)) q.counts
    pub binders : (u : Var) → IsTrue (q.bound u) → Binds u
    pub among : (v : Var) → IsTrue (q.free v) → IsTrue (s v)

  abbrev pub PartsTold : Parts → Type 0
  PartsTold q = (s : Var → Bool) → Tells (q.fits s) (PartsFit s q)

  none : {A : Type 0} → IsTrue false → A
  none h = absurd cc

  pub no_parts_told : PartsTold no_parts
  no_parts_told s = (λ h. record { ordered = All-nil LinIsOrdered; light = All-nil LinIsLight; bags = All-nil _; members = All-nil _; binders = λ u h. none h; among = λ v h. none h }, λ h. refl)

  pub joined_told : (q r : Parts) → PartsTold q → PartsTold r → PartsTold (joined q r)
  joined_told q r f g s = tells (q.fits s && r.fits s) (PartsFit s q × PartsFit s r) (PartsFit s (joined q r)) (tells_both (q.fits s) (r.fits s) (PartsFit s q) (PartsFit s r) (f s) (g s))
      (λ h. record {
        ordered = All-append LinIsOrdered q.sums r.sums h.0.ordered h.1.ordered;
        light = All-append LinIsLight q.sums r.sums h.0.light h.1.light;
        bags = All-append (λ (v : Var). v.bag ≡ true) q.names r.names h.0.bags h.1.bags;
        members = All-append (λ n. ¬ (n ≡ 1)) q.counts r.counts h.0.members h.1.members;
        binders = either_all q.bound r.bound Binds h.0.binders h.1.binders;
        among = either_all q.free r.free (λ v. IsTrue (s v)) h.0.among h.1.among;
      })
      (λ h. (
        record {
          ordered = All-left LinIsOrdered q.sums r.sums h.ordered;
          light = All-left LinIsLight q.sums r.sums h.light;
          bags = All-left (λ (v : Var). v.bag ≡ true) q.names r.names h.bags;
          members = All-left (λ n. ¬ (n ≡ 1)) q.counts r.counts h.members;
          binders = λ u b. h.binders u (or_left (q.bound u) (r.bound u) b);
          among = λ v b. h.among v (or_left (q.free v) (r.free v) b);
        },
        record {
          ordered = All-right LinIsOrdered q.sums r.sums h.ordered;
          light = All-right LinIsLight q.sums r.sums h.light;
          bags = All-right (λ (v : Var). v.bag ≡ true) q.names r.names h.bags;
          members = All-right (λ n. ¬ (n ≡ 1)) q.counts r.counts h.members;
          binders = λ u b. h.binders u (or_right (q.bound u) (r.bound u) b);
          among = λ v b. h.among v (or_right (q.free v) (r.free v) b);
        },
      ))

  -- ---- what is bound

  -- what is not u is in scope where it is in the scope of u
  apart_in : (u : Var) (s free : Var → Bool) → ((v : Var) → IsTrue (free v) → IsTrue (same v u || s v)) → (v : Var) → IsTrue (not (same u v) && free v) → IsTrue (s v)
  apart_in u s free h v k = go (same v u) (s v) (subst (λ b. not b ≡ true) (same_sym u v) (and_parts (not (same u v)) (free v) k).0) (h v (and_parts (not (same u v)) (free v) k).1)
    where
      go : (a b : Bool) → not a ≡ true → IsTrue (a || b) → IsTrue b
      go true b e f = absurd cc
      go false b e f = f

  apart_back : (u : Var) (s free : Var → Bool) → ((v : Var) → IsTrue (not (same u v) && free v) → IsTrue (s v)) → (v : Var) → IsTrue (free v) → IsTrue (same v u || s v)
  apart_back u s free h v k = go (same v u) (s v) (λ e. h v (and_from (not (same u v)) (free v) (subst (λ b. not b ≡ true) (same_sym v u) e) k))
    where
      go : (a b : Bool) → (not a ≡ true → IsTrue b) → IsTrue (a || b)
      go true b f = refl
      go false b f = f refl

  binder_told : (u : Var) → Tells (binder_fits outer next u) (Binds u)
  binder_told u = tells_both (not u.bag) (number_fits next u && not (outer u)) (u.bag ≡ false) (IsNumbered next u × (outer u ≡ false)) (tells_not u.bag)
      (tells_both (number_fits next u) (not (outer u)) (IsNumbered next u) (outer u ≡ false)
      (tells_both (nat_le 1 u.number) (nat_lt u.number next) (1 ≤ u.number) (u.number < next) (tells_le 1 u.number) (tells_lt u.number next)) (tells_not (outer u)))

  pub under_told : (u : Var) (q : Parts) → PartsTold q → PartsTold (under u q)
  under_told u q f s = tells (binder_fits outer next u && q.fits (λ v. same v u || s v)) (Binds u × PartsFit (λ v. same v u || s v) q) (PartsFit s (under u q))
      (tells_both (binder_fits outer next u) (q.fits (λ v. same v u || s v)) (Binds u) (PartsFit (λ v. same v u || s v) q) (binder_told u) (f (λ v. same v u || s v)))
      (λ h. record {
        ordered = h.1.ordered;
        light = h.1.light;
        bags = h.1.bags;
        members = h.1.members;
        binders = either_all (λ v. same u v) q.bound Binds (λ v e. subst Binds (same_true u v e) h.0) h.1.binders;
        among = apart_in u s q.free h.1.among;
      })
      (λ h. (
        h.binders u (or_left (same u u) (q.bound u) (same_itself u)),
        record {
          ordered = h.ordered;
          light = h.light;
          bags = h.bags;
          members = h.members;
          binders = λ v b. h.binders v (or_right (same u v) (q.bound v) b);
          among = apart_back u s q.free h.among;
        },
      ))

  -- ---- lists of members

  pub all_parts_told : (qs : List ((q : Parts) × PartsTold q)) → PartsTold (all_parts (map (λ (e : (q : Parts) × PartsTold q). e.0) qs))
  all_parts_told [] = no_parts_told
  all_parts_told (e ∷ qs) = joined_told e.0 (all_parts (map (λ (e : (q : Parts) × PartsTold q). e.0) qs)) e.1 (all_parts_told qs)

  pub counted_told : (m n : ℕ) (q : Parts) → m ≡ n → PartsTold q → PartsTold (counted m n q)
  counted_told m n q e f s = tells (not (m == 1) && q.fits s) ((¬ (m ≡ 1)) × PartsFit s q) (PartsFit s (counted m n q))
      (tells_both (not (m == 1)) (q.fits s) (¬ (m ≡ 1)) (PartsFit s q) (tells_different m 1) (f s))
      (λ h. record {
        ordered = h.1.ordered;
        light = h.1.light;
        bags = h.1.bags;
        members = All-cons (λ n. ¬ (n ≡ 1)) n q.counts (subst (λ n. ¬ (n ≡ 1)) e h.0) h.1.members;
        binders = h.1.binders;
        among = h.1.among;
      })
      (λ h. (
        subst (λ n. ¬ (n ≡ 1)) (sym e) (All-head (λ n. ¬ (n ≡ 1)) n q.counts h.members),
        record {
          ordered = h.ordered;
          light = h.light;
          bags = h.bags;
          members = All-tail (λ n. ¬ (n ≡ 1)) n q.counts h.members;
          binders = h.binders;
          among = h.among;
        },
      ))

  -- ---- sums and names

  terms_told : (s : Var → Bool) (ts : List (Var × ℤ)) → Tells (list_all (λ t. s t.0) ts) ((v : Var) → IsTrue (list_any (λ t. same t.0 v) ts) → IsTrue (s v))
  terms_told s [] = (λ h v k. none k, λ h. refl)
  terms_told s (t ∷ ts) = tells (s t.0 && list_all (λ t. s t.0) ts) (IsTrue (s t.0) × ((v : Var) → IsTrue (list_any (λ t. same t.0 v) ts) → IsTrue (s v)))
      ((v : Var) → IsTrue (list_any (λ t. same t.0 v) (t ∷ ts)) → IsTrue (s v))
      (tells_both (s t.0) (list_all (λ t. s t.0) ts) (IsTrue (s t.0)) ((v : Var) → IsTrue (list_any (λ t. same t.0 v) ts) → IsTrue (s v)) (λ h. h, λ h. h) (terms_told s ts))
      (λ h. either_all (λ v. same t.0 v) (λ v. list_any (λ t. same t.0 v) ts) (λ v. IsTrue (s v)) (λ v e. subst (λ w. IsTrue (s w)) (same_true t.0 v e) h.0) h.1)
      (λ h. (h t.0 (or_left (same t.0 t.0) (list_any (λ x. same x.0 t.0) ts) (same_itself t.0)), λ v k. h v (or_right (same t.0 v) (list_any (λ t. same t.0 v) ts) k)))

  pub sum_told : (a : Lin) → PartsTold (sum_part a)
  sum_told a s = tells (sum_fits a s) (RisesFrom 0 a.terms × (LinIsLight a × ((v : Var) → IsTrue (in_lin v a) → IsTrue (s v)))) (PartsFit s (sum_part a))
      (tells_both (rises_from 0 a.terms) (is_light a && list_all (λ t. s t.0) a.terms) (RisesFrom 0 a.terms) (LinIsLight a × ((v : Var) → IsTrue (in_lin v a) → IsTrue (s v))) (rises_told 0 a.terms)
      (tells_both (is_light a) (list_all (λ t. s t.0) a.terms) (LinIsLight a) ((v : Var) → IsTrue (in_lin v a) → IsTrue (s v)) (tells_le (weight a.terms + unsigned_abs a.constant) (2 ^ 126)) (terms_told s a.terms)))
      (λ h. record {
        ordered = All-cons LinIsOrdered a [] h.0 (All-nil LinIsOrdered);
        light = All-cons LinIsLight a [] h.1.0 (All-nil LinIsLight);
        bags = All-nil _;
        members = All-nil _;
        binders = λ u b. none b;
        among = h.1.1;
      })
      (λ h. (All-head LinIsOrdered a [] h.ordered, (All-head LinIsLight a [] h.light, h.among)))

  pub name_told : (u : Var) → PartsTold (name_part u)
  name_told u s = tells (u.bag && s u) ((u.bag ≡ true) × IsTrue (s u)) (PartsFit s (name_part u))
      (tells_both u.bag (s u) (u.bag ≡ true) (IsTrue (s u)) (λ h. h, λ h. h) (λ h. h, λ h. h))
      (λ h. record {
        ordered = All-nil LinIsOrdered;
        light = All-nil LinIsLight;
        bags = All-cons (λ (v : Var). v.bag ≡ true) u [] h.0 (All-nil _);
        members = All-nil _;
        binders = λ u b. none b;
        among = λ v e. subst (λ w. IsTrue (s w)) (same_true u v e) h.1;
      })
      (λ h. (All-head (λ (v : Var). v.bag ≡ true) u [] h.bags, h.among u (same_itself u)))

  -- ---- bags

  record BagParts : Type 0 where
    pub fits : (Var → Bool) → Bool
    pub sums : List Lin
    pub names : List Var
    pub free : Var → Bool

  abbrev of_bag : BagParts → Parts
  of_bag q = record { fits = q.fits; sums = q.sums; names = q.names; counts = []; bound = λ v. false; free = q.free }

  abbrev bag_parts : Bag → BagParts
  bag_parts b = record { fits = bag_fits b; sums = bag_sums b; names = names_in_bag b; free = λ v. in_bag v b }

  abbrev bag_parts_level : Bag-F BagParts → BagParts
  bag_parts_level z = record {
    fits = bag_fits_level (map-Bag BagParts ((Var → Bool) → Bool) (λ q. q.fits) z);
    sums = bag_sums_level (map-Bag BagParts (List Lin) (λ q. q.sums) z);
    names = names_in_bag_level (map-Bag BagParts (List Var) (λ q. q.names) z);
    free = λ v. in_bag_level v (map-Bag BagParts Bool (λ q. q.free v) z);
  }

  module _ {A : Type 0} (f : Bag-F A → A) (part : BagParts → A) where
    rolled_bag : ((b : Bag) → fold-Bag A f b ≡ part (bag_parts b)) → (x : Bag-F Bag) → fold-Bag A f (roll-Bag x) ≡ f (map-Bag BagParts A part (map-Bag Bag BagParts bag_parts x))
    rolled_bag is x = fold-roll-Bag A f x ∙ ap f ((λ i. map-Bag Bag A (λ b. is b i) x) ∙ sym (map_Bag-map_Bag bag_parts part x))

  bag_rolled : (x : Bag-F Bag) → bag_parts (roll-Bag x) ≡ bag_parts_level (map-Bag Bag BagParts bag_parts x)
  bag_rolled x = λ i. record {
    fits = rolled_bag bag_fits_level (λ q. q.fits) (λ b. refl) x i;
    sums = rolled_bag bag_sums_level (λ q. q.sums) (λ b. refl) x i;
    names = rolled_bag names_in_bag_level (λ q. q.names) (λ b. refl) x i;
    free = λ v. rolled_bag (in_bag_level v) (λ q. q.free v) (λ b. refl) x i;
  }

  abbrev ToldBag : Type 0
  ToldBag = (q : BagParts) × PartsTold (of_bag q)

  bag_step : (z : Bag-F ToldBag) → PartsTold (of_bag (bag_parts_level (map-Bag ToldBag BagParts (λ e. e.0) z)))
  bag_step Bag-F.Empty = no_parts_told
  bag_step (Bag-F.Name v) = name_told v
  bag_step (Bag-F.One a) = sum_told a
  bag_step (Bag-F.Union a b) = joined_told (of_bag a.0) (of_bag b.0) a.1 b.1
  bag_step (Bag-F.Inter a b) = joined_told (of_bag a.0) (of_bag b.0) a.1 b.1
  bag_step (Bag-F.Diff a b) = joined_told (of_bag a.0) (of_bag b.0) a.1 b.1

  bag_told : (b : Bag) → PartsTold (of_bag (bag_parts b))
  bag_told = ind-Bag (λ b. PartsTold (of_bag (bag_parts b))) (λ x y is.
      let pair : (b : Bag) × PartsTold (of_bag (bag_parts b)) → ToldBag = λ e. (bag_parts e.0, e.1) in
      subst (λ q. PartsTold (of_bag q)) (sym (bag_rolled x))
      (subst (λ x. PartsTold (of_bag (bag_parts_level (map-Bag Bag BagParts bag_parts x)))) is
      (subst (λ z. PartsTold (of_bag (bag_parts_level z)))
      (map_Bag-map_Bag pair (λ e. e.0) y ∙ sym (map_Bag-map_Bag (λ (e : (b : Bag) × PartsTold (of_bag (bag_parts b))). e.0) bag_parts y))
      (bag_step (map-Bag ((b : Bag) × PartsTold (of_bag (bag_parts b))) ToldBag pair y)))))

  -- ---- formulas

  abbrev pub parts_of : Pure → Parts
  parts_of p = record { fits = pure_fits outer next p; sums = sums p; names = bag_names p; counts = member_counts p; bound = λ v. is_bound v p; free = λ v. is_free v p }

  abbrev parts_level : Pure-F Parts → Parts
  parts_level z = record {
    fits = pure_fits_level outer next (map-Pure Parts ((Var → Bool) → Bool) (λ q. q.fits) z);
    sums = sums_level (map-Pure Parts (List Lin) (λ q. q.sums) z);
    names = bag_names_level (map-Pure Parts (List Var) (λ q. q.names) z);
    counts = member_counts_level (map-Pure Parts (List ℕ) (λ q. q.counts) z);
    bound = λ v. is_bound_level v (map-Pure Parts Bool (λ q. q.bound v) z);
    free = λ v. is_free_level v (map-Pure Parts Bool (λ q. q.free v) z);
  }

  module _ {A : Type 0} (f : Pure-F A → A) (part : Parts → A) where
    rolled_pure : ((p : Pure) → fold-Pure A f p ≡ part (parts_of p)) → (x : Pure-F Pure) → fold-Pure A f (roll-Pure x) ≡ f (map-Pure Parts A part (map-Pure Pure Parts parts_of x))
    rolled_pure is x = fold-roll-Pure A f x ∙ ap f ((λ i. map-Pure Pure A (λ p. is p i) x) ∙ sym (map_Pure-map_Pure parts_of part x))

  rolled : (x : Pure-F Pure) → parts_of (roll-Pure x) ≡ parts_level (map-Pure Pure Parts parts_of x)
  rolled x = λ i. record {
    fits = rolled_pure (pure_fits_level outer next) (λ q. q.fits) (λ p. refl) x i;
    sums = rolled_pure sums_level (λ q. q.sums) (λ p. refl) x i;
    names = rolled_pure bag_names_level (λ q. q.names) (λ p. refl) x i;
    counts = rolled_pure member_counts_level (λ q. q.counts) (λ p. refl) x i;
    bound = λ v. rolled_pure (is_bound_level v) (λ q. q.bound v) (λ p. refl) x i;
    free = λ v. rolled_pure (is_free_level v) (λ q. q.free v) (λ p. refl) x i;
  }

  abbrev Told : Type 0
  Told = (q : Parts) × PartsTold q

  group_told : (qs : List Told) → PartsTold (counted (length (map (λ (q : Parts). q.fits) (map (λ (e : Told). e.0) qs))) (length (map (λ (q : Parts). q.counts) (map (λ (e : Told). e.0) qs))) (all_parts (map (λ (e : Told). e.0) qs)))
  group_told qs = counted_told (length (map (λ (q : Parts). q.fits) (map (λ (e : Told). e.0) qs))) (length (map (λ (q : Parts). q.counts) (map (λ (e : Told). e.0) qs))) (all_parts (map (λ (e : Told). e.0) qs))
      (length-map (map (λ (e : Told). e.0) qs) (λ (q : Parts). q.fits) ∙ sym (length-map (map (λ (e : Told). e.0) qs) (λ (q : Parts). q.counts))) (all_parts_told qs)

  step : (z : Pure-F Told) → PartsTold (parts_level (map-Pure Told Parts (λ e. e.0) z))
  step (Pure-F.Eq a b) = joined_told (sum_part a) (sum_part b) (sum_told a) (sum_told b)
  step (Pure-F.Lt a b) = joined_told (sum_part a) (sum_part b) (sum_told a) (sum_told b)
  step (Pure-F.Le a b) = joined_told (sum_part a) (sum_part b) (sum_told a) (sum_told b)
  step (Pure-F.Divides d a) = sum_told a
  step (Pure-F.BagEq a b) = joined_told (of_bag (bag_parts a)) (of_bag (bag_parts b)) (bag_told a) (bag_told b)
  step (Pure-F.Subset a b) = joined_told (of_bag (bag_parts a)) (of_bag (bag_parts b)) (bag_told a) (bag_told b)
  step (Pure-F.Member a b) = joined_told (sum_part a) (of_bag (bag_parts b)) (sum_told a) (bag_told b)
  step (Pure-F.AllOf u b p) = joined_told (of_bag (bag_parts b)) (under u p.0) (bag_told b) (under_told u p.0 p.1)
  step (Pure-F.Not p) = p.1
  step (Pure-F.And ps) = group_told ps
  step (Pure-F.Or ps) = group_told ps
  step (Pure-F.Exists u p) = under_told u p.0 p.1
  step (Pure-F.Forall u p) = under_told u p.0 p.1

  -- the test of a formula tells that its parts fit
  pub pure_told : (p : Pure) → PartsTold (parts_of p)
  pure_told = ind-Pure (λ p. PartsTold (parts_of p)) (λ x y is.
      let pair : (p : Pure) × PartsTold (parts_of p) → Told = λ e. (parts_of e.0, e.1) in
      subst PartsTold (sym (rolled x))
      (subst (λ x. PartsTold (parts_level (map-Pure Pure Parts parts_of x))) is
      (subst (λ z. PartsTold (parts_level z))
      (map_Pure-map_Pure pair (λ e. e.0) y ∙ sym (map_Pure-map_Pure (λ (e : (p : Pure) × PartsTold (parts_of p)). e.0) parts_of y))
      (step (map-Pure ((p : Pure) × PartsTold (parts_of p)) Told pair y)))))
