-- Renamings that keep variables apart merge no terms.
use Rattle.std.proofs.Common.{◌≡◌, ℕ, zero, suc, ◌<◌, ◌≤◌, ℤ, pos, ◌+ℤ◌, Bool, true, false, nat_lt, ◌||◌, IsTrue, List, [], ◌∷◌, ◌++◌, length, map, take, get_or, refl, sym, ap, subst, if◌then◌else◌, arith}
use Rattle.std.specs.List.{fold, All, list_any, flat_map}
use Rattle.std.specs.Ordering.{int_eq}
use Rattle.std.proofs.lemmas.List.Elements.{All-nil, All-cons}
use Rattle.hs_pure.specs.declared.var.Var.{Var}
use Rattle.hs_pure.specs.declared.lin.Lin.{Lin}
use Rattle.hs_pure.specs.declared.bag.Bag.{Bag, map-Bag}
use Rattle.hs_pure.specs.declared.bag.Bag.TheOpen.{Bag-F}
use Rattle.hs_pure.specs.declared.pure.Pure.{Pure, map-Pure}
use Rattle.hs_pure.specs.declared.pure.Pure.TheOpen.{Pure-F}
use Rattle.hs_pure.specs.Stack.{same}
use Rattle.hs_pure.specs.Occurs.{in_lin, in_bag, in_bag_level, occurs, occurs_level}
use Rattle.hs_pure.specs.Rename.{add_term, renamed_terms, bag_sums, bag_sums_level, sums, sums_level, LinInRange}
use Rattle.hs_pure.specs.Sums.{RisesFrom, LinIsOrdered}
use Rattle.hs_pure.specs.Laws.{ApartIsInRange}
use Rattle.hs_pure.proofs.Vars.{same-eq, same-refl, or_left, or_right}
use Rattle.hs_pure.proofs.Levels.{related, Both, related_bag, BothBag}
use Rattle.hs_pure.proofs.Lists.{All-weaker}

-- ---- the variables of sums occur

All-both : {X : Type 0} (P : X → Type 0) (xs ys : List X) → All P xs → All P ys → All P (xs ++ ys)
All-both P [] ys h g = g
All-both P (x ∷ xs) ys h g = All-cons P x (xs ++ ys) (h zero x (omega arith)) (All-both P xs ys (λ i d less. h (suc i) d (omega arith)) g)

module _ (v : Var) where
  -- where v is in one of the sums, b is true
  abbrev Reaches : List Lin → Bool → Type 0
  Reaches ls b = All (λ a. IsTrue (in_lin v a) → IsTrue b) ls

  into_left : (ls : List Lin) (b c : Bool) → Reaches ls b → Reaches ls (b || c)
  into_left ls b c = All-weaker (λ a. IsTrue (in_lin v a) → IsTrue b) (λ a. IsTrue (in_lin v a) → IsTrue (b || c)) (λ a h k. or_left b c (h k)) ls

  into_right : (ls : List Lin) (b c : Bool) → Reaches ls c → Reaches ls (b || c)
  into_right ls b c = All-weaker (λ a. IsTrue (in_lin v a) → IsTrue c) (λ a. IsTrue (in_lin v a) → IsTrue (b || c)) (λ a h k. or_right b c (h k)) ls

  either : (ks ls : List Lin) (b c : Bool) → Reaches ks b → Reaches ls c → Reaches (ks ++ ls) (b || c)
  either ks ls b c h g = All-both (λ a. IsTrue (in_lin v a) → IsTrue (b || c)) ks ls (into_left ks b c h) (into_right ls b c g)

  only : (a : Lin) → Reaches (a ∷ []) (in_lin v a)
  only a = All-cons (λ b. IsTrue (in_lin v b) → IsTrue (in_lin v a)) a [] (λ k. k) (All-nil (λ b. IsTrue (in_lin v b) → IsTrue (in_lin v a)))

  abbrev BagPair : Type 0
  BagPair = BothBag Reaches bag_sums_level (in_bag_level v)

  bag_level_reaches : (z : Bag-F BagPair) → Reaches (bag_sums_level (map-Bag BagPair (List Lin) (λ e. e.0) z)) (in_bag_level v (map-Bag BagPair Bool (λ e. e.1.0) z))
  bag_level_reaches Bag-F.Empty = All-nil (λ a. IsTrue (in_lin v a) → IsTrue false)
  bag_level_reaches (Bag-F.Name u) = All-nil (λ a. IsTrue (in_lin v a) → IsTrue (same u v))
  bag_level_reaches (Bag-F.One a) = only a
  bag_level_reaches (Bag-F.Union a b) = either a.0 b.0 a.1.0 b.1.0 a.1.1 b.1.1
  bag_level_reaches (Bag-F.Inter a b) = either a.0 b.0 a.1.0 b.1.0 a.1.1 b.1.1
  bag_level_reaches (Bag-F.Diff a b) = either a.0 b.0 a.1.0 b.1.0 a.1.1 b.1.1

  bag_reaches : (b : Bag) → Reaches (bag_sums b) (in_bag v b)
  bag_reaches = related_bag Reaches bag_sums_level (in_bag_level v) bag_level_reaches

  abbrev Pair : Type 0
  Pair = Both Reaches sums_level (occurs_level v)

  two : (a b : Lin) → Reaches (a ∷ b ∷ []) (in_lin v a || in_lin v b)
  two a b = either (a ∷ []) (b ∷ []) (in_lin v a) (in_lin v b) (only a) (only b)

  all_reach : (zs : List Pair) → Reaches (flat_map (λ ls. ls) (map (λ (e : Pair). e.0) zs)) (list_any (λ b. b) (map (λ (e : Pair). e.1.0) zs))
  all_reach [] = All-nil (λ a. IsTrue (in_lin v a) → IsTrue false)
  all_reach (z ∷ zs) = either z.0 (flat_map (λ ls. ls) (map (λ (e : Pair). e.0) zs)) z.1.0 (list_any (λ b. b) (map (λ (e : Pair). e.1.0) zs)) z.1.1 (all_reach zs)

  level_reaches : (z : Pure-F Pair) → Reaches (sums_level (map-Pure Pair (List Lin) (λ e. e.0) z)) (occurs_level v (map-Pure Pair Bool (λ e. e.1.0) z))
  level_reaches (Pure-F.Eq a b) = two a b
  level_reaches (Pure-F.Lt a b) = two a b
  level_reaches (Pure-F.Le a b) = two a b
  level_reaches (Pure-F.Divides d a) = only a
  level_reaches (Pure-F.BagEq a b) = either (bag_sums a) (bag_sums b) (in_bag v a) (in_bag v b) (bag_reaches a) (bag_reaches b)
  level_reaches (Pure-F.Subset a b) = either (bag_sums a) (bag_sums b) (in_bag v a) (in_bag v b) (bag_reaches a) (bag_reaches b)
  level_reaches (Pure-F.Member a b) = either (a ∷ []) (bag_sums b) (in_lin v a) (in_bag v b) (only a) (bag_reaches b)
  level_reaches (Pure-F.AllOf u b p) = either (bag_sums b) p.0 (in_bag v b) (same u v || p.1.0) (bag_reaches b) (into_right p.0 (same u v) p.1.0 p.1.1)
  level_reaches (Pure-F.Not p) = p.1.1
  level_reaches (Pure-F.And ps) = all_reach ps
  level_reaches (Pure-F.Or ps) = all_reach ps
  level_reaches (Pure-F.Exists u p) = into_right p.0 (same u v) p.1.0 p.1.1
  level_reaches (Pure-F.Forall u p) = into_right p.0 (same u v) p.1.0 p.1.1

  pub sums_occur : (p : Pure) → Reaches (sums p) (occurs v p)
  sums_occur = related Reaches sums_level (occurs_level v) level_reaches

-- ---- terms that are kept apart

-- the variables of a sum so far are such that terms became
module _ (ρ : Var → Var) where
  adds : (Q : Var → Type 0) (v : Var) (c : ℤ) (ts : List (Var × ℤ)) → Q v → All (λ t. Q t.0) ts → All (λ t. Q t.0) (add_term v c ts)
  adds Q v c [] q h = All-cons (λ t. Q t.0) (v, c) [] q h
  adds Q v c (t ∷ ts) q h = go (nat_lt t.0.number v.number) (same t.0 v) (int_eq (t.1 +ℤ c) (pos 0)) (adds Q v c ts q (λ i d less. h (suc i) d (omega arith)))
    where
      head : Q t.0
      head = h zero t (omega arith)

      others : All (λ t. Q t.0) ts
      others i d less = h (suc i) d (omega arith)

      go : (less is none : Bool) → All (λ t. Q t.0) (add_term v c ts) →
          All (λ t. Q t.0) (if less then t ∷ add_term v c ts else (if is then (if none then ts else (v, t.1 +ℤ c) ∷ ts) else (v, c) ∷ t ∷ ts))
      go true is none added = All-cons (λ t. Q t.0) t (add_term v c ts) head added
      go false true true added = others
      go false true false added = All-cons (λ t. Q t.0) (v, t.1 +ℤ c) ts q others
      go false false none added = All-cons (λ t. Q t.0) (v, c) (t ∷ ts) q h

  fold_adds : (Q : Var → Type 0) (ts sum : List (Var × ℤ)) → All (λ t. Q (ρ t.0)) ts → All (λ t. Q t.0) sum → All (λ t. Q t.0) (fold (λ s t. add_term (ρ t.0) t.1 s) sum ts)
  fold_adds Q [] sum h g = g
  fold_adds Q (t ∷ ts) sum h g = fold_adds Q ts (add_term (ρ t.0) t.1 sum) (λ i d less. h (suc i) d (omega arith)) (adds Q (ρ t.0) t.1 sum (h zero t (omega arith)) g)

-- the terms before a place are of lower variables
earlier_lower : (n k : ℕ) (ts : List (Var × ℤ)) (d : Var × ℤ) → RisesFrom n ts → k < length ts → All (λ (t : Var × ℤ). t.0.number < (get_or ts k d).0.number) (take k ts)
earlier_lower n k [] d rises less = absurd (omega arith)
earlier_lower n zero (t ∷ ts) d rises less = All-nil (λ (u : Var × ℤ). u.0.number < t.0.number)
earlier_lower n (suc k) (t ∷ ts) d rises less =
    All-cons (λ (u : Var × ℤ). u.0.number < (get_or ts k d).0.number) t (take k ts) (from_lower (suc t.0.number) k ts rises.3 (omega arith)) (earlier_lower (suc t.0.number) k ts d rises.3 (omega arith))
  where
    from_lower : (m j : ℕ) (us : List (Var × ℤ)) → RisesFrom m us → j < length us → m ≤ (get_or us j d).0.number
    from_lower m j [] h l = absurd (omega arith)
    from_lower m zero (u ∷ us) h l = h.0
    from_lower m (suc j) (u ∷ us) h l = let e = from_lower (suc u.0.number) j us h.3 (omega arith) in let f = h.0 in omega arith

in_terms : (k : ℕ) (ts : List (Var × ℤ)) (d : Var × ℤ) → k < length ts → IsTrue (list_any (λ t. same t.0 (get_or ts k d).0) ts)
in_terms k [] d less = absurd (omega arith)
in_terms zero (t ∷ ts) d less = or_left (same t.0 t.0) (list_any (λ u. same u.0 t.0) ts) (same-refl t.0)
in_terms (suc k) (t ∷ ts) d less = or_right (same t.0 (get_or ts k d).0) (list_any (λ u. same u.0 (get_or ts k d).0) ts) (in_terms k ts d (omega arith))

front : (k j : ℕ) (ts : List (Var × ℤ)) (d : Var × ℤ) → j < length (take k ts) → (j < length ts) × (get_or (take k ts) j d ≡ get_or ts j d)
front zero j ts d less = absurd (omega arith)
front (suc k) j [] d less = absurd (omega arith)
front (suc k) zero (t ∷ ts) d less = (omega arith, refl)
front (suc k) (suc j) (t ∷ ts) d less = let e = front k j ts d (omega arith) in let f = e.0 in (omega arith, e.1)

module _ (ρ : Var → Var) (a : Lin) (ordered : LinIsOrdered a) (apart : (u v : Var) → IsTrue (in_lin u a) → IsTrue (in_lin v a) → ρ u ≡ ρ v → u ≡ v) where
  -- no earlier term becomes one of the same variable
  no_merge : (k : ℕ) (d : Var × ℤ) → k < length a.terms → All (λ t. ¬ (ρ t.0 ≡ ρ (get_or a.terms k d).0)) (take k a.terms)
  no_merge k d less j e l is =
      let x = get_or a.terms k d in
      let at = front k j a.terms e l in
      let t = get_or (take k a.terms) j e in
      let low : (get_or (take k a.terms) j e).0.number < (get_or a.terms k d).0.number = earlier_lower 0 k a.terms d ordered less j e l in
      let inside : IsTrue (in_lin (get_or (take k a.terms) j e).0 a) = subst (λ (y : Var × ℤ). IsTrue (in_lin y.0 a)) (sym at.1) (in_terms j a.terms e at.0) in
      let one : (get_or (take k a.terms) j e).0 ≡ (get_or a.terms k d).0 = apart t.0 x.0 inside (in_terms k a.terms d less) is in
      let same_number : (get_or (take k a.terms) j e).0.number ≡ (get_or a.terms k d).0.number = ap (λ v. v.number) one in
      absurd (omega arith)

  pub lin_apart : LinInRange ρ a
  lin_apart = record {
    merges_fit = λ k d less i e l is.
        let x = get_or a.terms k d in
        let Q : Var → Type 0 = λ w. ¬ (w ≡ ρ x.0) in
        let none : All (λ t. Q t.0) (renamed_terms ρ (take k a.terms)) = fold_adds ρ Q (take k a.terms) [] (no_merge k d less) (All-nil (λ t. Q t.0)) in
        absurd (none i e l (same-eq (get_or (renamed_terms ρ (take k a.terms)) i e).0 (ρ x.0) is));
  }

pub apart_in_range : ApartIsInRange
apart_in_range ρ p ordered apart = record {
  each = λ i a less.
      lin_apart ρ (get_or (sums p) i a) (ordered i a less)
      (λ u v h g. apart u v (sums_occur u p i a less h) (sums_occur v p i a less g));
}
