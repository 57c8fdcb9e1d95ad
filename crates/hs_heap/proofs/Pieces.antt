-- What the test of a formula's form tells of its pieces.
use Rattle.std.proofs.Common.{◌≡◌, ℕ, Bool, true, false, not, ◌&&◌, ◌||◌, ◌==◌, IsTrue, List, [], ◌∷◌, ◌++◌, length, map, refl, sym, ◌∙◌, subst}
use Rattle.std.specs.List.{All, list_all, list_any, flat_map}
use Rattle.std.proofs.lemmas.List.{length-map}
use Rattle.std.proofs.lemmas.List.Elements.{All-nil, All-cons, All-head, All-tail, All-append}
use Rattle.hs_pure.specs.declared.var.Var.{Var}
use Rattle.hs_pure.specs.declared.lin.Lin.{Lin}
use Rattle.hs_pure.specs.declared.bag.Bag.{Bag, ind-Bag, fold-roll-Bag, map-Bag, roll-Bag}
use Rattle.hs_pure.specs.declared.bag.Bag.TheOpen.{Bag-F}
use Rattle.hs_pure.specs.declared.pure.Pure.{Pure, ind-Pure, fold-roll-Pure, map-Pure, roll-Pure}
use Rattle.hs_pure.specs.declared.pure.Pure.TheOpen.{Pure-F}
use Rattle.hs_pure.specs.Stack.{same}
use Rattle.hs_pure.specs.Occurs.{is_bound, is_bound_level, is_bags_plain}
use Rattle.hs_pure.specs.Rename.{bag_sums, bag_sums_level, sums, sums_level}
use Rattle.hs_pure.specs.Sums.{LinIsOrdered}
use Rattle.hs_pure.proofs.Lists.{All-left, All-right}
use Rattle.hs_pure.proofs.Vars.{or_left, or_right}
use Rattle.hs_heap.specs.WellFormed.{names_in_bag, names_in_bag_level, bag_names, bag_names_level, member_counts, member_counts_level, IsProper}
use Rattle.hs_heap.specs.Tests.{rises_from, bag_formed, bag_formed_level, formed, formed_level, plain_formed}
use Rattle.hs_heap.proofs.Stacks.{same_true, same_itself}
use Rattle.hs_heap.proofs.Tells.{Tells, tells, tells_both, tells_not, tells_different, either_all}
use Rattle.hs_heap.proofs.Parts.{rises_told}

-- what is told of a formula, and the pieces that it is told of
record Pieces : Type 0 where
  pub test : Bool
  pub sums : List Lin
  pub names : List Var
  pub counts : List ℕ
  pub bound : Var → Bool

abbrev no_pieces : Pieces
no_pieces = record { test = true; sums = []; names = []; counts = []; bound = λ v. false }

abbrev joined : Pieces → Pieces → Pieces
joined q r = record { test = q.test && r.test; sums = q.sums ++ r.sums; names = q.names ++ r.names; counts = q.counts ++ r.counts; bound = λ v. q.bound v || r.bound v }

abbrev sum_piece : Lin → Pieces
sum_piece a = record { test = rises_from 0 a.terms; sums = a ∷ []; names = []; counts = []; bound = λ v. false }

abbrev name_piece : Var → Pieces
name_piece u = record { test = u.bag; sums = []; names = u ∷ []; counts = []; bound = λ v. false }

abbrev under : Var → Pieces → Pieces
under u q = record q { test = not u.bag && q.test; bound = λ v. same u v || q.bound v }

abbrev all_pieces : List Pieces → Pieces
all_pieces qs = record {
  test = list_all (λ b. b) (map (λ (q : Pieces). q.test) qs);
  sums = flat_map (λ p. p) (map (λ (q : Pieces). q.sums) qs);
  names = flat_map (λ p. p) (map (λ (q : Pieces). q.names) qs);
  counts = flat_map (λ p. p) (map (λ (q : Pieces). q.counts) qs);
  bound = λ v. list_any (λ p. p) (map (λ (q : Pieces). q.bound v) qs);
}

abbrev counted : ℕ → ℕ → Pieces → Pieces
counted m n q = record q { test = not (m == 1) && q.test; counts = n ∷ q.counts }

record PiecesFit (q : Pieces) : Type 0 where
  pub ordered : All LinIsOrdered q.sums
  pub bags : All (λ (v : Var). v.bag ≡ true) q.names
  pub members : All (λ n. ¬ (n ≡ 1)) q.counts
  pub binders : (u : Var) → IsTrue (q.bound u) → u.bag ≡ false

abbrev PiecesTold : Pieces → Type 0
PiecesTold q = Tells q.test (PiecesFit q)

none : {A : Type 0} → IsTrue false → A
none h = absurd cc

no_pieces_told : PiecesTold no_pieces
no_pieces_told = (λ h. record { ordered = All-nil LinIsOrdered; bags = All-nil _; members = All-nil _; binders = λ u h. none h }, λ h. refl)

joined_told : (q r : Pieces) → PiecesTold q → PiecesTold r → PiecesTold (joined q r)
joined_told q r f g = tells (q.test && r.test) (PiecesFit q × PiecesFit r) (PiecesFit (joined q r)) (tells_both q.test r.test (PiecesFit q) (PiecesFit r) f g)
    (λ h. record {
      ordered = All-append LinIsOrdered q.sums r.sums h.0.ordered h.1.ordered;
      bags = All-append (λ (v : Var). v.bag ≡ true) q.names r.names h.0.bags h.1.bags;
      members = All-append (λ n. ¬ (n ≡ 1)) q.counts r.counts h.0.members h.1.members;
      binders = either_all q.bound r.bound (λ u. u.bag ≡ false) h.0.binders h.1.binders;
    })
    (λ h. (
      record {
        ordered = All-left LinIsOrdered q.sums r.sums h.ordered;
        bags = All-left (λ (v : Var). v.bag ≡ true) q.names r.names h.bags;
        members = All-left (λ n. ¬ (n ≡ 1)) q.counts r.counts h.members;
        binders = λ u b. h.binders u (or_left (q.bound u) (r.bound u) b);
      },
      record {
        ordered = All-right LinIsOrdered q.sums r.sums h.ordered;
        bags = All-right (λ (v : Var). v.bag ≡ true) q.names r.names h.bags;
        members = All-right (λ n. ¬ (n ≡ 1)) q.counts r.counts h.members;
        binders = λ u b. h.binders u (or_right (q.bound u) (r.bound u) b);
      },
    ))

under_told : (u : Var) (q : Pieces) → PiecesTold q → PiecesTold (under u q)
under_told u q f = tells (not u.bag && q.test) ((u.bag ≡ false) × PiecesFit q) (PiecesFit (under u q)) (tells_both (not u.bag) q.test (u.bag ≡ false) (PiecesFit q) (tells_not u.bag) f)
    (λ h. record {
      ordered = h.1.ordered;
      bags = h.1.bags;
      members = h.1.members;
      binders = either_all (λ v. same u v) q.bound (λ v. v.bag ≡ false) (λ v e. subst (λ (w : Var). w.bag ≡ false) (same_true u v e) h.0) h.1.binders;
    })
    (λ h. (
      h.binders u (or_left (same u u) (q.bound u) (same_itself u)),
      record { ordered = h.ordered; bags = h.bags; members = h.members; binders = λ v b. h.binders v (or_right (same u v) (q.bound v) b) },
    ))

counted_told : (m n : ℕ) (q : Pieces) → m ≡ n → PiecesTold q → PiecesTold (counted m n q)
counted_told m n q e f = tells (not (m == 1) && q.test) ((¬ (m ≡ 1)) × PiecesFit q) (PiecesFit (counted m n q)) (tells_both (not (m == 1)) q.test (¬ (m ≡ 1)) (PiecesFit q) (tells_different m 1) f)
    (λ h. record {
      ordered = h.1.ordered;
      bags = h.1.bags;
      members = All-cons (λ n. ¬ (n ≡ 1)) n q.counts (subst (λ n. ¬ (n ≡ 1)) e h.0) h.1.members;
      binders = h.1.binders;
    })
    (λ h. (
      subst (λ n. ¬ (n ≡ 1)) (sym e) (All-head (λ n. ¬ (n ≡ 1)) n q.counts h.members),
      record { ordered = h.ordered; bags = h.bags; members = All-tail (λ n. ¬ (n ≡ 1)) n q.counts h.members; binders = h.binders },
    ))

sum_told : (a : Lin) → PiecesTold (sum_piece a)
sum_told a = tells (rises_from 0 a.terms) (LinIsOrdered a) (PiecesFit (sum_piece a)) (rises_told 0 a.terms)
    (λ h. record { ordered = All-cons LinIsOrdered a [] h (All-nil LinIsOrdered); bags = All-nil _; members = All-nil _; binders = λ u b. none b })
    (λ h. All-head LinIsOrdered a [] h.ordered)

name_told : (u : Var) → PiecesTold (name_piece u)
name_told u = (
  λ h. record { ordered = All-nil LinIsOrdered; bags = All-cons (λ (v : Var). v.bag ≡ true) u [] h (All-nil _); members = All-nil _; binders = λ u b. none b },
  λ h. All-head (λ (v : Var). v.bag ≡ true) u [] h.bags,
)

-- ---- bags

abbrev bag_pieces : Bag → Pieces
bag_pieces b = record { test = bag_formed b; sums = bag_sums b; names = names_in_bag b; counts = []; bound = λ v. false }

abbrev ToldBag : Type 0
ToldBag = (b : Bag) × PiecesTold (bag_pieces b)

abbrev bag_in : Bag-F ToldBag → Bag-F Bag
bag_in y = map-Bag ToldBag Bag (λ e. e.0) y

abbrev bag_level : Bag-F ToldBag → Pieces
bag_level y = record {
  test = bag_formed_level (map-Bag Bag Bool bag_formed (bag_in y));
  sums = bag_sums_level (map-Bag Bag (List Lin) bag_sums (bag_in y));
  names = names_in_bag_level (map-Bag Bag (List Var) names_in_bag (bag_in y));
  counts = [];
  bound = λ v. false;
}

bag_rolled : (y : Bag-F ToldBag) → bag_pieces (roll-Bag (bag_in y)) ≡ bag_level y
bag_rolled y = λ i. record {
  test = fold-roll-Bag Bool bag_formed_level (bag_in y) i;
  sums = fold-roll-Bag (List Lin) bag_sums_level (bag_in y) i;
  names = fold-roll-Bag (List Var) names_in_bag_level (bag_in y) i;
  counts = [];
  bound = λ v. false;
}

bag_step : (y : Bag-F ToldBag) → PiecesTold (bag_level y)
bag_step Bag-F.Empty = no_pieces_told
bag_step (Bag-F.Name v) = name_told v
bag_step (Bag-F.One a) = sum_told a
bag_step (Bag-F.Union a b) = joined_told (bag_pieces a.0) (bag_pieces b.0) a.1 b.1
bag_step (Bag-F.Inter a b) = joined_told (bag_pieces a.0) (bag_pieces b.0) a.1 b.1
bag_step (Bag-F.Diff a b) = joined_told (bag_pieces a.0) (bag_pieces b.0) a.1 b.1

bag_told : (b : Bag) → PiecesTold (bag_pieces b)
bag_told = ind-Bag (λ b. PiecesTold (bag_pieces b)) (λ x y is. subst (λ x. PiecesTold (bag_pieces (roll-Bag x))) is (subst PiecesTold (sym (bag_rolled y)) (bag_step y)))

-- ---- formulas

abbrev pieces_of : Pure → Pieces
pieces_of p = record { test = formed p; sums = sums p; names = bag_names p; counts = member_counts p; bound = λ v. is_bound v p }

abbrev Told : Type 0
Told = (p : Pure) × PiecesTold (pieces_of p)

abbrev pure_in : Pure-F Told → Pure-F Pure
pure_in y = map-Pure Told Pure (λ e. e.0) y

abbrev level : Pure-F Told → Pieces
level y = record {
  test = formed_level (map-Pure Pure Bool formed (pure_in y));
  sums = sums_level (map-Pure Pure (List Lin) sums (pure_in y));
  names = bag_names_level (map-Pure Pure (List Var) bag_names (pure_in y));
  counts = member_counts_level (map-Pure Pure (List ℕ) member_counts (pure_in y));
  bound = λ v. is_bound_level v (map-Pure Pure Bool (is_bound v) (pure_in y));
}

rolled : (y : Pure-F Told) → pieces_of (roll-Pure (pure_in y)) ≡ level y
rolled y = λ i. record {
  test = fold-roll-Pure Bool formed_level (pure_in y) i;
  sums = fold-roll-Pure (List Lin) sums_level (pure_in y) i;
  names = fold-roll-Pure (List Var) bag_names_level (pure_in y) i;
  counts = fold-roll-Pure (List ℕ) member_counts_level (pure_in y) i;
  bound = λ v. fold-roll-Pure Bool (is_bound_level v) (pure_in y) i;
}

-- the pieces of several formulas
abbrev group : List Told → Pieces
group ps = record {
  test = list_all (λ b. b) (map formed (map (λ (e : Told). e.0) ps));
  sums = flat_map (λ p. p) (map sums (map (λ (e : Told). e.0) ps));
  names = flat_map (λ p. p) (map bag_names (map (λ (e : Told). e.0) ps));
  counts = flat_map (λ p. p) (map member_counts (map (λ (e : Told). e.0) ps));
  bound = λ v. list_any (λ p. p) (map (is_bound v) (map (λ (e : Told). e.0) ps));
}

group_told : (ps : List Told) → PiecesTold (group ps)
group_told [] = no_pieces_told
group_told (p ∷ ps) = joined_told (pieces_of p.0) (group ps) p.1 (group_told ps)

members_told : (ps : List Told) → PiecesTold (counted (length (map formed (map (λ (e : Told). e.0) ps))) (length (map member_counts (map (λ (e : Told). e.0) ps))) (group ps))
members_told ps = counted_told (length (map formed (map (λ (e : Told). e.0) ps))) (length (map member_counts (map (λ (e : Told). e.0) ps))) (group ps)
    (length-map (map (λ (e : Told). e.0) ps) formed ∙ sym (length-map (map (λ (e : Told). e.0) ps) member_counts)) (group_told ps)

step : (y : Pure-F Told) → PiecesTold (level y)
step (Pure-F.Eq a b) = joined_told (sum_piece a) (sum_piece b) (sum_told a) (sum_told b)
step (Pure-F.Lt a b) = joined_told (sum_piece a) (sum_piece b) (sum_told a) (sum_told b)
step (Pure-F.Le a b) = joined_told (sum_piece a) (sum_piece b) (sum_told a) (sum_told b)
step (Pure-F.Divides d a) = sum_told a
step (Pure-F.BagEq a b) = joined_told (bag_pieces a) (bag_pieces b) (bag_told a) (bag_told b)
step (Pure-F.Subset a b) = joined_told (bag_pieces a) (bag_pieces b) (bag_told a) (bag_told b)
step (Pure-F.Member a b) = joined_told (sum_piece a) (bag_pieces b) (sum_told a) (bag_told b)
step (Pure-F.AllOf u b p) = joined_told (bag_pieces b) (under u (pieces_of p.0)) (bag_told b) (under_told u (pieces_of p.0) p.1)
step (Pure-F.Not p) = p.1
step (Pure-F.And ps) = members_told ps
step (Pure-F.Or ps) = members_told ps
step (Pure-F.Exists u p) = under_told u (pieces_of p.0) p.1
step (Pure-F.Forall u p) = under_told u (pieces_of p.0) p.1

pieces_told : (p : Pure) → PiecesTold (pieces_of p)
pieces_told = ind-Pure (λ p. PiecesTold (pieces_of p)) (λ x y is. subst (λ x. PiecesTold (pieces_of (roll-Pure x))) is (subst PiecesTold (sym (rolled y)) (step y)))

pub proper_told : (p : Pure) → Tells (plain_formed p) (IsProper p)
proper_told p = tells (is_bags_plain p && formed p) (IsTrue (is_bags_plain p) × PiecesFit (pieces_of p)) (IsProper p)
    (tells_both (is_bags_plain p) (formed p) (IsTrue (is_bags_plain p)) (PiecesFit (pieces_of p)) (λ h. h, λ h. h) (pieces_told p))
    (λ h. record { ordered = h.1.ordered; bags = h.1.bags; binders = h.1.binders; members = h.1.members; plain = h.0 })
    (λ h. (h.plain, record { ordered = h.ordered; bags = h.bags; members = h.members; binders = h.binders }))
