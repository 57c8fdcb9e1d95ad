-- Formulas that are proper: renamed ones, negations, and equations of arguments.
use Rattle.std.proofs.Common.{◌≡◌, ℕ, Bool, true, false, not, ◌||◌, IsTrue, inl, inr, List, [], ◌∷◌, ◌++◌, length, map, refl, sym, ap, ◌∙◌, subst, if◌then◌else◌, arith}
use Rattle.std.specs.List.{All, flat_map}
use Rattle.std.proofs.lemmas.List.{map-append}
use Rattle.std.proofs.lemmas.List.Elements.{All-nil, All-cons, All-map, All-weaker}
use Rattle.hs_pure.specs.declared.var.Var.{Var}
use Rattle.hs_pure.specs.declared.lin.Lin.{Lin}
use Rattle.hs_pure.specs.declared.bag.Bag.{Bag, map-Bag}
use Rattle.hs_pure.specs.declared.bag.Bag.TheOpen.{Bag-F}
use Rattle.hs_pure.specs.declared.bag.Bag.TheVariants as bag_of
use Rattle.hs_pure.specs.declared.pure.Pure.{Pure, map-Pure}
use Rattle.hs_pure.specs.declared.pure.Pure.TheOpen.{Pure-F}
use Rattle.hs_pure.specs.declared.pure.Pure.TheVariants as pure_of
use Rattle.hs_pure.specs.Occurs.{is_bound, is_bound_level, BagUse, bag_use, bag_use_level}
use Rattle.hs_pure.specs.Equated.{variable_sum}
use Rattle.hs_pure.specs.Rename.{renamed_lin, renamed_bag, renamed_bag_level, renamed, renamed_level, bag_sums_level, sums, sums_level}
use Rattle.hs_pure.specs.Sums.{LinIsOrdered, KeepsKinds}
use Rattle.hs_pure.proofs.Levels.{related, Both, related_bag, BothBag}
use Rattle.hs_pure.proofs.Views.{fold_bag-Empty, fold_bag-Name, fold_bag-One, fold_bag-Union, fold_bag-Inter, fold_bag-Diff, fold-Eq, fold-Lt, fold-Le, fold-Divides, fold-BagEq, fold-Subset, fold-Member, fold-AllOf, fold-Not, fold-And, fold-Or, fold-Exists, fold-Forall}
use Rattle.hs_pure.proofs.Vars.{or_left}
use Rattle.hs_pure.proofs.Weight.{ordered-renamed, bag_use-renamed}
use Rattle.hs_heap.specs.WellFormed.{names_in_bag, names_in_bag_level, bag_names, bag_names_level, member_counts, member_counts_level, is_and, is_and_level, IsWellFormed, IsProper}
use Rattle.hs_heap.specs.Instance.{conjunct_alone}
use Rattle.hs_heap.proofs.Booleans.{bool_cases}
use Rattle.hs_heap.proofs.Satisfied.{renamed_variables}
use Rattle.hs_rules.specs.Parts.{argument_equation}

-- ---- renamed formulas

module _ (ρ : Var → Var) where
  -- the names of bags are renamed
  abbrev BagNames : Bag → List Var → Type 0
  BagNames b vs = names_in_bag b ≡ map ρ vs

  abbrev BagPair : Type 0
  BagPair = BothBag BagNames (renamed_bag_level ρ) names_in_bag_level

  two : (a b c d : List Var) → a ≡ map ρ c → b ≡ map ρ d → a ++ b ≡ map ρ (c ++ d)
  two a b c d e f = (λ i. e i ++ f i) ∙ sym (map-append ρ c d)

  bag_level_names : (z : Bag-F BagPair) → BagNames (renamed_bag_level ρ (map-Bag BagPair Bag (λ e. e.0) z)) (names_in_bag_level (map-Bag BagPair (List Var) (λ e. e.1.0) z))
  bag_level_names Bag-F.Empty = fold_bag-Empty names_in_bag_level
  bag_level_names (Bag-F.Name v) = fold_bag-Name names_in_bag_level (ρ v)
  bag_level_names (Bag-F.One a) = fold_bag-One names_in_bag_level (renamed_lin ρ a)
  bag_level_names (Bag-F.Union a b) = fold_bag-Union names_in_bag_level a.0 b.0 ∙ two (names_in_bag a.0) (names_in_bag b.0) a.1.0 b.1.0 a.1.1 b.1.1
  bag_level_names (Bag-F.Inter a b) = fold_bag-Inter names_in_bag_level a.0 b.0 ∙ two (names_in_bag a.0) (names_in_bag b.0) a.1.0 b.1.0 a.1.1 b.1.1
  bag_level_names (Bag-F.Diff a b) = fold_bag-Diff names_in_bag_level a.0 b.0 ∙ two (names_in_bag a.0) (names_in_bag b.0) a.1.0 b.1.0 a.1.1 b.1.1

  names_in_bag-renamed : (b : Bag) → names_in_bag (renamed_bag ρ b) ≡ map ρ (names_in_bag b)
  names_in_bag-renamed = related_bag BagNames (renamed_bag_level ρ) names_in_bag_level bag_level_names

  abbrev Names : Pure → List Var → Type 0
  Names p vs = bag_names p ≡ map ρ vs

  abbrev NamesPair : Type 0
  NamesPair = Both Names (renamed_level ρ) bag_names_level

  all_names : (zs : List NamesPair) → flat_map (λ vs. vs) (map bag_names (map (λ (e : NamesPair). e.0) zs)) ≡ map ρ (flat_map (λ vs. vs) (map (λ (e : NamesPair). e.1.0) zs))
  all_names [] = refl
  all_names (z ∷ zs) = two (bag_names z.0) (flat_map (λ vs. vs) (map bag_names (map (λ (e : NamesPair). e.0) zs))) z.1.0 (flat_map (λ vs. vs) (map (λ (e : NamesPair). e.1.0) zs)) z.1.1 (all_names zs)

  bags_two : (a b : Bag) → names_in_bag (renamed_bag ρ a) ++ names_in_bag (renamed_bag ρ b) ≡ map ρ (names_in_bag a ++ names_in_bag b)
  bags_two a b = two (names_in_bag (renamed_bag ρ a)) (names_in_bag (renamed_bag ρ b)) (names_in_bag a) (names_in_bag b) (names_in_bag-renamed a) (names_in_bag-renamed b)

  level_names : (z : Pure-F NamesPair) → Names (renamed_level ρ (map-Pure NamesPair Pure (λ e. e.0) z)) (bag_names_level (map-Pure NamesPair (List Var) (λ e. e.1.0) z))
  level_names (Pure-F.Eq a b) = fold-Eq bag_names_level (renamed_lin ρ a) (renamed_lin ρ b)
  level_names (Pure-F.Lt a b) = fold-Lt bag_names_level (renamed_lin ρ a) (renamed_lin ρ b)
  level_names (Pure-F.Le a b) = fold-Le bag_names_level (renamed_lin ρ a) (renamed_lin ρ b)
  level_names (Pure-F.Divides d a) = fold-Divides bag_names_level d (renamed_lin ρ a)
  level_names (Pure-F.BagEq a b) = fold-BagEq bag_names_level (renamed_bag ρ a) (renamed_bag ρ b) ∙ bags_two a b
  level_names (Pure-F.Subset a b) = fold-Subset bag_names_level (renamed_bag ρ a) (renamed_bag ρ b) ∙ bags_two a b
  level_names (Pure-F.Member a b) = fold-Member bag_names_level (renamed_lin ρ a) (renamed_bag ρ b) ∙ names_in_bag-renamed b
  level_names (Pure-F.AllOf u b p) = fold-AllOf bag_names_level (ρ u) (renamed_bag ρ b) p.0 ∙ two (names_in_bag (renamed_bag ρ b)) (bag_names p.0) (names_in_bag b) p.1.0 (names_in_bag-renamed b) p.1.1
  level_names (Pure-F.Not p) = fold-Not bag_names_level p.0 ∙ p.1.1
  level_names (Pure-F.And ps) = fold-And bag_names_level (map (λ (e : NamesPair). e.0) ps) ∙ all_names ps
  level_names (Pure-F.Or ps) = fold-Or bag_names_level (map (λ (e : NamesPair). e.0) ps) ∙ all_names ps
  level_names (Pure-F.Exists u p) = fold-Exists bag_names_level (ρ u) p.0 ∙ p.1.1
  level_names (Pure-F.Forall u p) = fold-Forall bag_names_level (ρ u) p.0 ∙ p.1.1

  bag_names-renamed : (p : Pure) → bag_names (renamed ρ p) ≡ map ρ (bag_names p)
  bag_names-renamed = related Names (renamed_level ρ) bag_names_level level_names

  -- as many members
  abbrev Counts : Pure → List ℕ → Type 0
  Counts p ns = member_counts p ≡ ns

  abbrev CountsPair : Type 0
  CountsPair = Both Counts (renamed_level ρ) member_counts_level

  all_counts : (zs : List CountsPair) → map member_counts (map (λ (e : CountsPair). e.0) zs) ≡ map (λ (e : CountsPair). e.1.0) zs
  all_counts [] = refl
  all_counts (z ∷ zs) = λ i. z.1.1 i ∷ all_counts zs i

  level_counts : (z : Pure-F CountsPair) → Counts (renamed_level ρ (map-Pure CountsPair Pure (λ e. e.0) z)) (member_counts_level (map-Pure CountsPair (List ℕ) (λ e. e.1.0) z))
  level_counts (Pure-F.Eq a b) = fold-Eq member_counts_level (renamed_lin ρ a) (renamed_lin ρ b)
  level_counts (Pure-F.Lt a b) = fold-Lt member_counts_level (renamed_lin ρ a) (renamed_lin ρ b)
  level_counts (Pure-F.Le a b) = fold-Le member_counts_level (renamed_lin ρ a) (renamed_lin ρ b)
  level_counts (Pure-F.Divides d a) = fold-Divides member_counts_level d (renamed_lin ρ a)
  level_counts (Pure-F.BagEq a b) = fold-BagEq member_counts_level (renamed_bag ρ a) (renamed_bag ρ b)
  level_counts (Pure-F.Subset a b) = fold-Subset member_counts_level (renamed_bag ρ a) (renamed_bag ρ b)
  level_counts (Pure-F.Member a b) = fold-Member member_counts_level (renamed_lin ρ a) (renamed_bag ρ b)
  level_counts (Pure-F.AllOf u b p) = fold-AllOf member_counts_level (ρ u) (renamed_bag ρ b) p.0 ∙ p.1.1
  level_counts (Pure-F.Not p) = fold-Not member_counts_level p.0 ∙ p.1.1
  level_counts (Pure-F.And ps) = fold-And member_counts_level (map (λ (e : CountsPair). e.0) ps) ∙ ap (λ (ns : List (List ℕ)). length ns ∷ flat_map (λ n. n) ns) (all_counts ps)
  level_counts (Pure-F.Or ps) = fold-Or member_counts_level (map (λ (e : CountsPair). e.0) ps) ∙ ap (λ (ns : List (List ℕ)). length ns ∷ flat_map (λ n. n) ns) (all_counts ps)
  level_counts (Pure-F.Exists u p) = fold-Exists member_counts_level (ρ u) p.0 ∙ p.1.1
  level_counts (Pure-F.Forall u p) = fold-Forall member_counts_level (ρ u) p.0 ∙ p.1.1

  member_counts-renamed : (p : Pure) → member_counts (renamed ρ p) ≡ member_counts p
  member_counts-renamed = related Counts (renamed_level ρ) member_counts_level level_counts

  -- an And stays one, and nothing else becomes one
  abbrev Tells : Pure → Bool → Type 0
  Tells p b = is_and p ≡ b

  abbrev TellsPair : Type 0
  TellsPair = Both Tells (renamed_level ρ) is_and_level

  level_tells : (z : Pure-F TellsPair) → Tells (renamed_level ρ (map-Pure TellsPair Pure (λ e. e.0) z)) (is_and_level (map-Pure TellsPair Bool (λ e. e.1.0) z))
  level_tells (Pure-F.Eq a b) = fold-Eq is_and_level (renamed_lin ρ a) (renamed_lin ρ b)
  level_tells (Pure-F.Lt a b) = fold-Lt is_and_level (renamed_lin ρ a) (renamed_lin ρ b)
  level_tells (Pure-F.Le a b) = fold-Le is_and_level (renamed_lin ρ a) (renamed_lin ρ b)
  level_tells (Pure-F.Divides d a) = fold-Divides is_and_level d (renamed_lin ρ a)
  level_tells (Pure-F.BagEq a b) = fold-BagEq is_and_level (renamed_bag ρ a) (renamed_bag ρ b)
  level_tells (Pure-F.Subset a b) = fold-Subset is_and_level (renamed_bag ρ a) (renamed_bag ρ b)
  level_tells (Pure-F.Member a b) = fold-Member is_and_level (renamed_lin ρ a) (renamed_bag ρ b)
  level_tells (Pure-F.AllOf u b p) = fold-AllOf is_and_level (ρ u) (renamed_bag ρ b) p.0
  level_tells (Pure-F.Not p) = fold-Not is_and_level p.0
  level_tells (Pure-F.And ps) = fold-And is_and_level (map (λ (e : TellsPair). e.0) ps)
  level_tells (Pure-F.Or ps) = fold-Or is_and_level (map (λ (e : TellsPair). e.0) ps)
  level_tells (Pure-F.Exists u p) = fold-Exists is_and_level (ρ u) p.0
  level_tells (Pure-F.Forall u p) = fold-Forall is_and_level (ρ u) p.0

  pub is_and-renamed : (p : Pure) → is_and (renamed ρ p) ≡ is_and p
  is_and-renamed = related Tells (renamed_level ρ) is_and_level level_tells

  no_more : (b : Bool) → ((b || false) || false) ≡ true → b ≡ true
  no_more true e = refl
  no_more false e = e

  -- what a renamed formula binds is what a bound variable becomes
  bound_source : (p : Pure) (u : Var) → IsTrue (is_bound u (renamed ρ p)) → (w : Var) × IsTrue (is_bound w p) × (u ≡ ρ w)
  bound_source p u b =
      let f : ((is_bound u (renamed ρ p) || false) || false) ≡ true = or_left (is_bound u (renamed ρ p) || false) false (or_left (is_bound u (renamed ρ p)) false b) in
      let (w, k, is) = (renamed_variables ρ (conjunct_alone p) u).1 f in
      (w, no_more (is_bound w p) k, is)

  module _ (keeps : KeepsKinds ρ) where
    pub proper-renamed : (p : Pure) → IsProper p → IsProper (renamed ρ p)
    proper-renamed p h = record {
      ordered = ordered-renamed ρ keeps p h.ordered;
      bags = subst (All (λ (v : Var). v.bag ≡ true)) (sym (bag_names-renamed p))
          (All-map (λ (v : Var). v.bag ≡ true) ρ (bag_names p) (All-weaker (λ (v : Var). v.bag ≡ true) (λ v. (ρ v).bag ≡ true) (λ v e. keeps v ∙ e) (bag_names p) h.bags));
      binders = λ u b. let (w, k, is) = bound_source p u b in ap (λ (v : Var). v.bag) is ∙ keeps w ∙ h.binders w k;
      members = subst (All (λ n. ¬ (n ≡ 1))) (sym (member_counts-renamed p)) h.members;
      plain = subst (λ (u : BagUse). IsTrue (not u.under)) (sym (bag_use-renamed ρ p)) h.plain;
    }

pub well_formed_proper : (p : Pure) → IsWellFormed p → IsProper p
well_formed_proper p h = record { ordered = h.ordered; bags = h.bags; binders = h.binders; members = h.members; plain = h.plain }

-- ---- negations

pub proper-Not : (f : Pure) → IsProper f → IsProper (pure_of.Not f)
proper-Not f h = record {
  ordered = subst (All LinIsOrdered) (sym (fold-Not sums_level f)) h.ordered;
  bags = subst (All (λ (v : Var). v.bag ≡ true)) (sym (fold-Not bag_names_level f)) h.bags;
  binders = λ u b. h.binders u (subst IsTrue (fold-Not (is_bound_level u) f) b);
  members = subst (All (λ n. ¬ (n ≡ 1))) (sym (fold-Not member_counts_level f)) h.members;
  plain = subst (λ (u : BagUse). IsTrue (not u.under)) (sym (fold-Not bag_use_level f)) h.plain;
}

-- ---- equations of arguments

-- a formula with these sums and names, without quantifiers and connectives
record IsAtomic (p : Pure) (ls : List Lin) (vs : List Var) (bags : BagUse) : Type 0 where
  sums_are : sums p ≡ ls
  names_are : bag_names p ≡ vs
  binds_none : (u : Var) → is_bound u p ≡ false
  counts_none : member_counts p ≡ []
  use_is : bag_use p ≡ bags

atomic_proper : (p : Pure) (ls : List Lin) (vs : List Var) (bags : BagUse) → IsAtomic p ls vs bags → All LinIsOrdered ls → All (λ (v : Var). v.bag ≡ true) vs → bags.under ≡ false → IsProper p
atomic_proper p ls vs bags h order kinds plain = record {
  ordered = subst (All LinIsOrdered) (sym h.sums_are) order;
  bags = subst (All (λ (v : Var). v.bag ≡ true)) (sym h.names_are) kinds;
  binders = λ u b. absurd (let e : false ≡ true = sym (h.binds_none u) ∙ b in cc);
  members = subst (All (λ n. ¬ (n ≡ 1))) (sym h.counts_none) (All-nil _);
  plain = subst (λ (u : BagUse). IsTrue (not u.under)) (sym h.use_is) (rw plain refl);
}

variable_ordered : (v : Var) → v.bag ≡ false → LinIsOrdered (variable_sum v)
variable_ordered v kind = (omega arith, kind, (λ e. cc), tt)

eq_proper : (v w : Var) → v.bag ≡ false → w.bag ≡ false → IsProper (pure_of.Eq (variable_sum v) (variable_sum w))
eq_proper v w e f = atomic_proper _ (variable_sum v ∷ variable_sum w ∷ []) [] (record { has = false; under = false }) (record {
  sums_are = fold-Eq sums_level (variable_sum v) (variable_sum w);
  names_are = fold-Eq bag_names_level (variable_sum v) (variable_sum w);
  binds_none = λ u. fold-Eq (is_bound_level u) (variable_sum v) (variable_sum w);
  counts_none = fold-Eq member_counts_level (variable_sum v) (variable_sum w);
  use_is = fold-Eq bag_use_level (variable_sum v) (variable_sum w);
}) (All-cons LinIsOrdered (variable_sum v) (variable_sum w ∷ []) (variable_ordered v e) (All-cons LinIsOrdered (variable_sum w) [] (variable_ordered w f) (All-nil LinIsOrdered))) (All-nil _) refl

bag_eq_proper : (v w : Var) → v.bag ≡ true → w.bag ≡ true → IsProper (pure_of.BagEq (bag_of.Name v) (bag_of.Name w))
bag_eq_proper v w e f = atomic_proper _ [] (v ∷ w ∷ []) (record { has = true; under = false }) (record {
  sums_are = fold-BagEq sums_level (bag_of.Name v) (bag_of.Name w) ∙ (λ i. fold_bag-Name bag_sums_level v i ++ fold_bag-Name bag_sums_level w i);
  names_are = fold-BagEq bag_names_level (bag_of.Name v) (bag_of.Name w) ∙ (λ i. fold_bag-Name names_in_bag_level v i ++ fold_bag-Name names_in_bag_level w i);
  binds_none = λ u. fold-BagEq (is_bound_level u) (bag_of.Name v) (bag_of.Name w);
  counts_none = fold-BagEq member_counts_level (bag_of.Name v) (bag_of.Name w);
  use_is = fold-BagEq bag_use_level (bag_of.Name v) (bag_of.Name w);
}) (All-nil _) (All-cons (λ (u : Var). u.bag ≡ true) v (w ∷ []) e (All-cons (λ (u : Var). u.bag ≡ true) w [] f (All-nil _))) refl

module _ (P : Pure → Type 0) (v w : Var) (bags : v.bag ≡ true → P (pure_of.BagEq (bag_of.Name v) (bag_of.Name w))) (numbers : v.bag ≡ false → P (pure_of.Eq (variable_sum v) (variable_sum w))) where
  pub equation_by_kind : P (argument_equation v w)
  equation_by_kind = elim (bool_cases v.bag) [
    | inl is ↦ subst (λ (b : Bool). P (if b then pure_of.BagEq (bag_of.Name v) (bag_of.Name w) else pure_of.Eq (variable_sum v) (variable_sum w))) (sym is) (bags is)
    | inr isnt ↦ subst (λ (b : Bool). P (if b then pure_of.BagEq (bag_of.Name v) (bag_of.Name w) else pure_of.Eq (variable_sum v) (variable_sum w))) (sym isnt) (numbers isnt)
  ]

pub proper-equation : (v w : Var) → v.bag ≡ w.bag → IsProper (argument_equation v w)
proper-equation v w e = equation_by_kind IsProper v w (λ k. bag_eq_proper v w k (sym e ∙ k)) (λ k. eq_proper v w k (sym e ∙ k))

pub is_and-equation : (v w : Var) → is_and (argument_equation v w) ≡ false
is_and-equation v w = equation_by_kind (λ p. is_and p ≡ false) v w (λ k. fold-BagEq is_and_level (bag_of.Name v) (bag_of.Name w)) (λ k. fold-Eq is_and_level (variable_sum v) (variable_sum w))
