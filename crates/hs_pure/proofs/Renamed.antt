-- A renamed formula is true where the formula is true under the renamed stack.
use Rattle.std.proofs.Common.{◌≡◌, ℕ, ◌+◌, ◌-◌, min, ◌<◌, ◌≤◌, ℤ, pos, ◌*ℤ◌, ◌<ℤ◌, ◌≤ℤ◌, Bool, true, false, not, ◌&&◌, ◌||◌, IsTrue, List, [], ◌∷◌, map, ◌↔◌, inl, inr, ⊎_elim, refl, sym, ap, ◌∙◌, subst, if◌then◌else◌}
use Rattle.std.specs.Ordering.{int_eq}
use Rattle.std.proofs.lemmas.Bool.{and_parts, or_cases}
use Rattle.hs_pure.specs.declared.var.Var.{Var}
use Rattle.hs_pure.specs.declared.lin.Lin.{Lin}
use Rattle.hs_pure.specs.declared.bag.Bag.{Bag, map-Bag}
use Rattle.hs_pure.specs.declared.bag.Bag.TheOpen.{Bag-F}
use Rattle.hs_pure.specs.declared.pure.Pure.{Pure, map-Pure}
use Rattle.hs_pure.specs.declared.pure.Pure.TheOpen.{Pure-F}
use Rattle.hs_pure.specs.Stack.{Stack, Value, same, with_value, number_value}
use Rattle.hs_pure.specs.Assertion.{BagTerm, empty, name, one, union, inter, diff, Assertion, truth, eq, lt, le, divides, bag_eq, subset, member, all_of, negation, both, either, exists, forall, every, some, bag_level, bag_term_of, pure_level, assertion_of}
use Rattle.hs_pure.specs.Truth.{value, count, IsTrueAt, TrueAt}
use Rattle.hs_pure.specs.Occurs.{is_free, occurs}
use Rattle.hs_pure.specs.Rename.{renamed_lin, renamed_bag, renamed_bag_level, renamed, renamed_level, KeepsApart}
use Rattle.hs_pure.specs.Mirror.{in_bag_term, is_free_in, is_bound_in, occurs_in, renamed_term, renamed_assertion}
use Rattle.hs_pure.proofs.Vars.{or_left, or_right, same-refl, same-eq, different}
use Rattle.hs_pure.proofs.Levels.{related, Both, related_bag, BothBag}
use Rattle.hs_pure.proofs.Views.{fold_bag-Empty, fold_bag-Name, fold_bag-One, fold_bag-Union, fold_bag-Inter, fold_bag-Diff, fold-Eq, fold-Lt, fold-Le, fold-Divides, fold-BagEq, fold-Subset, fold-Member, fold-AllOf, fold-Not, fold-And, fold-Or, fold-Exists, fold-Forall}
use Rattle.hs_pure.proofs.Mirrored.{fold-joined, is_free-is, is_bound-is, occurs-is}
use Rattle.hs_pure.proofs.Agree.{Agree, agree}
use Rattle.hs_pure.proofs.Sums.{value-renamed}

-- what occurs free occurs

or_both : (a b c d : Bool) → (IsTrue a → IsTrue c) → (IsTrue b → IsTrue d) → IsTrue (a || b) → IsTrue (c || d)
or_both a b c d f g h = ⊎_elim (λ e. or_left c d (f e)) (λ e. or_right c d (g e)) (or_cases a b h)

pub free-occurs : (v : Var) (p : Assertion) → IsTrue (is_free_in v p) → IsTrue (occurs_in v p)
free-occurs v truth = λ h. h
free-occurs v (eq a b) = λ h. h
free-occurs v (lt a b) = λ h. h
free-occurs v (le a b) = λ h. h
free-occurs v (divides d a) = λ h. h
free-occurs v (bag_eq a b) = λ h. h
free-occurs v (subset a b) = λ h. h
free-occurs v (member a b) = λ h. h
free-occurs v (all_of u b p) =
    or_both (in_bag_term v b) (not (same u v) && is_free_in v p) (in_bag_term v b) (same u v || occurs_in v p) (λ h. h)
    (λ h. or_right (same u v) (occurs_in v p) (free-occurs v p (and_parts (not (same u v)) (is_free_in v p) h).1))
free-occurs v (negation p) = free-occurs v p
free-occurs v (both p q) = or_both (is_free_in v p) (is_free_in v q) (occurs_in v p) (occurs_in v q) (free-occurs v p) (free-occurs v q)
free-occurs v (either p q) = or_both (is_free_in v p) (is_free_in v q) (occurs_in v p) (occurs_in v q) (free-occurs v p) (free-occurs v q)
free-occurs v (exists u p) = λ h. or_right (same u v) (occurs_in v p) (free-occurs v p (and_parts (not (same u v)) (is_free_in v p) h).1)
free-occurs v (forall u p) = λ h. or_right (same u v) (occurs_in v p) (free-occurs v p (and_parts (not (same u v)) (is_free_in v p) h).1)

pub free-occurs_of : (p : Pure) (v : Var) → IsTrue (is_free v p) → IsTrue (occurs v p)
free-occurs_of p v h = subst IsTrue (sym (occurs-is v p)) (free-occurs v (assertion_of p) (subst IsTrue (is_free-is v p) h))

module _ (ρ : Var → Var) where
  -- a renamed formula is read as its renamed assertion

  abbrev BagReads : Bag → BagTerm → Type 0
  BagReads b c = bag_term_of b ≡ renamed_term ρ c

  bag_reads : (z : Bag-F (BothBag BagReads (renamed_bag_level ρ) bag_level)) →
      BagReads (renamed_bag_level ρ (map-Bag (BothBag BagReads (renamed_bag_level ρ) bag_level) Bag (λ e. e.0) z)) (bag_level (map-Bag (BothBag BagReads (renamed_bag_level ρ) bag_level) BagTerm (λ e. e.1.0) z))
  bag_reads Bag-F.Empty = fold_bag-Empty bag_level
  bag_reads (Bag-F.Name v) = fold_bag-Name bag_level (ρ v)
  bag_reads (Bag-F.One a) = fold_bag-One bag_level (renamed_lin ρ a)
  bag_reads (Bag-F.Union a b) = fold_bag-Union bag_level a.0 b.0 ∙ (λ i. union (a.1.1 i) (b.1.1 i))
  bag_reads (Bag-F.Inter a b) = fold_bag-Inter bag_level a.0 b.0 ∙ (λ i. inter (a.1.1 i) (b.1.1 i))
  bag_reads (Bag-F.Diff a b) = fold_bag-Diff bag_level a.0 b.0 ∙ (λ i. diff (a.1.1 i) (b.1.1 i))

  pub bag_term_of-renamed : (b : Bag) → bag_term_of (renamed_bag ρ b) ≡ renamed_term ρ (bag_term_of b)
  bag_term_of-renamed = related_bag BagReads (renamed_bag_level ρ) bag_level bag_reads

  abbrev Reads : Pure → Assertion → Type 0
  Reads p q = assertion_of p ≡ renamed_assertion ρ q

  every-renamed : (ps : List Assertion) → every (map (renamed_assertion ρ) ps) ≡ renamed_assertion ρ (every ps)
  every-renamed [] = refl
  every-renamed (p ∷ ps) = sym (fold-joined both both (renamed_assertion ρ) (λ p q. refl) p ps)

  some-renamed : (ps : List Assertion) → some (map (renamed_assertion ρ) ps) ≡ renamed_assertion ρ (some ps)
  some-renamed [] = refl
  some-renamed (p ∷ ps) = sym (fold-joined either either (renamed_assertion ρ) (λ p q. refl) p ps)

  abbrev Pair : Type 0
  Pair = Both Reads (renamed_level ρ) pure_level

  all_read : (zs : List Pair) → map assertion_of (map (λ (e : Pair). e.0) zs) ≡ map (renamed_assertion ρ) (map (λ (e : Pair). e.1.0) zs)
  all_read [] = refl
  all_read (z ∷ zs) = λ i. z.1.1 i ∷ all_read zs i

  reads : (z : Pure-F Pair) → Reads (renamed_level ρ (map-Pure Pair Pure (λ e. e.0) z)) (pure_level (map-Pure Pair Assertion (λ e. e.1.0) z))
  reads (Pure-F.Eq a b) = fold-Eq pure_level (renamed_lin ρ a) (renamed_lin ρ b)
  reads (Pure-F.Lt a b) = fold-Lt pure_level (renamed_lin ρ a) (renamed_lin ρ b)
  reads (Pure-F.Le a b) = fold-Le pure_level (renamed_lin ρ a) (renamed_lin ρ b)
  reads (Pure-F.Divides d a) = fold-Divides pure_level d (renamed_lin ρ a)
  reads (Pure-F.BagEq a b) = fold-BagEq pure_level (renamed_bag ρ a) (renamed_bag ρ b) ∙ (λ i. bag_eq (bag_term_of-renamed a i) (bag_term_of-renamed b i))
  reads (Pure-F.Subset a b) = fold-Subset pure_level (renamed_bag ρ a) (renamed_bag ρ b) ∙ (λ i. subset (bag_term_of-renamed a i) (bag_term_of-renamed b i))
  reads (Pure-F.Member a b) = fold-Member pure_level (renamed_lin ρ a) (renamed_bag ρ b) ∙ (λ i. member (renamed_lin ρ a) (bag_term_of-renamed b i))
  reads (Pure-F.AllOf u b p) = fold-AllOf pure_level (ρ u) (renamed_bag ρ b) p.0 ∙ (λ i. all_of (ρ u) (bag_term_of-renamed b i) (p.1.1 i))
  reads (Pure-F.Not p) = fold-Not pure_level p.0 ∙ ap negation p.1.1
  reads (Pure-F.And ps) = fold-And pure_level (map (λ (e : Pair). e.0) ps) ∙ ap every (all_read ps) ∙ every-renamed (map (λ (e : Pair). e.1.0) ps)
  reads (Pure-F.Or ps) = fold-Or pure_level (map (λ (e : Pair). e.0) ps) ∙ ap some (all_read ps) ∙ some-renamed (map (λ (e : Pair). e.1.0) ps)
  reads (Pure-F.Exists u p) = fold-Exists pure_level (ρ u) p.0 ∙ ap (exists (ρ u)) p.1.1
  reads (Pure-F.Forall u p) = fold-Forall pure_level (ρ u) p.0 ∙ ap (forall (ρ u)) p.1.1

  pub assertion_of-renamed : (p : Pure) → assertion_of (renamed ρ p) ≡ renamed_assertion ρ (assertion_of p)
  assertion_of-renamed = related Reads (renamed_level ρ) pure_level reads

  -- no two variables, of which the first passes one test and the second the other, become one
  abbrev Apart : (Var → Bool) → (Var → Bool) → Type 0
  Apart binds has = (u v : Var) → IsTrue (binds u) → IsTrue (has v) → ρ u ≡ ρ v → u ≡ v

  abbrev after : Stack → Stack
  after s v = s (ρ v)

  count-renamed : (s : Stack) (b : BagTerm) (x : ℤ) → count s (renamed_term ρ b) x ≡ count (after s) b x
  count-renamed s empty x = refl
  count-renamed s (name v) x = refl
  count-renamed s (one a) x = ap (λ z. if int_eq z x then 1 else 0) (value-renamed ρ s a)
  count-renamed s (union a b) x = λ i. count-renamed s a x i + count-renamed s b x i
  count-renamed s (inter a b) x = λ i. min (count-renamed s a x i) (count-renamed s b x i)
  count-renamed s (diff a b) x = λ i. count-renamed s a x i - count-renamed s b x i

  -- to bind after the renaming and before it
  with_value-renamed : (p : Var → Bool) (u : Var) (x : Value) (s : Stack) → ((v : Var) → IsTrue (p v) → ρ u ≡ ρ v → u ≡ v) →
      Agree p (after (with_value (ρ u) x s)) (with_value u x (after s))
  with_value-renamed p u x s apart v h = of (same u v) refl
    where
      of : (b : Bool) → same u v ≡ b → (if same (ρ u) (ρ v) then x else s (ρ v)) ≡ (if same u v then x else s (ρ v))
      of true e =
          let e' : same (ρ u) (ρ v) ≡ true = ap (λ w. same (ρ u) (ρ w)) (sym (same-eq u v e)) ∙ same-refl (ρ u) in
          rw (e, e') refl
      of false e =
          let e' : same (ρ u) (ρ v) ≡ false = different (ρ u) (ρ v) (λ f. let g : same u v ≡ true = subst (λ w. same u w ≡ true) (apart v h f) (same-refl u) in (cc)) in
          rw (e, e') refl

  lins-renamed : (R : ℤ → ℤ → Type 0) (s : Stack) (a b : Lin) →
      R (value s (renamed_lin ρ a)) (value s (renamed_lin ρ b)) ↔ R (value (after s) a) (value (after s) b)
  lins-renamed R s a b = let l = value-renamed ρ s a in let r = value-renamed ρ s b in (
    λ h. subst (λ z. R z (value (after s) b)) l (subst (R (value s (renamed_lin ρ a))) r h),
    λ h. subst (λ z. R z (value s (renamed_lin ρ b))) (sym l) (subst (R (value (after s) a)) (sym r) h),
  )

  bags-renamed : (R : ℕ → ℕ → Type 0) (s : Stack) (a b : BagTerm) →
      ((x : ℤ) → R (count s (renamed_term ρ a) x) (count s (renamed_term ρ b) x)) ↔ ((x : ℤ) → R (count (after s) a x) (count (after s) b x))
  bags-renamed R s a b = (
    λ h x. subst (λ n. R n (count (after s) b x)) (count-renamed s a x) (subst (R (count s (renamed_term ρ a) x)) (count-renamed s b x) (h x)),
    λ h x. subst (λ n. R n (count s (renamed_term ρ b) x)) (sym (count-renamed s a x)) (subst (R (count (after s) a x)) (sym (count-renamed s b x)) (h x)),
  )

  -- a formula below the quantifier of u
  below : (u : Var) (p : Assertion) → Apart (λ v. same u v || is_bound_in v p) (λ v. same u v || occurs_in v p) → Apart (λ v. is_bound_in v p) (λ v. occurs_in v p)
  below u p h w v b o = h w v (or_right (same u w) (is_bound_in w p) b) (or_right (same u v) (occurs_in v p) o)

  over : (u : Var) (b : BagTerm) (p : Assertion) → Apart (λ v. same u v || is_bound_in v p) (λ v. in_bag_term v b || (same u v || occurs_in v p)) →
      Apart (λ v. same u v || is_bound_in v p) (λ v. same u v || occurs_in v p)
  over u b p h w v c o = h w v c (or_right (in_bag_term v b) (same u v || occurs_in v p) o)

  at : (u : Var) (p : Assertion) → Apart (λ v. same u v || is_bound_in v p) (λ v. same u v || occurs_in v p) →
      (v : Var) → IsTrue (is_free_in v p) → ρ u ≡ ρ v → u ≡ v
  at u p h v f = h u v (or_left (same u u) (is_bound_in u p) (same-refl u)) (or_right (same u v) (occurs_in v p) (free-occurs v p f))

  under : (u : Var) (p : Assertion) (x : ℤ) (s : Stack) → Apart (λ v. same u v || is_bound_in v p) (λ v. same u v || occurs_in v p) →
      IsTrueAt (with_value (ρ u) (number_value x) s) (renamed_assertion ρ p) ↔ IsTrueAt (after (with_value (ρ u) (number_value x) s)) p →
      IsTrueAt (with_value (ρ u) (number_value x) s) (renamed_assertion ρ p) ↔ IsTrueAt (with_value u (number_value x) (after s)) p
  under u p x s h ih =
      let same_there = with_value-renamed (λ v. is_free_in v p) u (number_value x) s (at u p h) in (
        λ t. agree p (after (with_value (ρ u) (number_value x) s)) (with_value u (number_value x) (after s)) same_there (ih.0 t),
        λ t. ih.1 (agree p (with_value u (number_value x) (after s)) (after (with_value (ρ u) (number_value x) s)) (λ v f. sym (same_there v f)) t),
      )

  first : (p q : Assertion) → Apart (λ v. is_bound_in v p || is_bound_in v q) (λ v. occurs_in v p || occurs_in v q) →
      Apart (λ v. is_bound_in v p) (λ v. occurs_in v p)
  first p q h u v b o = h u v (or_left (is_bound_in u p) (is_bound_in u q) b) (or_left (occurs_in v p) (occurs_in v q) o)

  second : (p q : Assertion) → Apart (λ v. is_bound_in v p || is_bound_in v q) (λ v. occurs_in v p || occurs_in v q) →
      Apart (λ v. is_bound_in v q) (λ v. occurs_in v q)
  second p q h u v b o = h u v (or_right (is_bound_in u p) (is_bound_in u q) b) (or_right (occurs_in v p) (occurs_in v q) o)

  pub assertion-renamed : (p : Assertion) (s : Stack) → Apart (λ v. is_bound_in v p) (λ v. occurs_in v p) → IsTrueAt s (renamed_assertion ρ p) ↔ IsTrueAt (after s) p
  assertion-renamed truth s h = (λ t. t, λ t. t)
  assertion-renamed (eq a b) s h = lins-renamed (λ x y. x ≡ y) s a b
  assertion-renamed (lt a b) s h = lins-renamed (λ x y. x <ℤ y) s a b
  assertion-renamed (le a b) s h = lins-renamed (λ x y. x ≤ℤ y) s a b
  assertion-renamed (divides d a) s h = lins-renamed (λ x y. (pos 1 ≤ℤ d) × ((k : ℤ) × (x ≡ k *ℤ d))) s a a
  assertion-renamed (bag_eq a b) s h = bags-renamed (λ x y. x ≡ y) s a b
  assertion-renamed (subset a b) s h = bags-renamed (λ x y. x ≤ y) s a b
  assertion-renamed (member a b) s h =
      let l = value-renamed ρ s a in let r = count-renamed s b in (
        λ m. subst (λ n. 0 < n) (r (value (after s) a)) (subst (λ z. 0 < count s (renamed_term ρ b) z) l m),
        λ m. subst (λ z. 0 < count s (renamed_term ρ b) z) (sym l) (subst (λ n. 0 < n) (sym (r (value (after s) a))) m),
      )
  assertion-renamed (all_of u b p) s h =
      let inner = over u b p h in
      let body = λ (x : ℤ). under u p x s inner (assertion-renamed p (with_value (ρ u) (number_value x) s) (below u p inner)) in
      let r = count-renamed s b in
      (λ all x m. (body x).0 (all x (subst (λ n. 0 < n) (sym (r x)) m)), λ all x m. (body x).1 (all x (subst (λ n. 0 < n) (r x) m)))
  assertion-renamed (negation p) s h = let ih = assertion-renamed p s h in (λ no y. no (ih.1 y), λ no y. no (ih.0 y))
  assertion-renamed (both p q) s h =
      let here = assertion-renamed p s (first p q h) in let later = assertion-renamed q s (second p q h) in
      (λ t. (here.0 t.0, later.0 t.1), λ t. (here.1 t.0, later.1 t.1))
  assertion-renamed (either p q) s h =
      let here = assertion-renamed p s (first p q h) in let later = assertion-renamed q s (second p q h) in
      (⊎_elim (λ t. inl (here.0 t)) (λ t. inr (later.0 t)), ⊎_elim (λ t. inl (here.1 t)) (λ t. inr (later.1 t)))
  assertion-renamed (exists u p) s h =
      let body = λ (x : ℤ). under u p x s h (assertion-renamed p (with_value (ρ u) (number_value x) s) (below u p h)) in
      (λ e. (e.0, (body e.0).0 e.1), λ e. (e.0, (body e.0).1 e.1))
  assertion-renamed (forall u p) s h =
      let body = λ (x : ℤ). under u p x s h (assertion-renamed p (with_value (ρ u) (number_value x) s) (below u p h)) in
      (λ all x. (body x).0 (all x), λ all x. (body x).1 (all x))

  pub truth-renamed : (p : Pure) (s : Stack) → KeepsApart ρ p → TrueAt s (renamed ρ p) ↔ TrueAt (λ v. s (ρ v)) p
  truth-renamed p s h =
      subst (λ q. IsTrueAt s q ↔ IsTrueAt (after s) (assertion_of p)) (sym (assertion_of-renamed p))
      (assertion-renamed (assertion_of p) s (λ u v b o. h u v (subst IsTrue (sym (is_bound-is u p)) b) (subst IsTrue (sym (occurs-is v p)) o)))
