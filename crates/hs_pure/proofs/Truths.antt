-- The truth of a formula, variant by variant.
use Rattle.std.proofs.Common.{◌≡◌, ℕ, zero, suc, ◌<◌, ◌≤◌, ℤ, pos, ◌*ℤ◌, ◌<ℤ◌, ◌≤ℤ◌, List, [], ◌∷◌, map, length, get_or, ◌↔◌, ◌⊎◌, inl, inr, ⊎_elim, refl, sym, subst, arith}
use Rattle.std.specs.List.{All, Any, fold}
use Rattle.std.proofs.lemmas.List.Elements.{All-head, All-nil, All-cons, All-map}
use Rattle.hs_pure.specs.declared.var.Var.{Var}
use Rattle.hs_pure.specs.declared.lin.Lin.{Lin}
use Rattle.hs_pure.specs.declared.bag.Bag.{Bag}
use Rattle.hs_pure.specs.declared.pure.Pure.{Pure}
use Rattle.hs_pure.specs.declared.pure.Pure.TheVariants as pure_of
use Rattle.hs_pure.specs.Stack.{Stack, with_value, number_value}
use Rattle.hs_pure.specs.Assertion.{Assertion, truth, negation, both, either, every, some, bag_term_of, pure_level, assertion_of}
use Rattle.hs_pure.specs.Truth.{value, count, IsTrueAt, TrueAt}
use Rattle.hs_pure.proofs.Views.{fold-Eq, fold-Lt, fold-Le, fold-Divides, fold-BagEq, fold-Subset, fold-Member, fold-AllOf, fold-Not, fold-And, fold-Or, fold-Exists, fold-Forall}
use Rattle.hs_pure.proofs.Lists.{All-later}

pub All-map_back : {X Y : Type 0} (P : Y → Type 0) (f : X → Y) (xs : List X) → All P (map f xs) → All (λ x. P (f x)) xs
All-map_back P f [] h = All-nil _
All-map_back P f (x ∷ xs) h = All-cons (λ x. P (f x)) x xs (All-head P (f x) (map f xs) h) (All-map_back P f xs (All-later P (f x) (map f xs) h))

module _ {X : Type 0} (P : X → Type 0) where
  pub Any-first : (x : X) (xs : List X) → P x → Any P (x ∷ xs)
  Any-first x xs h = (0, x, omega arith, refl, h)

  pub Any-later : (x : X) (xs : List X) → Any P xs → Any P (x ∷ xs)
  Any-later x xs h = let less = h.2 in (suc h.0, h.1, omega arith, h.3, h.4)

  at_place : (x : X) (xs : List X) (k : ℕ) (y : X) → k < length (x ∷ xs) → get_or (x ∷ xs) k y ≡ y → P y → P x ⊎ Any P xs
  at_place x xs zero y less e h = inl (subst P (sym e) h)
  at_place x xs (suc k) y less e h = inr (k, y, omega arith, e, h)

  pub Any-cases : (x : X) (xs : List X) → Any P (x ∷ xs) → P x ⊎ Any P xs
  Any-cases x xs h = at_place x xs h.0 h.1 h.2 h.3 h.4

  pub Any-nil : ¬ (Any P [])
  Any-nil h = let less = h.2 in absurd (omega arith)

pub Any-map : {X Y : Type 0} (P : Y → Type 0) (f : X → Y) (xs : List X) → Any P (map f xs) ↔ Any (λ x. P (f x)) xs
Any-map P f [] = (λ h. absurd (Any-nil P h), λ h. absurd (Any-nil (λ x. P (f x)) h))
Any-map P f (x ∷ xs) = let rest = Any-map P f xs in (
  λ h. ⊎_elim (Any-first (λ x. P (f x)) x xs) (λ l. Any-later (λ x. P (f x)) x xs (rest.0 l)) (Any-cases P (f x) (map f xs) h),
  λ h. ⊎_elim (Any-first P (f x) (map f xs)) (λ l. Any-later P (f x) (map f xs) (rest.1 l)) (Any-cases (λ x. P (f x)) x xs h),
)

-- a predicate of assertions that takes a joined one apart holds of all that were joined, or of one
module _ (P : Assertion → Type 0) where
  fold_all : ((p q : Assertion) → P (both p q) ↔ P p × P q) → (p : Assertion) (qs : List Assertion) → P (fold both p qs) ↔ P p × All P qs
  fold_all parts p [] = (λ h. (h, All-nil P), λ h. h.0)
  fold_all parts p (q ∷ qs) = let rest = fold_all parts (both p q) qs in (
    λ h. let here = (parts p q).0 (rest.0 h).0 in (here.0, All-cons P q qs here.1 (rest.0 h).1),
    λ h. rest.1 ((parts p q).1 (h.0, All-head P q qs h.1), All-later P q qs h.1),
  )

  fold_all_either : ((p q : Assertion) → P (either p q) ↔ P p × P q) → (p : Assertion) (qs : List Assertion) → P (fold either p qs) ↔ P p × All P qs
  fold_all_either parts p [] = (λ h. (h, All-nil P), λ h. h.0)
  fold_all_either parts p (q ∷ qs) = let rest = fold_all_either parts (either p q) qs in (
    λ h. let here = (parts p q).0 (rest.0 h).0 in (here.0, All-cons P q qs here.1 (rest.0 h).1),
    λ h. rest.1 ((parts p q).1 (h.0, All-head P q qs h.1), All-later P q qs h.1),
  )

  pub every-all : P truth → ((p q : Assertion) → P (both p q) ↔ P p × P q) → (qs : List Assertion) → P (every qs) ↔ All P qs
  every-all none parts [] = (λ h. All-nil P, λ h. none)
  every-all none parts (q ∷ qs) = let rest = fold_all parts q qs in (
    λ h. All-cons P q qs (rest.0 h).0 (rest.0 h).1,
    λ h. rest.1 (All-head P q qs h, All-later P q qs h),
  )

  pub some-all : P (negation truth) → ((p q : Assertion) → P (either p q) ↔ P p × P q) → (qs : List Assertion) → P (some qs) ↔ All P qs
  some-all none parts [] = (λ h. All-nil P, λ h. none)
  some-all none parts (q ∷ qs) = let rest = fold_all_either parts q qs in (
    λ h. All-cons P q qs (rest.0 h).0 (rest.0 h).1,
    λ h. rest.1 (All-head P q qs h, All-later P q qs h),
  )

module _ (s : Stack) where
  fold_any : (p : Assertion) (qs : List Assertion) → IsTrueAt s (fold either p qs) ↔ IsTrueAt s p ⊎ Any (IsTrueAt s) qs
  fold_any p [] = (λ h. inl h, λ h. ⊎_elim (λ x. x) (λ l. absurd (Any-nil (IsTrueAt s) l)) h)
  fold_any p (q ∷ qs) = let rest = fold_any (either p q) qs in (
    λ h. ⊎_elim (λ x. ⊎_elim (λ y. inl y) (λ y. inr (Any-first (IsTrueAt s) q qs y)) x) (λ l. inr (Any-later (IsTrueAt s) q qs l)) (rest.0 h),
    λ h. rest.1 (⊎_elim (λ x. inl (inl x)) (λ l. ⊎_elim (λ y. inl (inr y)) (λ y. inr y) (Any-cases (IsTrueAt s) q qs l)) h),
  )

  pub true-some : (qs : List Assertion) → IsTrueAt s (some qs) ↔ Any (IsTrueAt s) qs
  true-some [] = (λ h. absurd (h tt), λ h. absurd (Any-nil (IsTrueAt s) h))
  true-some (q ∷ qs) = let rest = fold_any q qs in (
    λ h. ⊎_elim (Any-first (IsTrueAt s) q qs) (Any-later (IsTrueAt s) q qs) (rest.0 h),
    λ h. rest.1 (Any-cases (IsTrueAt s) q qs h),
  )

  pub true-every : (qs : List Assertion) → IsTrueAt s (every qs) ↔ All (IsTrueAt s) qs
  true-every = every-all (IsTrueAt s) tt (λ p q. (λ h. h, λ h. h))

  same_truth : (p : Pure) (q : Assertion) → assertion_of p ≡ q → TrueAt s p ↔ IsTrueAt s q
  same_truth p q e = (subst (IsTrueAt s) e, subst (IsTrueAt s) (sym e))

  pub true-And : (ps : List Pure) → TrueAt s (pure_of.And ps) ↔ All (TrueAt s) ps
  true-And ps =
      let read = same_truth (pure_of.And ps) (every (map assertion_of ps)) (fold-And pure_level ps) in
      let all = true-every (map assertion_of ps) in (
        λ h. All-map_back (IsTrueAt s) assertion_of ps (all.0 (read.0 h)),
        λ h. read.1 (all.1 (All-map (IsTrueAt s) assertion_of ps h)),
      )

  pub true-Or : (ps : List Pure) → TrueAt s (pure_of.Or ps) ↔ Any (TrueAt s) ps
  true-Or ps =
      let read = same_truth (pure_of.Or ps) (some (map assertion_of ps)) (fold-Or pure_level ps) in
      let any = true-some (map assertion_of ps) in
      let apart = Any-map (IsTrueAt s) assertion_of ps in (
        λ h. apart.0 (any.0 (read.0 h)),
        λ h. read.1 (any.1 (apart.1 h)),
      )

  pub true-Eq : (a b : Lin) → TrueAt s (pure_of.Eq a b) ↔ (value s a ≡ value s b)
  true-Eq a b = same_truth (pure_of.Eq a b) _ (fold-Eq pure_level a b)

  pub true-Lt : (a b : Lin) → TrueAt s (pure_of.Lt a b) ↔ (value s a <ℤ value s b)
  true-Lt a b = same_truth (pure_of.Lt a b) _ (fold-Lt pure_level a b)

  pub true-Le : (a b : Lin) → TrueAt s (pure_of.Le a b) ↔ (value s a ≤ℤ value s b)
  true-Le a b = same_truth (pure_of.Le a b) _ (fold-Le pure_level a b)

  pub true-Divides : (d : ℤ) (a : Lin) → TrueAt s (pure_of.Divides d a) ↔ ((pos 1 ≤ℤ d) × ((k : ℤ) × (value s a ≡ k *ℤ d)))
  true-Divides d a = same_truth (pure_of.Divides d a) _ (fold-Divides pure_level d a)

  pub true-BagEq : (a b : Bag) → TrueAt s (pure_of.BagEq a b) ↔ ((x : ℤ) → count s (bag_term_of a) x ≡ count s (bag_term_of b) x)
  true-BagEq a b = same_truth (pure_of.BagEq a b) _ (fold-BagEq pure_level a b)

  pub true-Subset : (a b : Bag) → TrueAt s (pure_of.Subset a b) ↔ ((x : ℤ) → count s (bag_term_of a) x ≤ count s (bag_term_of b) x)
  true-Subset a b = same_truth (pure_of.Subset a b) _ (fold-Subset pure_level a b)

  pub true-Member : (a : Lin) (b : Bag) → TrueAt s (pure_of.Member a b) ↔ (0 < count s (bag_term_of b) (value s a))
  true-Member a b = same_truth (pure_of.Member a b) _ (fold-Member pure_level a b)

  pub true-AllOf : (u : Var) (b : Bag) (p : Pure) → TrueAt s (pure_of.AllOf u b p) ↔ ((x : ℤ) → 0 < count s (bag_term_of b) x → TrueAt (with_value u (number_value x) s) p)
  true-AllOf u b p = same_truth (pure_of.AllOf u b p) _ (fold-AllOf pure_level u b p)

  pub true-Not : (p : Pure) → TrueAt s (pure_of.Not p) ↔ (¬ (TrueAt s p))
  true-Not p = same_truth (pure_of.Not p) _ (fold-Not pure_level p)

  pub true-Exists : (u : Var) (p : Pure) → TrueAt s (pure_of.Exists u p) ↔ ((x : ℤ) × TrueAt (with_value u (number_value x) s) p)
  true-Exists u p = same_truth (pure_of.Exists u p) _ (fold-Exists pure_level u p)

  pub true-Forall : (u : Var) (p : Pure) → TrueAt s (pure_of.Forall u p) ↔ ((x : ℤ) → TrueAt (with_value u (number_value x) s) p)
  true-Forall u p = same_truth (pure_of.Forall u p) _ (fold-Forall pure_level u p)
