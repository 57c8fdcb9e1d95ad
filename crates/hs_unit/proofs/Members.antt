-- The forms of sides with many members, and of sides with a form past 128 bits.
use Rattle.std.proofs.Common.{◌≡◌, Bool, true, false, cond, List, [], ◌∷◌, ◌++◌, map, Option, None, Some, refl, sym, ap, ◌∙◌, subst, inl, inr, ◌&&◌}
use Rattle.std.specs.List.{fold, Contains}
use Rattle.std.proofs.lemmas.List.{append_assoc}
use Rattle.hs_pure.specs.declared.lin.Lin.{Lin}
use Rattle.hs_pure.specs.declared.pure.Pure.{Pure}
use Rattle.hs_pure.specs.declared.pure.Pure.TheVariants as pure_of
use Rattle.hs_pure.specs.Assertion.{Assertion, truth, eq, lt, le, divides, bag_eq, subset, member, all_of, negation, both, either, exists, forall, every, some, pure_level, assertion_of}
use Rattle.hs_pure.proofs.Views.{fold-And, fold-Or}
use Rattle.hs_elimination.specs.Linear.{minus, IsWideLin}
use Rattle.hs_substitute.proofs.Parts.{and_member}
use Rattle.hs_unit.specs.declared.sides.Kind.{Kind}
use Rattle.hs_unit.specs.declared.sides.Kind.TheVariants.{Zero, Below, Most}
use Rattle.hs_unit.specs.Sides.{Comparison, forms, joined, left_forms, comparisons, all_comparisons, only_comparisons, is_zero, are_zero, HasWideForm}
use Rattle.hs_unit.specs.Reduction.{all_small, is_small}
use Rattle.hs_unit.proofs.Smalls.{wide_not_small}
use Rattle.hs_unit.proofs.Steps.{some_is}

pub joined_is : {X : Type 0} (o p : Option (List X)) (zs : List X) → joined o p ≡ Some zs → (xs : List X) × (ys : List X) × (o ≡ Some xs) × (p ≡ Some ys) × (xs ++ ys ≡ zs)
joined_is None p zs h = absurd cc
joined_is (Some xs) None zs h = absurd cc
joined_is (Some xs) (Some ys) zs h = (xs, ys, refl, refl, cc)

append-nil : {X : Type 0} (xs : List X) → xs ++ [] ≡ xs
append-nil [] = refl
append-nil (x ∷ xs) = ap (λ ys. x ∷ ys) (append-nil xs)

pub joined-none : {X : Type 0} (o : Option (List X)) → joined o None ≡ None
joined-none None = refl
joined-none (Some xs) = refl

joined-nil : {X : Type 0} (o : Option (List X)) → joined o (Some []) ≡ o
joined-nil None = refl
joined-nil (Some xs) = ap (λ (ys : List _). Some ys) (append-nil xs)

pub joined-assoc : {X : Type 0} (o p q : Option (List X)) → joined (joined o p) q ≡ joined o (joined p q)
joined-assoc None p q = refl
joined-assoc (Some xs) None q = refl
joined-assoc (Some xs) (Some ys) None = refl
joined-assoc (Some xs) (Some ys) (Some zs) = ap (λ (ws : List _). Some ws) (append_assoc xs ys zs)

fold-right : (p : Assertion) (ps : List Assertion) → comparisons (fold both p ps) ≡ joined (comparisons p) (all_comparisons ps)
fold-right p [] = sym (joined-nil (comparisons p))
fold-right p (q ∷ ps) = fold-right (both p q) ps ∙ joined-assoc (comparisons p) (comparisons q) (all_comparisons ps)

right-every : (ps : List Assertion) → comparisons (every ps) ≡ all_comparisons ps
right-every [] = refl
right-every (p ∷ ps) = fold-right p ps

fold-none : (p : Assertion) (ps : List Assertion) → comparisons p ≡ None → comparisons (fold either p ps) ≡ None
fold-none p [] h = h
fold-none p (q ∷ ps) h = fold-none (either p q) ps refl

right-some : (ps : List Assertion) → comparisons (some ps) ≡ only_comparisons ps
right-some [] = refl
right-some (p ∷ []) = refl
right-some (p ∷ q ∷ ps) = fold-none (either p q) ps refl

abbrev Result' : Type 0
Result' = Option (List Comparison)

module _ (p : Pure) (o r : Result') where
  pub right-And : (ps : List Pure) → p ≡ pure_of.And ps → joined o (all_comparisons (map assertion_of ps)) ≡ r → joined o (comparisons (assertion_of p)) ≡ r
  right-And ps is h = ap (joined o) (ap comparisons (ap assertion_of is ∙ fold-And pure_level ps) ∙ right-every (map assertion_of ps)) ∙ h

  pub right-Or : (ps : List Pure) → p ≡ pure_of.Or ps → joined o (only_comparisons (map assertion_of ps)) ≡ r → joined o (comparisons (assertion_of p)) ≡ r
  right-Or ps is h = ap (joined o) (ap comparisons (ap assertion_of is ∙ fold-Or pure_level ps) ∙ right-some (map assertion_of ps)) ∙ h

pub wide-And : (p : Pure) (ps : List Pure) → p ≡ pure_of.And ps → ((q : Pure) × (Contains ps q × HasWideForm (assertion_of q))) → HasWideForm (assertion_of p)
wide-And = and_member HasWideForm (λ p q. inl) (λ p q. inr)

pub wide-Or : (p : Pure) (ps : List Pure) → p ≡ pure_of.Or ps → ((q : Pure) × ((ps ≡ q ∷ []) × HasWideForm (assertion_of q))) → HasWideForm (assertion_of p)
wide-Or p ps is w = subst HasWideForm (sym (ap assertion_of (is ∙ ap pure_of.Or w.1.0) ∙ fold-Or pure_level (w.0 ∷ []))) w.1.1

-- ---- a wide form is not small

pub and_false : (a b : Bool) → b ≡ false → (a && b) ≡ false
and_false true b h = h
and_false false b h = refl

small-left : (xs ys : List Comparison) → all_small (forms xs) ≡ false → all_small (forms (xs ++ ys)) ≡ false
small-left [] ys h = absurd cc
small-left (x ∷ xs) ys h = by_first (small-left xs ys) (is_small x.1) h
  where
    by_first : (all_small (forms xs) ≡ false → all_small (forms (xs ++ ys)) ≡ false) → (b : Bool) → (b && all_small (forms xs)) ≡ false → (b && all_small (forms (xs ++ ys))) ≡ false
    by_first ih true k = ih k
    by_first ih false k = refl

small-right : (xs ys : List Comparison) → all_small (forms ys) ≡ false → all_small (forms (xs ++ ys)) ≡ false
small-right [] ys h = h
small-right (x ∷ xs) ys h = and_false (is_small x.1) (all_small (forms (xs ++ ys))) (small-right xs ys h)

one-wide : (k : Kind) (a b : Lin) (cs : List Comparison) → ◌≡◌ {A = Option (List Comparison)} (Some ((k, minus a b) ∷ [])) (Some cs) → IsWideLin (minus a b) → all_small (forms cs) ≡ false
one-wide k a b cs h w = subst (λ (ds : List Comparison). all_small (forms ds) ≡ false) (some_is _ _ h) (ap (λ (c : Bool). c && true) (wide_not_small (minus a b) w))

pub wide-small : (p : Assertion) (cs : List Comparison) → comparisons p ≡ Some cs → HasWideForm p → all_small (forms cs) ≡ false
wide-small truth cs h w = absurd w
wide-small (eq a b) cs h w = one-wide Zero a b cs h w
wide-small (lt a b) cs h w = one-wide Below a b cs h w
wide-small (le a b) cs h w = one-wide Most a b cs h w
wide-small (both p q) cs h (inl w) =
    let j = joined_is (comparisons p) (comparisons q) cs h in
    subst (λ (ds : List Comparison). all_small (forms ds) ≡ false) j.4 (small-left j.0 j.1 (wide-small p j.0 j.2 w))
wide-small (both p q) cs h (inr w) =
    let j = joined_is (comparisons p) (comparisons q) cs h in
    subst (λ (ds : List Comparison). all_small (forms ds) ≡ false) j.4 (small-right j.0 j.1 (wide-small q j.1 j.3 w))
wide-small (divides d a) cs h w = absurd w
wide-small (bag_eq a b) cs h w = absurd w
wide-small (subset a b) cs h w = absurd w
wide-small (member a b) cs h w = absurd w
wide-small (all_of u b p) cs h w = absurd w
wide-small (negation p) cs h w = absurd w
wide-small (either p q) cs h w = absurd w
wide-small (exists u p) cs h w = absurd w
wide-small (forall u p) cs h w = absurd w

-- ---- the left forms are those of equations

abbrev pub equations : Option (List Comparison) → Option (List Lin)
equations None = None
equations (Some cs) = cond (are_zero cs) (Some (forms cs)) None

zero-append : (xs ys : List Comparison) → are_zero (xs ++ ys) ≡ (are_zero xs && are_zero ys)
zero-append [] ys = refl
zero-append (x ∷ xs) ys = by_first (is_zero x.0) (zero-append xs ys)
  where
    by_first : (b : Bool) → are_zero (xs ++ ys) ≡ (are_zero xs && are_zero ys) → (b && are_zero (xs ++ ys)) ≡ ((b && are_zero xs) && are_zero ys)
    by_first true h = h
    by_first false h = refl

forms-append : (xs ys : List Comparison) → forms (xs ++ ys) ≡ forms xs ++ forms ys
forms-append [] ys = refl
forms-append (x ∷ xs) ys = ap (λ (fs : List Lin). x.1 ∷ fs) (forms-append xs ys)

equations-joined : (o p : Option (List Comparison)) → equations (joined o p) ≡ joined (equations o) (equations p)
equations-joined None p = refl
equations-joined (Some xs) None = sym (joined-none (equations (Some xs)))
equations-joined (Some xs) (Some ys) = by_tests (are_zero xs) (are_zero ys) (zero-append xs ys)
  where
    by_tests : (a b : Bool) → are_zero (xs ++ ys) ≡ (a && b) → cond (are_zero (xs ++ ys)) (Some (forms (xs ++ ys))) None ≡ joined (cond a (Some (forms xs)) None) (cond b (Some (forms ys)) None)
    by_tests true true e = (λ i. cond {A = Option (List Lin)} (e i) (Some (forms (xs ++ ys))) None) ∙ ap (λ (fs : List Lin). Some fs) (forms-append xs ys)
    by_tests true false e = (λ i. cond {A = Option (List Lin)} (e i) (Some (forms (xs ++ ys))) None)
    by_tests false b e = (λ i. cond {A = Option (List Lin)} (e i) (Some (forms (xs ++ ys))) None)

pub left-equations : (p : Assertion) → left_forms p ≡ equations (comparisons p)
left-equations truth = refl
left-equations (eq a b) = refl
left-equations (lt a b) = refl
left-equations (le a b) = refl
left-equations (divides d a) = refl
left-equations (bag_eq a b) = refl
left-equations (subset a b) = refl
left-equations (member a b) = refl
left-equations (all_of u b p) = refl
left-equations (negation p) = refl
left-equations (both p q) = (λ i. joined (left-equations p i) (left-equations q i)) ∙ sym (equations-joined (comparisons p) (comparisons q))
left-equations (either p q) = refl
left-equations (exists u p) = refl
left-equations (forall u p) = refl
