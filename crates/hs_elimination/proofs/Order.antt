-- Sums in order rise by place, and back; the sums of a formula and of its assertion.
use Rattle.std.proofs.Common.{◌≡◌, ℕ, suc, ◌+◌, ◌*◌, ◌≤◌, Bool, true, false, ◌&&◌, ◌||◌, IsTrue, cond, ◌⊎◌, inl, inr, ◌↔◌, List, [], ◌∷◌, ◌++◌, map, append_assoc, refl, sym, ap, ◌∙◌, subst, arith, ℤ, pos}
use Rattle.std.specs.List.{All, fold, flat_map, list_any}
use Rattle.std.proofs.lemmas.List.Elements.{All-head, All-nil, All-cons}
use Rattle.hs_pure.specs.declared.var.Var.{Var}
use Rattle.hs_pure.specs.declared.lin.Lin.{Lin}
use Rattle.hs_pure.specs.declared.bag.Bag.{Bag, map-Bag}
use Rattle.hs_pure.specs.declared.bag.Bag.TheOpen.{Bag-F}
use Rattle.hs_pure.specs.declared.pure.Pure.{Pure, map-Pure}
use Rattle.hs_pure.specs.declared.pure.Pure.TheOpen.{Pure-F}
use Rattle.hs_pure.specs.Stack.{same}
use Rattle.hs_pure.specs.Assertion.{BagTerm, Assertion, truth, eq, lt, le, divides, bag_eq, subset, member, all_of, negation, both, either, exists, forall, every, some, bag_level, bag_term_of, pure_level, assertion_of}
use Rattle.hs_pure.specs.Occurs.{BagUse, bag_use_level, has_bags, in_lin}
use Rattle.hs_pure.specs.Mirror.{is_free_in}
use Rattle.hs_pure.specs.Rename.{bag_sums, bag_sums_level, sums, sums_level}
use Rattle.hs_pure.specs.Sums.{LinIsOrdered, IsOrdered}
use Rattle.hs_pure.specs.Sums as Sums
use Rattle.hs_pure.proofs.Levels.{of_term, of_assertion, related, Both}
use Rattle.hs_pure.proofs.Mirrored.{fold-joined}
use Rattle.hs_pure.proofs.Lists.{All-later}
use Rattle.hs_pure.proofs.Vars.{same-eq, same-refl, or_left, or_right}
use Rattle.hs_elimination.specs.Linear.{place, number}
use Rattle.hs_elimination.specs.Form.{Form, const, positive, multiple, no_multiple, conjunction, disjunction, assertion}
use Rattle.hs_elimination.specs.Normal.{is_simple}
use Rattle.hs_elimination.specs.Ordered.{term_sums, assertion_sums, AssertionIsOrdered, has_bag_literal}
use Rattle.hs_elimination.specs.Elimination.{eliminated, without_variable}
use Rattle.hs_elimination.proofs.Meaning.{RisesFrom, AreRising, HasRising, AllLins}
use Rattle.hs_elimination.proofs.Variables.{Each, EachIn, EachOf, EachOfAssertion, IsOther, lacks-eliminated, each-eliminated}
use Rattle.hs_elimination.proofs.RisingResult.{rising-eliminated}

abbrev IsNumber : Var → Type 0
IsNumber v = v.bag ≡ false

place-number : (v : Var) → IsNumber v → place v ≡ 2 * v.number
place-number v e = ap (λ k. 2 * v.number + cond k 1 0) e ∙ plus_none (2 * v.number)
  where
    plus_none : (n : ℕ) → n + 0 ≡ n
    plus_none n = omega arith

rises : (n m : ℕ) (ts : List (Var × ℤ)) → m ≤ 2 * n → Sums.RisesFrom n ts → RisesFrom m ts
rises n m [] h r = tt
rises n m (t ∷ ts) h r = let e = place-number t.0 r.1 in let k = r.0 in (omega arith, r.2, rises (suc t.0.number) (suc (place t.0)) ts (omega arith) r.3)

numbers-of : (n : ℕ) (ts : List (Var × ℤ)) → Sums.RisesFrom n ts → Each IsNumber ts
numbers-of n [] r = tt
numbers-of n (t ∷ ts) r = (r.1, numbers-of (suc t.0.number) ts r.3)

in_order : (n m : ℕ) (ts : List (Var × ℤ)) → 2 * n ≤ m + 1 → RisesFrom m ts → Each IsNumber ts → Sums.RisesFrom n ts
in_order n m [] h r k = tt
in_order n m (t ∷ ts) h r k = let e = place-number t.0 k.0 in let l = r.0 in (omega arith, k.0, r.1, in_order (suc t.0.number) (suc (place t.0)) ts (omega arith) r.2 k.1)

-- ---- lists

pub All-before : {X : Type 0} (P : X → Type 0) (xs ys : List X) → All P (xs ++ ys) → All P xs
All-before P [] ys h = All-nil P
All-before P (x ∷ xs) ys h = All-cons P x xs (All-head P x (xs ++ ys) h) (All-before P xs ys (All-later P x (xs ++ ys) h))

pub All-after : {X : Type 0} (P : X → Type 0) (xs ys : List X) → All P (xs ++ ys) → All P ys
All-after P [] ys h = h
All-after P (x ∷ xs) ys h = All-after P xs ys (All-later P x (xs ++ ys) h)

pub All-both : {X : Type 0} (P : X → Type 0) (xs ys : List X) → All P xs → All P ys → All P (xs ++ ys)
All-both P [] ys h k = k
All-both P (x ∷ xs) ys h k = All-cons P x (xs ++ ys) (All-head P x xs h) (All-both P xs ys (All-later P x xs h) k)

-- what holds of the sums of an assertion

module _ (P : Lin → Type 0) where
  abbrev Pair : Lin → Lin → List Lin
  Pair a b = a ∷ b ∷ []

  first : (a : Lin) (as' : List Lin) → All P (a ∷ as') → P a
  first a as' h = All-head P a as' h

  second : (a b : Lin) → All P (a ∷ b ∷ []) → P b
  second a b h = All-head P b [] (All-later P a (b ∷ []) h)

  pub sums-assertion : P (number (pos 0)) → (f : Form) → AllLins P f → All P (assertion_sums (assertion f))
  sums-assertion zero_is (const true) h = All-nil P
  sums-assertion zero_is (const false) h = All-nil P
  sums-assertion zero_is (positive t) h = All-cons P (number (pos 0)) (t ∷ []) zero_is (All-cons P t [] h (All-nil P))
  sums-assertion zero_is (multiple d t) h = All-cons P t [] h (All-nil P)
  sums-assertion zero_is (no_multiple d t) h = All-cons P t [] h (All-nil P)
  sums-assertion zero_is (conjunction f g) h = All-both P _ _ (sums-assertion zero_is f h.0) (sums-assertion zero_is g h.1)
  sums-assertion zero_is (disjunction f g) h = All-both P _ _ (sums-assertion zero_is f h.0) (sums-assertion zero_is g h.1)

rises_lin : (a : Lin) → LinIsOrdered a → RisesFrom 0 a.terms
rises_lin a r = rises 0 0 a.terms (omega arith) r

numbers_lin : (a : Lin) → LinIsOrdered a → EachIn IsNumber a
numbers_lin a r = numbers-of 0 a.terms r

module _ (Q : Lin → Type 0) (from : (a : Lin) → LinIsOrdered a → Q a) where
  two : (a b : Lin) → All LinIsOrdered (a ∷ b ∷ []) → Q a × Q b
  two a b h = (from a (All-head LinIsOrdered a (b ∷ []) h), from b (second LinIsOrdered a b h))

pub rising-ordered : (p : Assertion) → AssertionIsOrdered p → HasRising p
rising-ordered truth h = tt
rising-ordered (eq a b) h = two (λ a. RisesFrom 0 a.terms) rises_lin a b h
rising-ordered (lt a b) h = two (λ a. RisesFrom 0 a.terms) rises_lin a b h
rising-ordered (le a b) h = two (λ a. RisesFrom 0 a.terms) rises_lin a b h
rising-ordered (divides d a) h = rises_lin a (first LinIsOrdered a [] h)
rising-ordered (bag_eq a b) h = tt
rising-ordered (subset a b) h = tt
rising-ordered (member a b) h = tt
rising-ordered (all_of u b p) h = tt
rising-ordered (negation p) h = rising-ordered p h
rising-ordered (both p q) h = (rising-ordered p (All-before LinIsOrdered (assertion_sums p) (assertion_sums q) h), rising-ordered q (All-after LinIsOrdered (assertion_sums p) (assertion_sums q) h))
rising-ordered (either p q) h = (rising-ordered p (All-before LinIsOrdered (assertion_sums p) (assertion_sums q) h), rising-ordered q (All-after LinIsOrdered (assertion_sums p) (assertion_sums q) h))
rising-ordered (exists u p) h = rising-ordered p h
rising-ordered (forall u p) h = rising-ordered p h

numbers-ordered : (p : Assertion) → AssertionIsOrdered p → EachOfAssertion IsNumber p
numbers-ordered truth h = tt
numbers-ordered (eq a b) h = two (EachIn IsNumber) numbers_lin a b h
numbers-ordered (lt a b) h = two (EachIn IsNumber) numbers_lin a b h
numbers-ordered (le a b) h = two (EachIn IsNumber) numbers_lin a b h
numbers-ordered (divides d a) h = numbers_lin a (first LinIsOrdered a [] h)
numbers-ordered (bag_eq a b) h = tt
numbers-ordered (subset a b) h = tt
numbers-ordered (member a b) h = tt
numbers-ordered (all_of u b p) h = tt
numbers-ordered (negation p) h = numbers-ordered p h
numbers-ordered (both p q) h = (numbers-ordered p (All-before LinIsOrdered (assertion_sums p) (assertion_sums q) h), numbers-ordered q (All-after LinIsOrdered (assertion_sums p) (assertion_sums q) h))
numbers-ordered (either p q) h = (numbers-ordered p (All-before LinIsOrdered (assertion_sums p) (assertion_sums q) h), numbers-ordered q (All-after LinIsOrdered (assertion_sums p) (assertion_sums q) h))
numbers-ordered (exists u p) h = numbers-ordered p h
numbers-ordered (forall u p) h = numbers-ordered p h

ordered-form : (f : Form) → AreRising f → EachOf IsNumber f → AllLins LinIsOrdered f
ordered-form (const b) r k = tt
ordered-form (positive t) r k = in_order 0 0 t.terms (omega arith) r k
ordered-form (multiple d t) r k = in_order 0 0 t.terms (omega arith) r k
ordered-form (no_multiple d t) r k = in_order 0 0 t.terms (omega arith) r k
ordered-form (conjunction f g) r k = (ordered-form f r.0 k.0, ordered-form g r.1 k.1)
ordered-form (disjunction f g) r k = (ordered-form f r.0 k.0, ordered-form g r.1 k.1)

pub ordered-without_variable : (x : Var) (p : Assertion) → AssertionIsOrdered p → AssertionIsOrdered (without_variable x p)
ordered-without_variable x p h =
    sums-assertion LinIsOrdered tt (eliminated x p)
    (ordered-form (eliminated x p) (rising-eliminated x p (rising-ordered p h)) (each-eliminated IsNumber x p (numbers-ordered p h)))

pub simple-assertion : (f : Form) → IsTrue (is_simple (assertion f))
simple-assertion (const true) = refl
simple-assertion (const false) = refl
simple-assertion (positive t) = refl
simple-assertion (multiple d t) = refl
simple-assertion (no_multiple d t) = refl
simple-assertion (conjunction f g) = λ i. simple-assertion f i && simple-assertion g i
simple-assertion (disjunction f g) = λ i. simple-assertion f i && simple-assertion g i

-- ---- variables

nobody : (v : Var) (ts : List (Var × ℤ)) → Each (IsOther (place v)) ts → list_any (λ t. same t.0 v) ts ≡ false
nobody v [] h = refl
nobody v (t ∷ ts) h = by_test (nobody v ts h.1) (same t.0 v) refl
  where
    by_test : list_any (λ t. same t.0 v) ts ≡ false → (b : Bool) → same t.0 v ≡ b → (same t.0 v || list_any (λ t. same t.0 v) ts) ≡ false
    by_test ih true e = absurd (h.0 (ap place (same-eq t.0 v e)))
    by_test ih false e = rw e ih

neither_of : (a b : Bool) → a ≡ false → b ≡ false → (a || b) ≡ false
neither_of a b e f = rw (e, f) refl

lacks-form : (v : Var) (f : Form) → EachOf (IsOther (place v)) f → is_free_in v (assertion f) ≡ false
lacks-form v (const true) h = refl
lacks-form v (const false) h = refl
lacks-form v (positive t) h = nobody v t.terms h
lacks-form v (multiple d t) h = nobody v t.terms h
lacks-form v (no_multiple d t) h = nobody v t.terms h
lacks-form v (conjunction f g) h = neither_of _ _ (lacks-form v f h.0) (lacks-form v g h.1)
lacks-form v (disjunction f g) h = neither_of _ _ (lacks-form v f h.0) (lacks-form v g h.1)

pub lacks-without_variable : (x : Var) (p : Assertion) → is_free_in x (without_variable x p) ≡ false
lacks-without_variable x p = lacks-form x (eliminated x p) (lacks-eliminated x p)

one_of_two : (a b : Bool) → (a || b) ≡ true → (a ≡ true) ⊎ (b ≡ true)
one_of_two true b h = inl refl
one_of_two false b h = inr h

module _ (P : Var → Type 0) where
  found : (v : Var) (ts : List (Var × ℤ)) → Each P ts → list_any (λ t. same t.0 v) ts ≡ true → P v
  found v [] h k = absurd cc
  found v (t ∷ ts) h k = elim (one_of_two (same t.0 v) (list_any (λ t. same t.0 v) ts) k) [ inl e ↦ subst P (same-eq t.0 v e) h.0 | inr e ↦ found v ts h.1 e ]

  found-form : (v : Var) (f : Form) → EachOf P f → is_free_in v (assertion f) ≡ true → P v
  found-form v (const true) h k = absurd cc
  found-form v (const false) h k = absurd cc
  found-form v (positive t) h k = found v t.terms h k
  found-form v (multiple d t) h k = found v t.terms h k
  found-form v (no_multiple d t) h k = found v t.terms h k
  found-form v (conjunction f g) h k = elim (one_of_two (is_free_in v (assertion f)) (is_free_in v (assertion g)) k) [ inl e ↦ found-form v f h.0 e | inr e ↦ found-form v g h.1 e ]
  found-form v (disjunction f g) h k = elim (one_of_two (is_free_in v (assertion f)) (is_free_in v (assertion g)) k) [ inl e ↦ found-form v f h.0 e | inr e ↦ found-form v g h.1 e ]

module _ (Q : Var → Type 0) where
  own : (ts : List (Var × ℤ)) → ((v : Var) → list_any (λ t. same t.0 v) ts ≡ true → Q v) → Each Q ts
  own [] h = tt
  own (t ∷ ts) h = (h t.0 (or_left (same t.0 t.0) (list_any (λ u. same u.0 t.0) ts) (same-refl t.0)), own ts (λ v e. h v (or_right (same t.0 v) (list_any (λ u. same u.0 v) ts) e)))

  abbrev Free : Assertion → Type 0
  Free p = (v : Var) → is_free_in v p ≡ true → Q v

  own_pair : (a b : Lin) → ((v : Var) → (in_lin v a || in_lin v b) ≡ true → Q v) → EachIn Q a × EachIn Q b
  own_pair a b h = (own a.terms (λ v e. h v (or_left (in_lin v a) (in_lin v b) e)), own b.terms (λ v e. h v (or_right (in_lin v a) (in_lin v b) e)))

  and_first : (a b : Bool) → (a && b) ≡ true → a ≡ true
  and_first true b h = refl
  and_first false b h = absurd cc

  and_second : (a b : Bool) → (a && b) ≡ true → b ≡ true
  and_second true b h = h
  and_second false b h = absurd cc

  own-assertion : (p : Assertion) → is_simple p ≡ true → Free p → EachOfAssertion Q p
  own-assertion truth s h = tt
  own-assertion (eq a b) s h = own_pair a b h
  own-assertion (lt a b) s h = own_pair a b h
  own-assertion (le a b) s h = own_pair a b h
  own-assertion (divides d a) s h = own a.terms h
  own-assertion (bag_eq a b) s h = tt
  own-assertion (subset a b) s h = tt
  own-assertion (member a b) s h = tt
  own-assertion (all_of u b p) s h = tt
  own-assertion (negation p) s h = own-assertion p s h
  own-assertion (both p q) s h = (own-assertion p (and_first _ _ s) (λ v e. h v (or_left (is_free_in v p) (is_free_in v q) e)), own-assertion q (and_second _ _ s) (λ v e. h v (or_right (is_free_in v p) (is_free_in v q) e)))
  own-assertion (either p q) s h = (own-assertion p (and_first _ _ s) (λ v e. h v (or_left (is_free_in v p) (is_free_in v q) e)), own-assertion q (and_second _ _ s) (λ v e. h v (or_right (is_free_in v p) (is_free_in v q) e)))
  own-assertion (exists u p) s h = absurd cc
  own-assertion (forall u p) s h = absurd cc

pub adds_none : (x : Var) (p : Assertion) (v : Var) → IsTrue (is_simple p) → IsTrue (is_free_in v (without_variable x p)) → IsTrue (is_free_in v p)
adds_none x p v s h = found-form (λ u. is_free_in u p ≡ true) v (eliminated x p) (each-eliminated (λ u. is_free_in u p ≡ true) x p (own-assertion (λ u. is_free_in u p ≡ true) p s (λ u e. e))) h

-- ---- formulas and their assertions

flat-fold : (a : List Lin) (ls : List (List Lin)) → fold (λ a b. a ++ b) a ls ≡ a ++ flat_map (λ l. l) ls
flat-fold a [] = nothing_more a
  where
    nothing_more : (l : List Lin) → l ≡ l ++ []
    nothing_more [] = refl
    nothing_more (x ∷ xs) = ap (λ ys. x ∷ ys) (nothing_more xs)
flat-fold a (l ∷ ls) = flat-fold (a ++ l) ls ∙ append_assoc a l (flat_map (λ l. l) ls)

sums-every : (ps : List Assertion) → flat_map (λ l. l) (map assertion_sums ps) ≡ assertion_sums (every ps)
sums-every [] = refl
sums-every (p ∷ ps) = sym (fold-joined both (λ a b. a ++ b) assertion_sums (λ p q. refl) p ps ∙ flat-fold (assertion_sums p) (map assertion_sums ps))

sums-some : (ps : List Assertion) → flat_map (λ l. l) (map assertion_sums ps) ≡ assertion_sums (some ps)
sums-some [] = refl
sums-some (p ∷ ps) = sym (fold-joined either (λ a b. a ++ b) assertion_sums (λ p q. refl) p ps ∙ flat-fold (assertion_sums p) (map assertion_sums ps))

bag_sums-is : (b : Bag) → bag_sums b ≡ term_sums (bag_term_of b)
bag_sums-is = of_term bag_sums_level term_sums step
  where
    step : (z : Bag-F BagTerm) → bag_sums_level (map-Bag BagTerm (List Lin) term_sums z) ≡ term_sums (bag_level z)
    step Bag-F.Empty = refl
    step (Bag-F.Name u) = refl
    step (Bag-F.One a) = refl
    step (Bag-F.Union a b) = refl
    step (Bag-F.Inter a b) = refl
    step (Bag-F.Diff a b) = refl

sums-is : (p : Pure) → sums p ≡ assertion_sums (assertion_of p)
sums-is = of_assertion sums_level assertion_sums step
  where
    step : (z : Pure-F Assertion) → sums_level (map-Pure Assertion (List Lin) assertion_sums z) ≡ assertion_sums (pure_level z)
    step (Pure-F.Eq a b) = refl
    step (Pure-F.Lt a b) = refl
    step (Pure-F.Le a b) = refl
    step (Pure-F.Divides d a) = refl
    step (Pure-F.BagEq a b) = λ i. bag_sums-is a i ++ bag_sums-is b i
    step (Pure-F.Subset a b) = λ i. bag_sums-is a i ++ bag_sums-is b i
    step (Pure-F.Member a b) = λ i. a ∷ bag_sums-is b i
    step (Pure-F.AllOf u b p) = λ i. bag_sums-is b i ++ assertion_sums p
    step (Pure-F.Not p) = refl
    step (Pure-F.And ps) = sums-every ps
    step (Pure-F.Or ps) = sums-some ps
    step (Pure-F.Exists u p) = refl
    step (Pure-F.Forall u p) = refl

pub order_is : (p : Pure) → IsOrdered p ↔ AssertionIsOrdered (assertion_of p)
order_is p = (subst (All LinIsOrdered) (sums-is p), subst (All LinIsOrdered) (sym (sums-is p)))

or_assoc : (a b c : Bool) → ((a || b) || c) ≡ (a || (b || c))
or_assoc true b c = refl
or_assoc false b c = refl

none_after : (a : Bool) → a ≡ (a || false)
none_after true = refl
none_after false = refl

abbrev Uses : BagUse → Assertion → Type 0
Uses u q = u.has ≡ has_bag_literal q

abbrev UsePair : Type 0
UsePair = Both Uses bag_use_level pure_level

uses-fold : (op : Assertion → Assertion → Assertion) → ((p q : Assertion) → has_bag_literal (op p q) ≡ (has_bag_literal p || has_bag_literal q)) → (p : Assertion) (zs : List UsePair) → (has_bag_literal p || list_any (λ u. u.has) (map (λ (e : UsePair). e.0) zs)) ≡ has_bag_literal (fold op p (map (λ (e : UsePair). e.1.0) zs))
uses-fold op join p [] = sym (none_after (has_bag_literal p))
uses-fold op join p (z ∷ zs) =
    (λ i. has_bag_literal p || (z.1.1 i || list_any (λ u. u.has) (map (λ (e : UsePair). e.0) zs)))
    ∙ sym (or_assoc (has_bag_literal p) (has_bag_literal z.1.0) (list_any (λ u. u.has) (map (λ (e : UsePair). e.0) zs)))
    ∙ ap (λ b. b || list_any (λ u. u.has) (map (λ (e : UsePair). e.0) zs)) (sym (join p z.1.0))
    ∙ uses-fold op join (op p z.1.0) zs

uses-level : (z : Pure-F UsePair) → Uses (bag_use_level (map-Pure UsePair BagUse (λ e. e.0) z)) (pure_level (map-Pure UsePair Assertion (λ e. e.1.0) z))
uses-level (Pure-F.Eq a b) = refl
uses-level (Pure-F.Lt a b) = refl
uses-level (Pure-F.Le a b) = refl
uses-level (Pure-F.Divides d a) = refl
uses-level (Pure-F.BagEq a b) = refl
uses-level (Pure-F.Subset a b) = refl
uses-level (Pure-F.Member a b) = refl
uses-level (Pure-F.AllOf u b p) = refl
uses-level (Pure-F.Not p) = p.1.1
uses-level (Pure-F.And []) = refl
uses-level (Pure-F.And (p ∷ ps)) = ap (λ b. b || list_any (λ u. u.has) (map (λ (e : UsePair). e.0) ps)) p.1.1 ∙ uses-fold both (λ p q. refl) p.1.0 ps
uses-level (Pure-F.Or []) = refl
uses-level (Pure-F.Or (p ∷ ps)) = ap (λ b. b || list_any (λ u. u.has) (map (λ (e : UsePair). e.0) ps)) p.1.1 ∙ uses-fold either (λ p q. refl) p.1.0 ps
uses-level (Pure-F.Exists u p) = p.1.1
uses-level (Pure-F.Forall u p) = p.1.1

pub bags_are : (p : Pure) → has_bags p ≡ has_bag_literal (assertion_of p)
bags_are = related Uses bag_use_level pure_level uses-level
