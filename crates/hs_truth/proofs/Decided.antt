-- At a stack truth is decided, also with bags: their elements tell of each bag literal.
use Rattle.std.proofs.Common.{◌≡◌, ℕ, ◌<◌, ◌≤◌, ◌⊎◌, inl, inr, ℤ, Bool, true, false, not, ◌||◌, List, [], ◌∷◌, ◌++◌, map, refl, sym, ap, ◌∙◌, subst, arith}
use Rattle.std.specs.Ordering.{int_eq}
use Rattle.std.specs.List.{list_any, fold}
use Rattle.std.proofs.lemmas.Bool.{cases_Bool, or_parts, cases_lt, cases_eq}
use Rattle.std.proofs.lemmas.Bool.Decides.{Decides-int_eq}
use Rattle.hs_pure.specs.declared.pure.Pure.{map-Pure}
use Rattle.hs_pure.specs.declared.pure.Pure.TheOpen.{Pure-F}
use Rattle.hs_pure.specs.Stack.{Stack, with_value, number_value}
use Rattle.hs_pure.specs.Assertion.{BagTerm, Assertion, truth, eq, lt, le, divides, bag_eq, subset, member, all_of, negation, both, either, exists, forall, pure_level, assertion_of}
use Rattle.hs_pure.specs.Truth.{value, count, IsTrueAt}
use Rattle.hs_pure.specs.Occurs.{BagUse, bag_use, bag_use_level}
use Rattle.hs_pure.specs.Sums.{LinIsOrdered}
use Rattle.hs_pure.proofs.Levels.{related, Both}
use Rattle.hs_elimination.specs.Ordered.{term_sums, assertion_sums, AssertionIsOrdered, has_bag_literal}
use Rattle.hs_elimination.specs.Decided.{without_quantifiers, evaluates_to}
use Rattle.hs_elimination.proofs.Order.{order_is, All-before, All-after}
use Rattle.hs_elimination.proofs.Decided.{tested, simple-without, same-without}
use Rattle.hs_truth.specs.Laws.{PlainTruthIsDecided}
use Rattle.hs_truth.proofs.Elements.{elements, is_among, apart, none_else}

abbrev IsDecided : Type 0 → Type 0
IsDecided P = P ⊎ (¬ P)

-- ---- a search among elements

search_in : (P : ℤ → Type 0) (xs : List ℤ) → ((x : ℤ) → IsDecided (P x)) → ((x : ℤ) → is_among x xs ≡ true → P x) ⊎ ((x : ℤ) × (¬ (P x)))
search_in P [] test = inl (λ x e. absurd cc)
search_in P (y ∷ ys) test = elim (test y) [
  | inr fails ↦ inr (y, fails)
  | inl holds ↦ elim (search_in P ys test) [
    | inr found ↦ inr found
    | inl rest ↦ inl (λ x e. elim (cases_Bool (int_eq x y)) [
      | inl is ↦ subst P (sym ((Decides-int_eq x y).0 is)) holds
      | inr isnt ↦ rest x (let f : (int_eq x y || is_among x ys) ≡ is_among x ys = rw isnt refl in sym f ∙ e)
    ])
  ]
]

-- where P holds of all but some integers, and is decided of each, it is decided of all
all_decided : (P : ℤ → Type 0) (xs : List ℤ) → ((x : ℤ) → IsDecided (P x)) → ((x : ℤ) → is_among x xs ≡ false → P x) → IsDecided ((x : ℤ) → P x)
all_decided P xs test outside = elim (search_in P xs test) [
  | inr found ↦ inr (λ all. found.1 (all found.0))
  | inl inside ↦ inl (λ x. elim (cases_Bool (is_among x xs)) [ inl is ↦ inside x is | inr isnt ↦ outside x isnt ])
]

not_decided : {A : Type 0} → IsDecided A → IsDecided (¬ A)
not_decided (inl a) = inr (λ f. f a)
not_decided (inr f) = inl f

both_decided : {A B : Type 0} → IsDecided A → IsDecided B → IsDecided (A × B)
both_decided (inl a) (inl b) = inl (a, b)
both_decided (inl a) (inr g) = inr (λ p. g p.1)
both_decided (inr f) d = inr (λ p. f p.0)

either_decided : {A B : Type 0} → IsDecided A → IsDecided B → IsDecided (A ⊎ B)
either_decided (inl a) d = inl (inl a)
either_decided (inr f) (inl b) = inl (inr b)
either_decided (inr f) (inr g) = inr (λ h. elim h [ inl a ↦ f a | inr b ↦ g b ])

implies_decided : {A B : Type 0} → IsDecided A → IsDecided B → IsDecided (A → B)
implies_decided d (inl b) = inl (λ a. b)
implies_decided (inl a) (inr g) = inr (λ h. g (h a))
implies_decided (inr f) (inr g) = inl (λ a. absurd (f a))

lt_decided : (m n : ℕ) → IsDecided (m < n)
lt_decided m n = elim (cases_lt m n) [ inl k ↦ inl k | inr k ↦ inr (λ l. absurd (omega arith)) ]

le_decided : (m n : ℕ) → IsDecided (m ≤ n)
le_decided m n = elim (cases_lt n m) [ inl k ↦ inr (λ l. absurd (omega arith)) | inr k ↦ inl k ]

eq_decided : (s : Stack) (a b : BagTerm) → IsDecided ((x : ℤ) → count s a x ≡ count s b x)
eq_decided s a b = all_decided (λ x. count s a x ≡ count s b x) (elements s a ++ elements s b) (λ x. cases_eq (count s a x) (count s b x)) (λ x e.
    let k = apart x (elements s a) (elements s b) e in none_else s a x k.0 ∙ sym (none_else s b x k.1))

within_decided : (s : Stack) (a b : BagTerm) → IsDecided ((x : ℤ) → count s a x ≤ count s b x)
within_decided s a b = all_decided (λ x. count s a x ≤ count s b x) (elements s a) (λ x. le_decided (count s a x) (count s b x)) (λ x e.
    let k = none_else s a x e in omega arith)

-- ---- assertions

-- whether a bag literal stands under a quantifier or an `all_of`
abbrev has_under : Assertion → Bool
has_under truth = false
has_under (eq a b) = false
has_under (lt a b) = false
has_under (le a b) = false
has_under (divides d a) = false
has_under (bag_eq a b) = false
has_under (subset a b) = false
has_under (member a b) = false
has_under (all_of u b p) = has_bag_literal p
has_under (negation p) = has_under p
has_under (both p q) = has_under p || has_under q
has_under (either p q) = has_under p || has_under q
has_under (exists u p) = has_bag_literal p
has_under (forall u p) = has_bag_literal p

by_test : {P : Type 0} (b : Bool) → ((b ≡ true) → P) → (P → b ≡ true) → IsDecided P
by_test true f g = inl (f refl)
by_test false f g = inr (λ p. let k : false ≡ true = g p in cc)

-- without bag literals
numbers_decided : (s : Stack) (p : Assertion) → has_bag_literal p ≡ false → AssertionIsOrdered p → IsDecided (IsTrueAt s p)
numbers_decided s p none order =
    let t = tested s (without_quantifiers p) (simple-without p none) in
    let e = same-without p none order s in
    by_test (evaluates_to s (without_quantifiers p)) (λ k. e.0 (t.1 k)) (λ h. t.0 (e.1 h))

assertion_decided : (s : Stack) (p : Assertion) → has_under p ≡ false → AssertionIsOrdered p → IsDecided (IsTrueAt s p)
assertion_decided s truth plain order = inl tt
assertion_decided s (eq a b) plain order = numbers_decided s (eq a b) refl order
assertion_decided s (lt a b) plain order = numbers_decided s (lt a b) refl order
assertion_decided s (le a b) plain order = numbers_decided s (le a b) refl order
assertion_decided s (divides d a) plain order = numbers_decided s (divides d a) refl order
assertion_decided s (bag_eq a b) plain order = eq_decided s a b
assertion_decided s (subset a b) plain order = within_decided s a b
assertion_decided s (member a b) plain order = lt_decided 0 (count s b (value s a))
assertion_decided s (all_of u b p) plain order =
    all_decided (λ x. 0 < count s b x → IsTrueAt (with_value u (number_value x) s) p) (elements s b)
    (λ x. implies_decided (lt_decided 0 (count s b x)) (numbers_decided (with_value u (number_value x) s) p plain (All-after LinIsOrdered (term_sums b) (assertion_sums p) order)))
    (λ x e h. let k = none_else s b x e in absurd (omega arith))
assertion_decided s (negation p) plain order = not_decided (assertion_decided s p plain order)
assertion_decided s (both p q) plain order = let k = or_parts (has_under p) (has_under q) plain in
    both_decided (assertion_decided s p k.0 (All-before LinIsOrdered (assertion_sums p) (assertion_sums q) order)) (assertion_decided s q k.1 (All-after LinIsOrdered (assertion_sums p) (assertion_sums q) order))
assertion_decided s (either p q) plain order = let k = or_parts (has_under p) (has_under q) plain in
    either_decided (assertion_decided s p k.0 (All-before LinIsOrdered (assertion_sums p) (assertion_sums q) order)) (assertion_decided s q k.1 (All-after LinIsOrdered (assertion_sums p) (assertion_sums q) order))
assertion_decided s (exists u p) plain order = numbers_decided s (exists u p) plain order
assertion_decided s (forall u p) plain order = numbers_decided s (forall u p) plain order

-- ---- formulas

or_assoc : (a b c : Bool) → ((a || b) || c) ≡ (a || (b || c))
or_assoc true b c = refl
or_assoc false b c = refl

none_after : (a : Bool) → a ≡ (a || false)
none_after true = refl
none_after false = refl

-- a formula's use of bags is its assertion's
record Uses (u : BagUse) (q : Assertion) : Type 0 where
  has : u.has ≡ has_bag_literal q
  under : u.under ≡ has_under q

abbrev UsePair : Type 0
UsePair = Both Uses bag_use_level pure_level

module _ (test : BagUse → Bool) (told : Assertion → Bool) (same : (z : UsePair) → test z.0 ≡ told z.1.0) where
  uses-fold : (op : Assertion → Assertion → Assertion) → ((p q : Assertion) → told (op p q) ≡ (told p || told q)) → (p : Assertion) (zs : List UsePair) →
      (told p || list_any test (map (λ (e : UsePair). e.0) zs)) ≡ told (fold op p (map (λ (e : UsePair). e.1.0) zs))
  uses-fold op join p [] = sym (none_after (told p))
  uses-fold op join p (z ∷ zs) =
      (λ i. told p || (same z i || list_any test (map (λ (e : UsePair). e.0) zs)))
      ∙ sym (or_assoc (told p) (told z.1.0) (list_any test (map (λ (e : UsePair). e.0) zs)))
      ∙ ap (λ b. b || list_any test (map (λ (e : UsePair). e.0) zs)) (sym (join p z.1.0))
      ∙ uses-fold op join (op p z.1.0) zs

  uses-first : (op : Assertion → Assertion → Assertion) → ((p q : Assertion) → told (op p q) ≡ (told p || told q)) → (z : UsePair) (zs : List UsePair) →
      (test z.0 || list_any test (map (λ (e : UsePair). e.0) zs)) ≡ told (fold op z.1.0 (map (λ (e : UsePair). e.1.0) zs))
  uses-first op join z zs = ap (λ b. b || list_any test (map (λ (e : UsePair). e.0) zs)) (same z) ∙ uses-fold op join z.1.0 zs

uses-level : (z : Pure-F UsePair) → Uses (bag_use_level (map-Pure UsePair BagUse (λ e. e.0) z)) (pure_level (map-Pure UsePair Assertion (λ e. e.1.0) z))
uses-level (Pure-F.Eq a b) = record { has = refl; under = refl }
uses-level (Pure-F.Lt a b) = record { has = refl; under = refl }
uses-level (Pure-F.Le a b) = record { has = refl; under = refl }
uses-level (Pure-F.Divides d a) = record { has = refl; under = refl }
uses-level (Pure-F.BagEq a b) = record { has = refl; under = refl }
uses-level (Pure-F.Subset a b) = record { has = refl; under = refl }
uses-level (Pure-F.Member a b) = record { has = refl; under = refl }
uses-level (Pure-F.AllOf u b p) = record { has = refl; under = p.1.1.has }
uses-level (Pure-F.Not p) = record { has = p.1.1.has; under = p.1.1.under }
uses-level (Pure-F.And []) = record { has = refl; under = refl }
uses-level (Pure-F.And (p ∷ ps)) = record {
  has = uses-first (λ u. u.has) has_bag_literal (λ z. z.1.1.has) both (λ p q. refl) p ps;
  under = uses-first (λ u. u.under) has_under (λ z. z.1.1.under) both (λ p q. refl) p ps;
}
uses-level (Pure-F.Or []) = record { has = refl; under = refl }
uses-level (Pure-F.Or (p ∷ ps)) = record {
  has = uses-first (λ u. u.has) has_bag_literal (λ z. z.1.1.has) either (λ p q. refl) p ps;
  under = uses-first (λ u. u.under) has_under (λ z. z.1.1.under) either (λ p q. refl) p ps;
}
uses-level (Pure-F.Exists u p) = record { has = p.1.1.has; under = p.1.1.has }
uses-level (Pure-F.Forall u p) = record { has = p.1.1.has; under = p.1.1.has }

not_under : (b c : Bool) → b ≡ c → not b ≡ true → c ≡ false
not_under b true e f = absurd (let g : not b ≡ false = rw e refl in let h : true ≡ false = sym f ∙ g in cc)
not_under b false e f = refl

pub truth_decided : PlainTruthIsDecided
truth_decided s p plain order =
    assertion_decided s (assertion_of p) (not_under (bag_use p).under (has_under (assertion_of p)) (related Uses bag_use_level pure_level uses-level p).under plain) ((order_is p).0 order)
