-- At a stack the truth of an assertion with bags is decided, and where a literal fails, an element shows it.
use Rattle.std.proofs.Common.{◌≡◌, ℕ, ◌<◌, ◌≤◌, ◌⊎◌, inl, inr, ℤ, pos, Bool, true, false, ◌||◌, List, [], ◌∷◌, ◌++◌, refl, sym, ◌∙◌, subst, arith}
use Rattle.std.specs.Ordering.{int_eq}
use Rattle.std.proofs.lemmas.Bool.{cases_Bool, and_parts}
use Rattle.hs_pure.specs.declared.var.Var.{Var}
use Rattle.hs_pure.specs.Stack.{Stack, with_value, number_value}
use Rattle.hs_pure.specs.Assertion.{BagTerm, Assertion, truth, eq, lt, le, divides, bag_eq, subset, member, all_of, negation, both, either, exists, forall}
use Rattle.hs_pure.specs.Truth.{value, count, IsTrueAt}
use Rattle.hs_pure.specs.Sums.{LinIsOrdered}
use Rattle.hs_elimination.specs.Ordered.{term_sums, assertion_sums, AssertionIsOrdered, has_bag_literal}
use Rattle.hs_elimination.specs.Decided.{without_quantifiers, evaluates_to}
use Rattle.hs_elimination.proofs.Order.{All-before, All-after}
use Rattle.hs_elimination.proofs.Decided.{tested, simple-without, same-without}
use Rattle.hs_truth.proofs.Elements.{elements, is_among, apart, none_else}
use Rattle.hs_reduction.specs.Layout.{bags_plain}
use Rattle.hs_reduction.proofs.Bags.{int_same}
use Rattle.hs_reduction.proofs.Back.{none_under}

abbrev pub IsDecided : Type 0 → Type 0
IsDecided P = P ⊎ (¬ P)

-- either all integers are so, or one is known that isn't
abbrev pub AllOrOne : (ℤ → Type 0) → Type 0
AllOrOne P = ((x : ℤ) → P x) ⊎ ((x : ℤ) × (¬ (P x)))

search_in : (P : ℤ → Type 0) (xs : List ℤ) → ((x : ℤ) → IsDecided (P x)) → ((x : ℤ) → is_among x xs ≡ true → P x) ⊎ ((x : ℤ) × (¬ (P x)))
search_in P [] test = inl (λ x e. absurd cc)
search_in P (y ∷ ys) test = elim (test y) [
  | inr fails ↦ inr (y, fails)
  | inl holds ↦ elim (search_in P ys test) [
    | inr found ↦ inr found
    | inl rest ↦ inl (λ x e. elim (cases_Bool (int_eq x y)) [
      | inl is ↦ subst P (sym (int_same x y is)) holds
      | inr isnt ↦ rest x (let f : (int_eq x y || is_among x ys) ≡ is_among x ys = rw isnt refl in sym f ∙ e)
    ])
  ]
]

-- where P holds of all but some integers, and is decided of each, it holds of all or fails of one
search_all : (P : ℤ → Type 0) (xs : List ℤ) → ((x : ℤ) → IsDecided (P x)) → ((x : ℤ) → is_among x xs ≡ false → P x) → AllOrOne P
search_all P xs test outside = elim (search_in P xs test) [
  | inr found ↦ inr found
  | inl inside ↦ inl (λ x. elim (cases_Bool (is_among x xs)) [ inl is ↦ inside x is | inr isnt ↦ outside x isnt ])
]

all_decided : {P : ℤ → Type 0} → AllOrOne P → IsDecided ((x : ℤ) → P x)
all_decided (inl all) = inl all
all_decided (inr found) = inr (λ all. found.1 (all found.0))

-- one that isn't so, if there is one
pub chosen : {P : ℤ → Type 0} → AllOrOne P → ℤ
chosen (inl all) = pos 0
chosen (inr found) = found.0

pub chosen_fails : {P : ℤ → Type 0} (a : AllOrOne P) → (¬ ((x : ℤ) → P x)) → ¬ (P (chosen a))
unfolding chosen
chosen_fails (inl all) not_all = absurd (not_all all)
chosen_fails (inr found) not_all = found.1

not_decided : {A : Type 0} → IsDecided A → IsDecided (¬ A)
not_decided (inl a) = inr (λ f. f a)
not_decided (inr f) = inl f

both_decided : {A B : Type 0} → IsDecided A → IsDecided B → IsDecided (A × B)
both_decided (inl a) (inl b) = inl (a, b)
both_decided (inl a) (inr g) = inr (λ p. g p.1)
both_decided (inr f) d = inr (λ p. f p.0)

either_decided : {A B : Type 0} → IsDecided A → IsDecided B → IsDecided (A ⊎ B)
either_decided (inl a) d = inl (inl a)
either_decided (inr f) (inl b) = inl (inr b)
either_decided (inr f) (inr g) = inr (λ h. elim h [ inl a ↦ f a | inr b ↦ g b ])

implies_decided : {A B : Type 0} → IsDecided A → IsDecided B → IsDecided (A → B)
implies_decided d (inl b) = inl (λ a. b)
implies_decided (inl a) (inr g) = inr (λ h. g (h a))
implies_decided (inr f) (inr g) = inl (λ a. absurd (f a))

nat_decided : (m n : ℕ) → IsDecided (m ≡ n)
nat_decided m n = grind arith

le_decided : (m n : ℕ) → IsDecided (m ≤ n)
le_decided m n = grind arith

lt_decided : (m n : ℕ) → IsDecided (m < n)
lt_decided m n = grind arith

by_test : {P : Type 0} (b : Bool) → ((b ≡ true) → P) → (P → b ≡ true) → IsDecided P
by_test true f g = inl (f refl)
by_test false f g = inr (λ p. let k : false ≡ true = g p in cc)

-- elimination tells the truth of an assertion without bag literals
numbers_decided : (s : Stack) (p : Assertion) → has_bag_literal p ≡ false → AssertionIsOrdered p → IsDecided (IsTrueAt s p)
numbers_decided s p none order =
    let t = tested s (without_quantifiers p) (simple-without p none) in
    let e = same-without p none order s in
    by_test (evaluates_to s (without_quantifiers p)) (λ k. e.0 (t.1 k)) (λ h. t.0 (e.1 h))

-- ---- literals

pub search_equal : (s : Stack) (a b : BagTerm) → AllOrOne (λ x. count s a x ≡ count s b x)
search_equal s a b = search_all (λ x. count s a x ≡ count s b x) (elements s a ++ elements s b) (λ x. nat_decided (count s a x) (count s b x)) (λ x e.
    let k = apart x (elements s a) (elements s b) e in none_else s a x k.0 ∙ sym (none_else s b x k.1))

pub search_within : (s : Stack) (a b : BagTerm) → AllOrOne (λ x. count s a x ≤ count s b x)
search_within s a b = search_all (λ x. count s a x ≤ count s b x) (elements s a) (λ x. le_decided (count s a x) (count s b x)) (λ x e.
    let k = none_else s a x e in omega arith)

pub search_held : (s : Stack) (u : Var) (b : BagTerm) (p : Assertion) → has_bag_literal p ≡ false → AssertionIsOrdered p →
    AllOrOne (λ x. 0 < count s b x → IsTrueAt (with_value u (number_value x) s) p)
search_held s u b p none order = search_all (λ x. 0 < count s b x → IsTrueAt (with_value u (number_value x) s) p) (elements s b)
    (λ x. implies_decided (lt_decided 0 (count s b x)) (numbers_decided (with_value u (number_value x) s) p none order))
    (λ x e h. let k = none_else s b x e in absurd (omega arith))

-- ---- parts

pub plain_left : (p q : Assertion) → bags_plain (both p q) ≡ true → bags_plain p ≡ true
plain_left p q e = (and_parts (bags_plain p) (bags_plain q) e).0

pub plain_right : (p q : Assertion) → bags_plain (both p q) ≡ true → bags_plain q ≡ true
plain_right p q e = (and_parts (bags_plain p) (bags_plain q) e).1

pub order_left : (p q : Assertion) → AssertionIsOrdered (both p q) → AssertionIsOrdered p
order_left p q order = All-before LinIsOrdered (assertion_sums p) (assertion_sums q) order

pub order_right : (p q : Assertion) → AssertionIsOrdered (both p q) → AssertionIsOrdered q
order_right p q order = All-after LinIsOrdered (assertion_sums p) (assertion_sums q) order

pub order_body : (u : Var) (b : BagTerm) (p : Assertion) → AssertionIsOrdered (all_of u b p) → AssertionIsOrdered p
order_body u b p order = All-after LinIsOrdered (term_sums b) (assertion_sums p) order

pub held_search : (s : Stack) (u : Var) (b : BagTerm) (p : Assertion) → bags_plain (all_of u b p) ≡ true → AssertionIsOrdered (all_of u b p) →
    AllOrOne (λ x. 0 < count s b x → IsTrueAt (with_value u (number_value x) s) p)
held_search s u b p plain order = search_held s u b p (none_under (has_bag_literal p) plain) (order_body u b p order)

-- the truth of an assertion in order whose bag literals stand outside of quantifiers is decided
pub truth_is_decided : (s : Stack) (p : Assertion) → bags_plain p ≡ true → AssertionIsOrdered p → IsDecided (IsTrueAt s p)
truth_is_decided s truth plain order = inl tt
truth_is_decided s (eq a b) plain order = numbers_decided s (eq a b) refl order
truth_is_decided s (lt a b) plain order = numbers_decided s (lt a b) refl order
truth_is_decided s (le a b) plain order = numbers_decided s (le a b) refl order
truth_is_decided s (divides d a) plain order = numbers_decided s (divides d a) refl order
truth_is_decided s (bag_eq a b) plain order = all_decided (search_equal s a b)
truth_is_decided s (subset a b) plain order = all_decided (search_within s a b)
truth_is_decided s (member a b) plain order = lt_decided 0 (count s b (value s a))
truth_is_decided s (all_of u b p) plain order = all_decided (held_search s u b p plain order)
truth_is_decided s (negation p) plain order = not_decided (truth_is_decided s p plain order)
truth_is_decided s (both p q) plain order =
    both_decided (truth_is_decided s p (plain_left p q plain) (order_left p q order)) (truth_is_decided s q (plain_right p q plain) (order_right p q order))
truth_is_decided s (either p q) plain order =
    either_decided (truth_is_decided s p (plain_left p q plain) (order_left p q order)) (truth_is_decided s q (plain_right p q plain) (order_right p q order))
truth_is_decided s (exists u p) plain order = numbers_decided s (exists u p) (none_under (has_bag_literal p) plain) order
truth_is_decided s (forall u p) plain order = numbers_decided s (forall u p) (none_under (has_bag_literal p) plain) order
