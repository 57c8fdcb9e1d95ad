-- The counts of a bag at an element, and the elements that a bag may have.
use Rattle.std.proofs.Common.{◌≡◌, ℕ, ◌+◌, ◌-◌, min, ◌<◌, ◌≤◌, ◌^◌, ℤ, Bool, true, false, List, [], ◌∷◌, ◌↔◌, refl, sym, ap, ◌∙◌, subst, arith, Result, Ok, Err, IsErr, pos, get_or, ◌⊎◌, inl, inr, ⊎_elim}
use Rattle.hs_pure.specs.declared.var.Var.{Var}
use Rattle.hs_pure.specs.declared.bag.Bag.{Bag}
use Rattle.hs_pure.specs.declared.bag.Bag.TheVariants as bag_of
use Rattle.hs_pure.specs.declared.eval.Values.{Values}
use Rattle.hs_pure.specs.Stack.{Stack, with_value, number_value}
use Rattle.hs_pure.specs.Assertion.{BagTerm, empty, name, one, union, inter, diff, Assertion, bag_level, bag_term_of}
use Rattle.hs_pure.specs.Truth.{value, count, IsTrueAt}
use Rattle.hs_pure.specs.Eval.{listed_count, CountFits, NumbersFit}
use Rattle.hs_pure.specs.Values.{listed, stack_at, ElementsFit, AtElements, PairFits, IsAtMost, BodyFits, BodyHolds}
use Rattle.hs_pure.specs.Answer.{Tells}
use Rattle.std.proofs.lemmas.Bool.Decides.{Decides-int_eq}
use Rattle.std.proofs.lemmas.List.Elements.{All-head}
use Rattle.std.specs.Ordering.{int_eq}
use Rattle.hs_pure.proofs.Lists.{All-later}
use Rattle.hs_pure.specs.declared.eval.Wide.{Wide}
use Rattle.std.specs.List.{All}
use Rattle.hs_pure.proofs.Views.{fold_bag-Name}
use Rattle.hs_pure.proofs.Listed.{count-multiset_of}

pub name_counted : (e : Values) (b : Bag) (v : Var) (x : ℤ) (n : ℕ) → b ≡ bag_of.Name v → n ≡ listed_count (listed e v) x →
    CountFits (stack_at e) (bag_term_of b) x × (n ≡ count (stack_at e) (bag_term_of b) x)
name_counted e b v x n is n_is =
    subst (λ c. CountFits (stack_at e) c x × (n ≡ count (stack_at e) c x)) (sym (ap bag_term_of is ∙ fold_bag-Name bag_level v))
    (tt, n_is ∙ sym (count-multiset_of (listed e v) x))

-- what is told of the listed elements of a named bag is told of its elements
pub name_told : (F T : ℤ → Type 0) (e : Values) (b : Bag) (v : Var) (es : List (ℤ × ℤ)) (r : Result Bool Wide) → b ≡ bag_of.Name v → es ≡ listed e v →
    Tells r (All (λ p. F p.0) es) (All (λ p. T p.0) es) → Tells r (ElementsFit F e (bag_term_of b)) (AtElements T e (bag_term_of b))
name_told F T e b v es r is es_is h =
    subst (λ c. Tells r (ElementsFit F e c) (AtElements T e c)) (sym (ap bag_term_of is ∙ fold_bag-Name bag_level v))
    (subst (λ l. Tells r (All (λ p. F p.0) l) (All (λ p. T p.0) l)) es_is h)

-- ---- what no bag lists has the count 0

bool_cases : (b : Bool) → (b ≡ true) ⊎ (b ≡ false)
bool_cases true = inl refl
bool_cases false = inr refl

module _ (P : ℤ → Type 0) where
  in_list : (es : List (ℤ × ℤ)) → All (λ p. P p.0) es → (x : ℤ) → P x ⊎ (listed_count es x ≡ 0)
  in_list [] h x = inr refl
  in_list (e ∷ es) h x = ⊎_elim
      (λ same. inl (subst P ((Decides-int_eq e.0 x).0 same) (All-head (λ p. P p.0) e es h)))
      (λ other. ⊎_elim (λ found. inl found) (λ none. inr (rw other none)) (in_list es (All-later (λ p. P p.0) e es h) x))
      (bool_cases (int_eq e.0 x))

  two_zeros : (m n : ℕ) → m ≡ 0 → n ≡ 0 → m + n ≡ 0
  two_zeros m n e f = omega arith

  min_zero : (m n : ℕ) → m ≡ 0 → min m n ≡ 0
  min_zero m n e = omega arith

  minus_zero : (m n : ℕ) → m ≡ 0 → m - n ≡ 0
  minus_zero m n e = omega arith

  small : (n : ℕ) → n ≡ 0 → n < 2 ^ 127
  small n e = omega arith

  -- P at the elements is P wherever the count isn't 0
  pub at_or_none : (e : Values) (b : BagTerm) → AtElements P e b → (x : ℤ) → P x ⊎ (count (stack_at e) b x ≡ 0)
  at_or_none e empty h x = inr refl
  at_or_none e (name v) h x = ⊎_elim (λ p. inl p) (λ none. inr (count-multiset_of (listed e v) x ∙ none)) (in_list (listed e v) h x)
  at_or_none e (one a) h x = ⊎_elim
      (λ same. inl (subst P ((Decides-int_eq (value (stack_at e) a) x).0 same) h))
      (λ other. inr (rw other refl))
      (bool_cases (int_eq (value (stack_at e) a) x))
  at_or_none e (union a b) h x = ⊎_elim (λ p. inl p) (λ (m : count (stack_at e) a x ≡ 0). ⊎_elim (λ p. inl p) (λ (n : count (stack_at e) b x ≡ 0). inr (two_zeros _ _ m n)) (at_or_none e b h.1 x)) (at_or_none e a h.0 x)
  at_or_none e (inter a b) h x = ⊎_elim (λ p. inl p) (λ (m : count (stack_at e) a x ≡ 0). inr (min_zero _ (count (stack_at e) b x) m)) (at_or_none e a h.0 x)
  at_or_none e (diff a b) h x = ⊎_elim (λ p. inl p) (λ (m : count (stack_at e) a x ≡ 0). inr (minus_zero _ (count (stack_at e) b x) m)) (at_or_none e a h.0 x)

  -- the same, with numbers that fit
  pub fits_or_none : (e : Values) (b : BagTerm) → ElementsFit P e b → (x : ℤ) → P x ⊎ ((count (stack_at e) b x ≡ 0) × CountFits (stack_at e) b x)
  fits_or_none e empty h x = inr (refl, tt)
  fits_or_none e (name v) h x = ⊎_elim (λ p. inl p) (λ none. inr (count-multiset_of (listed e v) x ∙ none, tt)) (in_list (listed e v) h x)
  fits_or_none e (one a) h x = ⊎_elim
      (λ same. inl (subst P ((Decides-int_eq (value (stack_at e) a) x).0 same) h.1))
      (λ other. inr (rw other refl, h.0))
      (bool_cases (int_eq (value (stack_at e) a) x))
  fits_or_none e (union a b) h x = ⊎_elim (λ p. inl p) (λ (m : (count (stack_at e) a x ≡ 0) × CountFits (stack_at e) a x).
      ⊎_elim (λ p. inl p) (λ (n : (count (stack_at e) b x ≡ 0) × CountFits (stack_at e) b x). inr (two_zeros _ _ m.0 n.0, (m.1, n.1, small _ (two_zeros _ _ m.0 n.0)))) (fits_or_none e b h.1 x)) (fits_or_none e a h.0 x)
  fits_or_none e (inter a b) h x = ⊎_elim (λ p. inl p) (λ (m : (count (stack_at e) a x ≡ 0) × CountFits (stack_at e) a x).
      ⊎_elim (λ p. inl p) (λ (n : (count (stack_at e) b x ≡ 0) × CountFits (stack_at e) b x). inr (min_zero _ (count (stack_at e) b x) m.0, (m.1, n.1))) (fits_or_none e b h.1 x)) (fits_or_none e a h.0 x)
  fits_or_none e (diff a b) h x = ⊎_elim (λ p. inl p) (λ (m : (count (stack_at e) a x ≡ 0) × CountFits (stack_at e) a x).
      ⊎_elim (λ p. inl p) (λ (n : (count (stack_at e) b x ≡ 0) × CountFits (stack_at e) b x). inr (minus_zero _ (count (stack_at e) b x) m.0, (m.1, n.1))) (fits_or_none e b h.1 x)) (fits_or_none e a h.0 x)

  everywhere : (h : (x : ℤ) → P x) (es : List (ℤ × ℤ)) → All (λ p. P p.0) es
  everywhere h es i d less = h (get_or es i d).0

  pub at_all : (e : Values) (b : BagTerm) → ((x : ℤ) → P x) → AtElements P e b
  at_all e empty h = tt
  at_all e (name v) h = everywhere h (listed e v)
  at_all e (one a) h = h (value (stack_at e) a)
  at_all e (union a b) h = (at_all e a h, at_all e b h)
  at_all e (inter a b) h = (at_all e a h, at_all e b h)
  at_all e (diff a b) h = (at_all e a h, at_all e b h)

  pub fits_all : (e : Values) (b : BagTerm) → ((x : ℤ) → P x) → ((x : ℤ) → CountFits (stack_at e) b x) → ElementsFit P e b
  fits_all e empty h f = tt
  fits_all e (name v) h f = everywhere h (listed e v)
  fits_all e (one a) h f = (f (pos 0), h (value (stack_at e) a))
  fits_all e (union a b) h f = (fits_all e a h (λ x. (f x).0), fits_all e b h (λ x. (f x).1))
  fits_all e (inter a b) h f = (fits_all e a h (λ x. (f x).0), fits_all e b h (λ x. (f x).1))
  fits_all e (diff a b) h f = (fits_all e a h (λ x. (f x).0), fits_all e b h (λ x. (f x).1))

-- ---- what the elements tell holds of all integers

pub tells_iff : (F G A B : Type 0) (r : Result Bool Wide) → F ↔ G → A ↔ B → Tells r F A → Tells r G B
tells_iff F G A B (Ok b) f a h = (f.0 h.0, (λ t. a.0 (h.1.0 t), λ t. h.1.1 (a.1 t)))
tells_iff F G A B (Err e) f a h = λ g. h (f.1 g)

module _ (e : Values) (a b : BagTerm) where
  pair_fits : ElementsFit (PairFits (stack_at e) a b) e a → ElementsFit (PairFits (stack_at e) a b) e b → (x : ℤ) → PairFits (stack_at e) a b x
  pair_fits f g x = ⊎_elim (λ h. h)
      (λ m. ⊎_elim (λ h. h) (λ n. (m.1, n.1)) (fits_or_none (PairFits (stack_at e) a b) e b g x))
      (fits_or_none (PairFits (stack_at e) a b) e a f x)

  at_most_zero : (x : ℤ) → count (stack_at e) a x ≡ 0 → IsAtMost (stack_at e) a b x
  at_most_zero x h = omega arith

  pub subset_fits : (ElementsFit (PairFits (stack_at e) a b) e a × ElementsFit (PairFits (stack_at e) a b) e b) ↔ ((x : ℤ) → PairFits (stack_at e) a b x)
  subset_fits = (
    λ h. pair_fits h.0 h.1,
    λ h. (fits_all (PairFits (stack_at e) a b) e a h (λ x. (h x).0), fits_all (PairFits (stack_at e) a b) e b h (λ x. (h x).1)),
  )

  pub subset_is : (AtElements (IsAtMost (stack_at e) a b) e a × AtElements (IsAtMost (stack_at e) a b) e b) ↔ ((x : ℤ) → IsAtMost (stack_at e) a b x)
  subset_is = (
    λ h x. ⊎_elim (λ y. y) (at_most_zero x) (at_or_none (IsAtMost (stack_at e) a b) e a h.0 x),
    λ h. (at_all (IsAtMost (stack_at e) a b) e a h, at_all (IsAtMost (stack_at e) a b) e b h),
  )

  antisym : (x : ℤ) → IsAtMost (stack_at e) a b x → IsAtMost (stack_at e) b a x → count (stack_at e) a x ≡ count (stack_at e) b x
  antisym x h g = omega arith

  pub equal_fits : (((x : ℤ) → PairFits (stack_at e) a b x) × ((x : ℤ) → PairFits (stack_at e) b a x)) ↔ ((x : ℤ) → PairFits (stack_at e) a b x)
  equal_fits = (λ h. h.0, λ h. (h, λ x. ((h x).1, (h x).0)))

  equal_le : (m n : ℕ) → m ≡ n → m ≤ n
  equal_le m n e = omega arith

  pub equal_is : (((x : ℤ) → IsAtMost (stack_at e) a b x) × ((x : ℤ) → IsAtMost (stack_at e) b a x)) ↔ ((x : ℤ) → count (stack_at e) a x ≡ count (stack_at e) b x)
  equal_is = (λ h x. antisym x (h.0 x) (h.1 x), λ h. (λ x. equal_le _ _ (h x), λ x. equal_le _ _ (sym (h x))))

module _ (e : Values) (u : Var) (b : BagTerm) (p : Assertion) where
  no_element : (x : ℤ) → count (stack_at e) b x ≡ 0 → {A : Type 0} → 0 < count (stack_at e) b x → A
  no_element x z h = absurd (omega arith)

  pub body_fits : ElementsFit (BodyFits (stack_at e) u b p) e b ↔ ((x : ℤ) → BodyFits (stack_at e) u b p x)
  body_fits = (
    λ h x. ⊎_elim (λ y. y) (λ n. (n.1, λ g. no_element x n.0 g)) (fits_or_none (BodyFits (stack_at e) u b p) e b h x),
    λ h. fits_all (BodyFits (stack_at e) u b p) e b h (λ x. (h x).0),
  )

  pub body_holds : AtElements (BodyHolds (stack_at e) u b p) e b ↔ ((x : ℤ) → BodyHolds (stack_at e) u b p x)
  body_holds = (
    λ h x. ⊎_elim (λ y. y) (λ n g. no_element x n g) (at_or_none (BodyHolds (stack_at e) u b p) e b h x),
    λ h. at_all (BodyHolds (stack_at e) u b p) e b h,
  )

pub tells_err : (F A : Type 0) (r : Result Bool Wide) → IsErr r → (¬ F) → Tells r F A
tells_err F A (Ok b) h n = absurd cc
tells_err F A (Err e) h n = n

pub body_told : (s : Stack) (u : Var) (b : BagTerm) (p : Assertion) (x : ℤ) (r : Result Bool Wide) → 0 < count s b x → CountFits s b x →
    Tells r (NumbersFit (with_value u (number_value x) s) p) (IsTrueAt (with_value u (number_value x) s) p) → Tells r (BodyFits s u b p x) (BodyHolds s u b p x)
body_told s u b p x r here fits = tells_iff _ _ _ _ r (λ n. (fits, λ _. n), λ h. h.1 here) (λ t _. t, λ h. h here)
