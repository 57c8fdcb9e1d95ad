-- A count that is set by its place among the elements.
use Rattle.std.proofs.Common.{◌≡◌, ℕ, zero, suc, ◌<◌, ◌≤◌, ℤ, pos, negsuc, ◌<ℤ◌, ◌≤ℤ◌, true, false, ◌⊎◌, inl, inr, List, [], ◌∷◌, ◌++◌, length, take, drop, get_or, refl, sym, ap, ◌∙◌, subst, arith, if◌then◌else◌}
use Rattle.std.specs.Int.Signed.{lt_z}
use Rattle.std.specs.List.{All, AllWithin}
use Rattle.std.specs.Ordering.{int_eq}
use Rattle.std.proofs.lemmas.Int.{ints, by_lt_z}
use Rattle.std.proofs.lemmas.List.Elements.{All-nil, All-cons}
use Rattle.hs_pure.specs.Multiset
use Rattle.hs_pure.specs.Eval.{natural, listed_count, multiset_of}
use Rattle.hs_pure.proofs.Lists.{All-first, All-later, All-weaker}
use Rattle.hs_pure.proofs.Listed.{count-multiset_of, count-set_count}
use Rattle.hs_reduction.proofs.Bags.{int_equal, int_other, int_cases, same_counts}
use Rattle.hs_counts.specs.Counts.{Rises}
use Rattle.hs_counts.specs.Listed.{freed, put_count, with_count}

under : (a b : ℤ) → a <ℤ b → lt_z a b ≡ true
under a b h = grind (arith, ints)

not_under : (a b : ℤ) → b ≤ℤ a → lt_z a b ≡ false
not_under a b h = grind (arith, ints)

by_order : (a b : ℤ) → ((lt_z a b ≡ true) × (a <ℤ b)) ⊎ ((lt_z a b ≡ false) × (b ≤ℤ a))
by_order a b = by_lt_z a b (λ h. inl (under a b h, h)) (λ h. inr (not_under a b h, h))

pub from_under : (a b : ℤ) → lt_z a b ≡ true → a <ℤ b
from_under a b e = elim (by_order a b) [ inl h ↦ h.1 | inr h ↦ absurd (let f : lt_z a b ≡ false = h.0 in cc) ]

natural_none : (z : ℤ) → lt_z (pos 0) z ≡ false → natural z ≡ 0
natural_none (pos zero) e = refl
natural_none (pos (suc n)) e = absurd (grind (arith, ints))
natural_none (negsuc n) e = refl

-- elements stand in order
pub rises_at : (es : List (ℤ × ℤ)) → Rises es → (i j : ℕ) (d : ℤ × ℤ) → i < j → j < length es → (get_or es i d).0 <ℤ (get_or es j d).0
rises_at [] r i j d less within = absurd (omega arith)
rises_at (e ∷ es) r i zero d less within = absurd (omega arith)
rises_at (e ∷ es) r zero (suc j) d less within = r.1 j d (omega arith)
rises_at (e ∷ es) r (suc i) (suc j) d less within = rises_at es r.2 i j d (omega arith) (omega arith)

-- what stands before x is a prefix
pub rises_parted : (x : ℤ) (es : List (ℤ × ℤ)) → Rises es → (i j : ℕ) (d : ℤ × ℤ) → i ≤ j → j < length es → lt_z (get_or es j d).0 x ≡ true → lt_z (get_or es i d).0 x ≡ true
rises_parted x es r i j d le within e = by_place (by_place_of i j le)
  where
    by_place_of : (i j : ℕ) → i ≤ j → (i ≡ j) ⊎ (i < j)
    by_place_of i j h = grind arith

    by_place : ((i ≡ j) ⊎ (i < j)) → lt_z (get_or es i d).0 x ≡ true
    by_place (inl same) = subst (λ k. lt_z (get_or es k d).0 x ≡ true) (sym same) e
    by_place (inr less) =
        let a : (get_or es i d).0 <ℤ (get_or es j d).0 = rises_at es r i j d less within in
        let b : (get_or es j d).0 <ℤ x = from_under _ _ e in
        under (get_or es i d).0 x (omega (arith, ints))

module _ (x n : ℤ) where
  put_some : (es : List (ℤ × ℤ)) → lt_z (pos 0) n ≡ true → put_count x n es ≡ (x, n) ∷ es
  put_some es h = λ i. if h i then (x, n) ∷ es else es

  put_none : (es : List (ℤ × ℤ)) → lt_z (pos 0) n ≡ false → put_count x n es ≡ es
  put_none es h = λ i. if h i then (x, n) ∷ es else es

  passes : (e : ℤ × ℤ) (es : List (ℤ × ℤ)) → lt_z e.0 x ≡ true → with_count x n (e ∷ es) ≡ e ∷ with_count x n es
  passes e es h = λ i. if h i then e ∷ with_count x n es else put_count x n (freed x (e ∷ es))

  stops : (e : ℤ × ℤ) (es : List (ℤ × ℤ)) → lt_z e.0 x ≡ false → with_count x n (e ∷ es) ≡ put_count x n (freed x (e ∷ es))
  stops e es h = λ i. if h i then e ∷ with_count x n es else put_count x n (freed x (e ∷ es))

  stops_at : (e : ℤ × ℤ) (es : List (ℤ × ℤ)) → lt_z e.0 x ≡ false → e.0 ≡ x → with_count x n (e ∷ es) ≡ put_count x n es
  stops_at e es h is = stops e es h ∙ (λ i. put_count x n (if int_equal e.0 x is i then es else e ∷ es))

  stops_before : (e : ℤ × ℤ) (es : List (ℤ × ℤ)) → lt_z e.0 x ≡ false → ¬ (e.0 ≡ x) → with_count x n (e ∷ es) ≡ put_count x n (e ∷ es)
  stops_before e es h isnt = stops e es h ∙ (λ i. put_count x n (if int_other e.0 x isnt i then es else e ∷ es))

  -- by its place
  pub placed : (es : List (ℤ × ℤ)) (i : ℕ) → i ≤ length es → AllWithin (λ e. lt_z e.0 x ≡ true) es 0 i → AllWithin (λ e. lt_z e.0 x ≡ false) es i (length es) →
      with_count x n es ≡ take i es ++ put_count x n (freed x (drop i es))
  placed [] zero le before after = refl
  placed [] (suc i) le before after = absurd (omega arith)
  placed (e ∷ es) zero le before after = stops e es (after 0 e (omega arith) (omega arith))
  placed (e ∷ es) (suc i) le before after =
      passes e es (before 0 e (omega arith) (omega arith))
      ∙ ap (λ l. e ∷ l) (placed es i (omega arith) (λ k d low high. before (suc k) d (omega arith) (omega arith)) (λ k d low high. after (suc k) d (omega arith) (omega arith)))

  -- ---- what is listed then

  none_above : (es : List (ℤ × ℤ)) → All (λ f. x <ℤ f.0) es → listed_count es x ≡ 0
  none_above [] h = refl
  none_above (e ∷ es) h =
      let above : x <ℤ e.0 = All-first (λ f. x <ℤ f.0) e es h in
      let isnt : int_eq e.0 x ≡ false = int_other e.0 x (λ e. absurd (omega (arith, ints))) in
      rw isnt (none_above es (All-later (λ f. x <ℤ f.0) e es h))

  no_count : (es : List (ℤ × ℤ)) (y : ℤ) → listed_count es x ≡ 0 → natural n ≡ 0 → listed_count es y ≡ (if int_eq x y then natural n else listed_count es y)
  no_count es y none zero_n = elim (int_cases x y) [
    | inl is ↦ let e : int_eq x y ≡ true = int_equal x y is in rw e (ap (listed_count es) (sym is) ∙ none ∙ sym zero_n)
    | inr isnt ↦ let e : int_eq x y ≡ false = int_other x y isnt in rw e refl
  ]

  listed-put : (es : List (ℤ × ℤ)) → listed_count es x ≡ 0 → (y : ℤ) → listed_count (put_count x n es) y ≡ (if int_eq x y then natural n else listed_count es y)
  listed-put es none y = elim (by_order (pos 0) n) [
    | inl some ↦ ap (λ l. listed_count l y) (put_some es some.0)
    | inr empty ↦ ap (λ l. listed_count l y) (put_none es empty.0) ∙ no_count es y none (natural_none n empty.0)
  ]

  above_all : (e : ℤ × ℤ) (es : List (ℤ × ℤ)) → x ≤ℤ e.0 → All (λ f. e.0 <ℤ f.0) es → All (λ f. x <ℤ f.0) es
  above_all e es le h = All-weaker (λ f. e.0 <ℤ f.0) (λ f. x <ℤ f.0) (λ f less. omega (arith, ints)) es h

  above_it : (y : ℤ) → x ≤ℤ y → ¬ (y ≡ x) → x <ℤ y
  above_it y le isnt = elim (by_order x y) [ inl h ↦ h.1 | inr h ↦ absurd (isnt (let ge : y ≤ℤ x = h.1 in omega (arith, ints))) ]

  -- the count of the other elements stays
  later : (e : ℤ × ℤ) (y : ℤ) (k r : ℕ) → e.0 <ℤ x → r ≡ (if int_eq x y then natural n else k) →
      (if int_eq e.0 y then natural e.1 else r) ≡ (if int_eq x y then natural n else (if int_eq e.0 y then natural e.1 else k))
  later e y k r less h = elim (int_cases e.0 y) [
    | inl is ↦
        let f : int_eq e.0 y ≡ true = int_equal e.0 y is in
        let g : int_eq x y ≡ false = int_other x y (λ h. absurd (omega (arith, ints))) in
        rw (f, g) refl
    | inr isnt ↦ let f : int_eq e.0 y ≡ false = int_other e.0 y isnt in rw f h
  ]

  instead : (e : ℤ × ℤ) (y : ℤ) (k : ℕ) → e.0 ≡ x → (if int_eq x y then natural n else k) ≡ (if int_eq x y then natural n else (if int_eq e.0 y then natural e.1 else k))
  instead e y k same = elim (int_cases x y) [
    | inl is ↦ let f : int_eq x y ≡ true = int_equal x y is in rw f refl
    | inr isnt ↦
        let f : int_eq x y ≡ false = int_other x y isnt in
        let g : int_eq e.0 y ≡ false = int_other e.0 y (λ h. isnt (sym same ∙ h)) in
        rw (f, g) refl
  ]

  none_first : (e : ℤ × ℤ) (es : List (ℤ × ℤ)) → ¬ (e.0 ≡ x) → All (λ f. x <ℤ f.0) es → listed_count (e ∷ es) x ≡ 0
  none_first e es isnt h = let f : int_eq e.0 x ≡ false = int_other e.0 x isnt in rw f (none_above es h)

  pub listed-with : (es : List (ℤ × ℤ)) → Rises es → (y : ℤ) → listed_count (with_count x n es) y ≡ (if int_eq x y then natural n else listed_count es y)
  listed-with [] r y = listed-put [] refl y
  listed-with (e ∷ es) r y = elim (by_order e.0 x) [
    | inl before ↦ ap (λ l. listed_count l y) (passes e es before.0) ∙ later e y (listed_count es y) (listed_count (with_count x n es) y) before.1 (listed-with es r.2 y)
    | inr after ↦ elim (int_cases e.0 x) [
      | inl is ↦ ap (λ l. listed_count l y) (stops_at e es after.0 is) ∙ listed-put es (none_above es (above_all e es after.1 r.1)) y ∙ instead e y (listed_count es y) is
      | inr isnt ↦ ap (λ l. listed_count l y) (stops_before e es after.0 isnt) ∙ listed-put (e ∷ es) (none_first e es isnt (above_all e es after.1 r.1)) y
    ]
  ]

  -- the bag with the count
  pub with_count-is : (es : List (ℤ × ℤ)) → Rises es → multiset_of (with_count x n es) ≡ Multiset.set_count (multiset_of es) x (natural n)
  with_count-is es r = same_counts (multiset_of (with_count x n es)) (Multiset.set_count (multiset_of es) x (natural n))
      (λ y. count-multiset_of (with_count x n es) y ∙ listed-with es r y ∙ turned y (int_cases x y) ∙ sym (count-set_count (multiset_of es) x (natural n) y))
    where
      turned : (y : ℤ) → ((x ≡ y) ⊎ (¬ (x ≡ y))) → (if int_eq x y then natural n else listed_count es y) ≡ (if int_eq y x then natural n else Multiset.count (multiset_of es) y)
      turned y (inl is) =
          let f : int_eq x y ≡ true = int_equal x y is in
          let g : int_eq y x ≡ true = int_equal y x (sym is) in
          rw (f, g) refl
      turned y (inr isnt) =
          let f : int_eq x y ≡ false = int_other x y isnt in
          let g : int_eq y x ≡ false = int_other y x (λ e. isnt (sym e)) in
          rw (f, g) (sym (count-multiset_of es y))

  -- ---- the elements stay in order

  all-put : (P : ℤ × ℤ → Type 0) (es : List (ℤ × ℤ)) → P (x, n) → All P es → All P (put_count x n es)
  all-put P es this all = elim (by_order (pos 0) n) [
    | inl some ↦ subst (All P) (sym (put_some es some.0)) (All-cons P (x, n) es this all)
    | inr empty ↦ subst (All P) (sym (put_none es empty.0)) all
  ]

  all-with : (P : ℤ × ℤ → Type 0) (es : List (ℤ × ℤ)) → P (x, n) → All P es → All P (with_count x n es)
  all-with P [] this all = all-put P [] this all
  all-with P (e ∷ es) this all = elim (by_order e.0 x) [
    | inl before ↦ subst (All P) (sym (passes e es before.0)) (All-cons P e (with_count x n es) (All-first P e es all) (all-with P es this (All-later P e es all)))
    | inr after ↦ elim (int_cases e.0 x) [
      | inl is ↦ subst (All P) (sym (stops_at e es after.0 is)) (all-put P es this (All-later P e es all))
      | inr isnt ↦ subst (All P) (sym (stops_before e es after.0 isnt)) (all-put P (e ∷ es) this all)
    ]
  ]

  rises-put : (es : List (ℤ × ℤ)) → All (λ f. x <ℤ f.0) es → Rises es → Rises (put_count x n es)
  rises-put es above r = elim (by_order (pos 0) n) [
    | inl some ↦ subst Rises (sym (put_some es some.0)) (some.1, above, r)
    | inr empty ↦ subst Rises (sym (put_none es empty.0)) r
  ]

  pub rises-with : (es : List (ℤ × ℤ)) → Rises es → Rises (with_count x n es)
  rises-with [] r = rises-put [] (All-nil (λ f. x <ℤ f.0)) tt
  rises-with (e ∷ es) r = elim (by_order e.0 x) [
    | inl before ↦ subst Rises (sym (passes e es before.0)) (r.0, all-with (λ f. e.0 <ℤ f.0) es before.1 r.1, rises-with es r.2)
    | inr after ↦ elim (int_cases e.0 x) [
      | inl is ↦ subst Rises (sym (stops_at e es after.0 is)) (rises-put es (above_all e es after.1 r.1) r.2)
      | inr isnt ↦ subst Rises (sym (stops_before e es after.0 isnt))
          (rises-put (e ∷ es) (All-cons (λ f. x <ℤ f.0) e es (above_it e.0 after.1 isnt) (above_all e es after.1 r.1)) r)
    ]
  ]
