-- From a stack that makes the assertion true to one that makes the reduction true.
use Rattle.std.proofs.Common.{◌≡◌, ℕ, ◌+◌, ◌<◌, ◌≤◌, ◌⊎◌, inl, inr, ℤ, pos, ◌<ℤ◌, ◌≤ℤ◌, Bool, true, false, List, [], ◌∷◌, ◌++◌, length, refl, sym, ap, ◌∙◌, subst, arith}
use Rattle.std.proofs.lemmas.Int.{ints}
use Rattle.std.proofs.lemmas.List.{length-append}
use Rattle.hs_pure.specs.Stack.{Stack, with_value, number_value}
use Rattle.hs_pure.specs.Assertion.{BagTerm, empty, Assertion, truth, eq, lt, le, divides, bag_eq, subset, member, all_of, negation, both, either, exists, forall}
use Rattle.hs_pure.specs.Truth.{value, count, IsTrueAt}
use Rattle.hs_elimination.specs.Ordered.{AssertionIsOrdered, has_bag_literal}
use Rattle.hs_reduction.specs.Layout.{bags_plain, number_variable, Layout, width, element, lin_place, bag_compounds, compounds, denied}
use Rattle.hs_reduction.specs.Instance.{Instance}
use Rattle.hs_reduction.specs.Reduction.{count_term, defined, all_defined, signed, reduced, equal_at, within_at, held_at}
use Rattle.hs_reduction.specs.Rebuilt.{count_at}
use Rattle.hs_reduction.proofs.Below.{BagBelow, Below}
use Rattle.hs_reduction.proofs.Values.{SameBelow, value_agrees, truth_agrees, value-variable}
use Rattle.hs_reduction.proofs.Search.{chosen, chosen_fails, search_equal, search_within, held_search, plain_left, plain_right, order_left, order_right, truth_is_decided}
use Rattle.hs_reduction.proofs.Places.{StandsAt, StandsAt-left, StandsAt-right}
use Rattle.hs_reduction.proofs.Counts.{each-all_below, element-new, element-place, place_within, BagFits, Fits, Counted, bag_parts, length-bag_parts, told_reads, told_defined}
use Rattle.hs_reduction.proofs.Back.{AllBelow, element-truth, none_under}

pub parts : Assertion → List BagTerm
parts (bag_eq a b) = bag_parts a ++ bag_parts b
parts (subset a b) = bag_parts a ++ bag_parts b
parts (member a b) = bag_parts b
parts (all_of u b p) = bag_parts b
parts (negation p) = parts p
parts (both p q) = parts p ++ parts q
parts (either p q) = parts p ++ parts q
parts truth = []
parts (eq a b) = []
parts (lt a b) = []
parts (le a b) = []
parts (divides d a) = []
parts (exists u p) = []
parts (forall u p) = []

length_sum : {A : Type 0} (xs ys : List A) (m n : ℕ) → length xs ≡ m → length ys ≡ n → length (xs ++ ys) ≡ m + n
length_sum xs ys m n e f = length-append xs ys ∙ omega arith

pub length-parts : (p : Assertion) → length (parts p) ≡ compounds p
unfolding parts
length-parts (bag_eq a b) = length_sum _ _ _ _ (length-bag_parts a) (length-bag_parts b)
length-parts (subset a b) = length_sum _ _ _ _ (length-bag_parts a) (length-bag_parts b)
length-parts (member a b) = length-bag_parts b
length-parts (all_of u b p) = length-bag_parts b
length-parts (negation p) = length-parts p
length-parts (both p q) = length_sum _ _ _ _ (length-parts p) (length-parts q)
length-parts (either p q) = length_sum _ _ _ _ (length-parts p) (length-parts q)
length-parts truth = refl
length-parts (eq a b) = refl
length-parts (lt a b) = refl
length-parts (le a b) = refl
length-parts (divides d a) = refl
length-parts (exists u p) = refl
length-parts (forall u p) = refl

module _ (s : Stack) where
  -- the values of the element variables: where a literal that is denied fails, an integer that shows it
  pub witnesses : (asserted : Bool) (p : Assertion) → bags_plain p ≡ true → AssertionIsOrdered p → List ℤ
  witnesses true (bag_eq a b) plain order = []
  witnesses false (bag_eq a b) plain order = chosen (search_equal s a b) ∷ []
  witnesses true (subset a b) plain order = []
  witnesses false (subset a b) plain order = chosen (search_within s a b) ∷ []
  witnesses true (all_of u b p) plain order = []
  witnesses false (all_of u b p) plain order = chosen (held_search s u b p plain order) ∷ []
  witnesses true (negation p) plain order = witnesses false p plain order
  witnesses false (negation p) plain order = witnesses true p plain order
  witnesses asserted (both p q) plain order = witnesses asserted p (plain_left p q plain) (order_left p q order) ++ witnesses asserted q (plain_right p q plain) (order_right p q order)
  witnesses asserted (either p q) plain order = witnesses asserted p (plain_left p q plain) (order_left p q order) ++ witnesses asserted q (plain_right p q plain) (order_right p q order)
  witnesses asserted truth plain order = []
  witnesses asserted (eq a b) plain order = []
  witnesses asserted (lt a b) plain order = []
  witnesses asserted (le a b) plain order = []
  witnesses asserted (divides d a) plain order = []
  witnesses asserted (member a b) plain order = []
  witnesses asserted (exists u p) plain order = []
  witnesses asserted (forall u p) plain order = []

  pub length-witnesses : (asserted : Bool) (p : Assertion) (plain : bags_plain p ≡ true) (order : AssertionIsOrdered p) → length (witnesses asserted p plain order) ≡ denied asserted p
  unfolding witnesses
  length-witnesses true (bag_eq a b) plain order = refl
  length-witnesses false (bag_eq a b) plain order = refl
  length-witnesses true (subset a b) plain order = refl
  length-witnesses false (subset a b) plain order = refl
  length-witnesses true (all_of u b p) plain order = refl
  length-witnesses false (all_of u b p) plain order = refl
  length-witnesses true (negation p) plain order = length-witnesses false p plain order
  length-witnesses false (negation p) plain order = length-witnesses true p plain order
  length-witnesses true (both p q) plain order = length_sum _ _ _ _ (length-witnesses true p (plain_left p q plain) (order_left p q order)) (length-witnesses true q (plain_right p q plain) (order_right p q order))
  length-witnesses false (both p q) plain order = length_sum _ _ _ _ (length-witnesses false p (plain_left p q plain) (order_left p q order)) (length-witnesses false q (plain_right p q plain) (order_right p q order))
  length-witnesses true (either p q) plain order = length_sum _ _ _ _ (length-witnesses true p (plain_left p q plain) (order_left p q order)) (length-witnesses true q (plain_right p q plain) (order_right p q order))
  length-witnesses false (either p q) plain order = length_sum _ _ _ _ (length-witnesses false p (plain_left p q plain) (order_left p q order)) (length-witnesses false q (plain_right p q plain) (order_right p q order))
  length-witnesses true truth plain order = refl
  length-witnesses false truth plain order = refl
  length-witnesses true (eq a b) plain order = refl
  length-witnesses false (eq a b) plain order = refl
  length-witnesses true (lt a b) plain order = refl
  length-witnesses false (lt a b) plain order = refl
  length-witnesses true (le a b) plain order = refl
  length-witnesses false (le a b) plain order = refl
  length-witnesses true (divides d a) plain order = refl
  length-witnesses false (divides d a) plain order = refl
  length-witnesses true (member a b) plain order = refl
  length-witnesses false (member a b) plain order = refl
  length-witnesses true (exists u p) plain order = refl
  length-witnesses false (exists u p) plain order = refl
  length-witnesses true (forall u p) plain order = refl
  length-witnesses false (forall u p) plain order = refl

signed_agrees : (b : Bool) (p : Assertion) (k : ℕ) (s t : Stack) → has_bag_literal p ≡ false → Below k p → SameBelow k s t → IsTrueAt s (signed b p) → IsTrueAt t (signed b p)
signed_agrees true p k s t plain below same h = (truth_agrees p k s t plain below same).0 h
signed_agrees false p k s t plain below same h = λ g. h ((truth_agrees p k s t plain below same).1 g)

module _ (l : Layout) (s t : Stack) (numbers : SameBelow l.start s t)
    (named : Counted l s t)
    (table : ℕ → BagTerm)
    (told : (block : ℕ) → length l.bags ≤ block → (i : ℕ) → i < width l → count_at l t block i ≡ pos (count s (table block) (value t (element l i))))
    (listed : AllBelow l.start l.listed) (way : Instance) (end : ℕ) (ends : l.start + l.new ≤ end) where
  -- the element variables from `new` on have the values of the list
  abbrev Witnessed : ℕ → List ℤ → Type 0
  Witnessed new xs = StandsAt (pos 0) new xs (λ j. (t (number_variable (l.start + j))).number)

  Counts : ℕ → BagTerm → Type 0
  Counts block b = StandsAt empty block (bag_parts b) table

  reads_at : (b : BagTerm) (block : ℕ) → BagFits l b → length l.bags ≤ block → StandsAt empty block (bag_parts b) table →
      (i : ℕ) → i < width l → value t (count_term l block b i) ≡ pos (count s b (value t (element l i)))
  reads_at b block fits start stands i h = told_reads l s t numbers named table told b block i h fits start stands

  all_told : (b : BagTerm) (block : ℕ) → BagFits l b → BagBelow l.start b → length l.bags ≤ block → StandsAt empty block (bag_parts b) table → IsTrueAt t (all_defined l block b)
  all_told b block fits below start stands =
      each-all_below (width l) (defined l block b) t (λ i h. told_defined l s t numbers named table told b block i h fits below start stands)

  second : (a b : BagTerm) (block : ℕ) → StandsAt empty block (bag_parts a ++ bag_parts b) table → StandsAt empty (block + bag_compounds a) (bag_parts b) table
  second a b block stands = StandsAt-right empty block (bag_compounds a) (bag_parts a) (bag_parts b) table (length-bag_parts a) stands

  first : (a b : BagTerm) (block : ℕ) → StandsAt empty block (bag_parts a ++ bag_parts b) table → StandsAt empty block (bag_parts a) table
  first a b block stands = StandsAt-left empty block (bag_parts a) (bag_parts b) table stands

  -- the element variable of a literal has the value that was chosen for it
  value_chosen : (new : ℕ) (x : ℤ) → Witnessed new (x ∷ []) → value t (element l (length l.listed + new)) ≡ x
  value_chosen new x w = ap (value t) (element-new l new) ∙ value-variable t ((l.start + new)) ∙ ap (λ j. (t (number_variable (l.start + j))).number) (let e : new ≡ new + 0 = omega arith in e) ∙ w 0 (omega arith)

  equal_integers : (x y : ℤ) (m n : ℕ) → x ≡ pos m → y ≡ pos n → m ≡ n → x ≡ y
  equal_integers x y m n e f g = omega (arith, ints)

  equal_naturals : (x y : ℤ) (m n : ℕ) → x ≡ pos m → y ≡ pos n → x ≡ y → m ≡ n
  equal_naturals x y m n e f g = omega (arith, ints)

  integers_within : (x y : ℤ) (m n : ℕ) → x ≡ pos m → y ≡ pos n → m ≤ n → x ≤ℤ y
  integers_within x y m n e f g = omega (arith, ints)

  naturals_within : (x y : ℤ) (m n : ℕ) → x ≡ pos m → y ≡ pos n → x ≤ℤ y → m ≤ n
  naturals_within x y m n e f g = omega (arith, ints)

  positive_integer : (x : ℤ) (m : ℕ) → x ≡ pos m → 0 < m → pos 0 <ℤ x
  positive_integer x m e g = omega (arith, ints)

  positive_natural : (x : ℤ) (m : ℕ) → x ≡ pos m → pos 0 <ℤ x → 0 < m
  positive_natural x m e g = omega (arith, ints)

  zero_or : (m : ℕ) → (m ≡ 0) ⊎ (0 < m)
  zero_or m = grind arith

  -- what an implication that fails says
  premise_holds : {B : Type 0} (m : ℕ) → ¬ (0 < m → B) → 0 < m
  premise_holds m fails = elim (zero_or m) [ inl is ↦ absurd (fails (λ h. absurd (omega arith))) | inr more ↦ more ]

  pub forth : (asserted : Bool) (p : Assertion) (new block : ℕ) (plain : bags_plain p ≡ true) (order : AssertionIsOrdered p) → Fits l p → Below l.start p → new + denied asserted p ≤ l.new →
      length l.bags ≤ block → StandsAt empty block (parts p) table → Witnessed new (witnesses s asserted p plain order) →
      IsTrueAt s (signed asserted p) → IsTrueAt t (reduced l way end asserted p new block)
  unfolding parts witnesses
  forth true truth new block plain order fits below room start stands w h = tt
  forth false truth new block plain order fits below room start stands w h = h
  forth true (eq a b) new block plain order fits below room start stands w h = signed_agrees true (eq a b) l.start s t refl below numbers h
  forth false (eq a b) new block plain order fits below room start stands w h = signed_agrees false (eq a b) l.start s t refl below numbers h
  forth true (lt a b) new block plain order fits below room start stands w h = signed_agrees true (lt a b) l.start s t refl below numbers h
  forth false (lt a b) new block plain order fits below room start stands w h = signed_agrees false (lt a b) l.start s t refl below numbers h
  forth true (le a b) new block plain order fits below room start stands w h = signed_agrees true (le a b) l.start s t refl below numbers h
  forth false (le a b) new block plain order fits below room start stands w h = signed_agrees false (le a b) l.start s t refl below numbers h
  forth true (divides d a) new block plain order fits below room start stands w h = signed_agrees true (divides d a) l.start s t refl below numbers h
  forth false (divides d a) new block plain order fits below room start stands w h = signed_agrees false (divides d a) l.start s t refl below numbers h
  forth true (exists u p) new block plain order fits below room start stands w h = signed_agrees true (exists u p) l.start s t (none_under (has_bag_literal p) plain) below numbers h
  forth false (exists u p) new block plain order fits below room start stands w h = signed_agrees false (exists u p) l.start s t (none_under (has_bag_literal p) plain) below numbers h
  forth true (forall u p) new block plain order fits below room start stands w h = signed_agrees true (forall u p) l.start s t (none_under (has_bag_literal p) plain) below numbers h
  forth false (forall u p) new block plain order fits below room start stands w h = signed_agrees false (forall u p) l.start s t (none_under (has_bag_literal p) plain) below numbers h
  forth true (bag_eq a b) new block plain order fits below room start stands w h =
      let from_a = first a b block stands in
      let from_b = second a b block stands in (
        (all_told a block fits.0 below.0 start from_a, all_told b (block + bag_compounds a) fits.1 below.1 (omega arith) from_b),
        each-all_below (width l) (equal_at l block a b) t (λ i less.
            equal_integers _ _ _ _ (reads_at a block fits.0 start from_a i less) (reads_at b (block + bag_compounds a) fits.1 (omega arith) from_b i less) (h (value t (element l i)))),
      )
  forth false (bag_eq a b) new block plain order fits below room start stands w h =
      let from_a = first a b block stands in
      let from_b = second a b block stands in
      let i = length l.listed + new in
      let less : i < width l = omega arith in
      let fails = chosen_fails (search_equal s a b) h in
      let is = value_chosen new (chosen (search_equal s a b)) w in (
        (all_told a block fits.0 below.0 start from_a, all_told b (block + bag_compounds a) fits.1 below.1 (omega arith) from_b),
        λ same. fails (subst (λ z. count s a z ≡ count s b z) is
            (equal_naturals _ _ _ _ (reads_at a block fits.0 start from_a i less) (reads_at b (block + bag_compounds a) fits.1 (omega arith) from_b i less) same)),
      )
  forth true (subset a b) new block plain order fits below room start stands w h =
      let from_a = first a b block stands in
      let from_b = second a b block stands in (
        (all_told a block fits.0 below.0 start from_a, all_told b (block + bag_compounds a) fits.1 below.1 (omega arith) from_b),
        each-all_below (width l) (within_at l block a b) t (λ i less.
            integers_within _ _ _ _ (reads_at a block fits.0 start from_a i less) (reads_at b (block + bag_compounds a) fits.1 (omega arith) from_b i less) (h (value t (element l i)))),
      )
  forth false (subset a b) new block plain order fits below room start stands w h =
      let from_a = first a b block stands in
      let from_b = second a b block stands in
      let i = length l.listed + new in
      let less : i < width l = omega arith in
      let fails = chosen_fails (search_within s a b) h in
      let is = value_chosen new (chosen (search_within s a b)) w in (
        (all_told a block fits.0 below.0 start from_a, all_told b (block + bag_compounds a) fits.1 below.1 (omega arith) from_b),
        λ within. fails (subst (λ z. count s a z ≤ count s b z) is
            (naturals_within _ _ _ _ (reads_at a block fits.0 start from_a i less) (reads_at b (block + bag_compounds a) fits.1 (omega arith) from_b i less) within)),
      )
  forth true (member a b) new block plain order fits below room start stands w h =
      let i = lin_place a l.listed in
      let e : value t (element l i) ≡ value s a = ap (value t) (element-place l a fits.0) ∙ sym (value_agrees l.start s t a below.0 numbers) in
      let x = reads_at b block fits.1 start stands i (place_within l a fits.0) in (
        all_told b block fits.1 below.1 start stands,
        positive_integer _ _ x (subst (λ z. 0 < count s b z) (sym e) h),
      )
  forth false (member a b) new block plain order fits below room start stands w h =
      let i = lin_place a l.listed in
      let e : value t (element l i) ≡ value s a = ap (value t) (element-place l a fits.0) ∙ sym (value_agrees l.start s t a below.0 numbers) in
      let x = reads_at b block fits.1 start stands i (place_within l a fits.0) in (
        all_told b block fits.1 below.1 start stands,
        λ has. h (subst (λ z. 0 < count s b z) e (positive_natural _ _ x has)),
      )
  forth true (all_of u b p) new block plain order fits below room start stands w h = (
    all_told b block fits below.1 start stands,
    each-all_below (width l) (held_at l way end block u b p) t (λ i less.
        let x = reads_at b block fits start stands i less in
        elim (zero_or (count s b (value t (element l i)))) [
          | inl none ↦ inl (x ∙ ap pos none)
          | inr more ↦ inr ((element-truth l s t numbers listed way end ends u p i less (none_under (has_bag_literal p) plain) below.2).0 (h (value t (element l i)) more))
        ]),
  )
  forth false (all_of u b p) new block plain order fits below room start stands w h =
      let i = length l.listed + new in
      let less : i < width l = omega arith in
      let fails = chosen_fails (held_search s u b p plain order) h in
      let is = value_chosen new (chosen (held_search s u b p plain order)) w in
      let broken : ¬ (0 < count s b (value t (element l i)) → IsTrueAt (with_value u (number_value (value t (element l i))) s) p) =
      subst (λ z. ¬ (0 < count s b z → IsTrueAt (with_value u (number_value z) s) p)) (sym is) fails in (
        all_told b block fits below.1 start stands,
        (
          positive_integer _ _ (reads_at b block fits start stands i less) (premise_holds _ broken),
          λ holds. broken (λ _. (element-truth l s t numbers listed way end ends u p i less (none_under (has_bag_literal p) plain) below.2).1 holds),
        ),
      )
  forth true (negation p) new block plain order fits below room start stands w h = forth false p new block plain order fits below room start stands w h
  forth false (negation p) new block plain order fits below room start stands w h =
      forth true p new block plain order fits below room start stands w (elim (truth_is_decided s p plain order) [ inl holds ↦ holds | inr fails ↦ absurd (h fails) ])
  forth true (both p q) new block plain order fits below room start stands w h =
      let one_plain = plain_left p q plain in
      let two_plain = plain_right p q plain in
      let one_order = order_left p q order in
      let two_order = order_right p q order in (
        forth true p new block one_plain one_order fits.0 below.0 (omega arith) start
            (StandsAt-left empty block (parts p) (parts q) table stands)
            (StandsAt-left (pos 0) new (witnesses s true p one_plain one_order) (witnesses s true q two_plain two_order) (λ j. (t (number_variable (l.start + j))).number) w) h.0,
        forth true q (new + denied true p) (block + compounds p) two_plain two_order fits.1 below.1 (omega arith) (omega arith)
            (StandsAt-right empty block (compounds p) (parts p) (parts q) table (length-parts p) stands)
            (StandsAt-right (pos 0) new (denied true p) (witnesses s true p one_plain one_order) (witnesses s true q two_plain two_order) (λ j. (t (number_variable (l.start + j))).number) (length-witnesses s true p one_plain one_order) w) h.1,
      )
  forth false (both p q) new block plain order fits below room start stands w h =
      let one_plain = plain_left p q plain in
      let two_plain = plain_right p q plain in
      let one_order = order_left p q order in
      let two_order = order_right p q order in
      elim (truth_is_decided s p one_plain one_order) [
        | inr fails ↦ inl (forth false p new block one_plain one_order fits.0 below.0 (omega arith) start
            (StandsAt-left empty block (parts p) (parts q) table stands)
            (StandsAt-left (pos 0) new (witnesses s false p one_plain one_order) (witnesses s false q two_plain two_order) (λ j. (t (number_variable (l.start + j))).number) w) fails)
        | inl holds ↦ inr (forth false q (new + denied false p) (block + compounds p) two_plain two_order fits.1 below.1 (omega arith) (omega arith)
            (StandsAt-right empty block (compounds p) (parts p) (parts q) table (length-parts p) stands)
            (StandsAt-right (pos 0) new (denied false p) (witnesses s false p one_plain one_order) (witnesses s false q two_plain two_order) (λ j. (t (number_variable (l.start + j))).number) (length-witnesses s false p one_plain one_order) w)
            (λ g. h (holds, g)))
      ]
  forth true (either p q) new block plain order fits below room start stands w h =
      let one_plain = plain_left p q plain in
      let two_plain = plain_right p q plain in
      let one_order = order_left p q order in
      let two_order = order_right p q order in
      elim h [
        | inl x ↦ inl (forth true p new block one_plain one_order fits.0 below.0 (omega arith) start
            (StandsAt-left empty block (parts p) (parts q) table stands)
            (StandsAt-left (pos 0) new (witnesses s true p one_plain one_order) (witnesses s true q two_plain two_order) (λ j. (t (number_variable (l.start + j))).number) w) x)
        | inr x ↦ inr (forth true q (new + denied true p) (block + compounds p) two_plain two_order fits.1 below.1 (omega arith) (omega arith)
            (StandsAt-right empty block (compounds p) (parts p) (parts q) table (length-parts p) stands)
            (StandsAt-right (pos 0) new (denied true p) (witnesses s true p one_plain one_order) (witnesses s true q two_plain two_order) (λ j. (t (number_variable (l.start + j))).number) (length-witnesses s true p one_plain one_order) w) x)
      ]
  forth false (either p q) new block plain order fits below room start stands w h =
      let one_plain = plain_left p q plain in
      let two_plain = plain_right p q plain in
      let one_order = order_left p q order in
      let two_order = order_right p q order in (
        forth false p new block one_plain one_order fits.0 below.0 (omega arith) start
            (StandsAt-left empty block (parts p) (parts q) table stands)
            (StandsAt-left (pos 0) new (witnesses s false p one_plain one_order) (witnesses s false q two_plain two_order) (λ j. (t (number_variable (l.start + j))).number) w) (λ g. h (inl g)),
        forth false q (new + denied false p) (block + compounds p) two_plain two_order fits.1 below.1 (omega arith) (omega arith)
            (StandsAt-right empty block (compounds p) (parts p) (parts q) table (length-parts p) stands)
            (StandsAt-right (pos 0) new (denied false p) (witnesses s false p one_plain one_order) (witnesses s false q two_plain two_order) (λ j. (t (number_variable (l.start + j))).number) (length-witnesses s false p one_plain one_order) w) (λ g. h (inr g)),
      )
