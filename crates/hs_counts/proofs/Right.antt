-- Right counts, and what they say.
use Rattle.std.proofs.Common.{◌≡◌, ℕ, zero, suc, ◌+◌, ◌<◌, ◌≤◌, ℤ, pos, ◌≤ℤ◌, true, false, ◌⊎◌, inl, inr, List, [], ◌∷◌, length, get_or, refl, sym, ap, ◌∙◌, subst, arith, if◌then◌else◌}
use Rattle.std.specs.Ordering.{int_eq}
use Rattle.std.specs.List.{All, Any}
use Rattle.std.proofs.lemmas.Nat.{mul-add-lt}
use Rattle.std.proofs.lemmas.Bool.{cases_Bool}
use Rattle.std.proofs.lemmas.List.{get_or_default}
use Rattle.std.proofs.lemmas.List.Elements.{All-nil, All-cons, All-append}
use Rattle.std.proofs.lemmas.List.Folds.{list_any_at}
use Rattle.hs_pure.specs.declared.var.Var.{Var}
use Rattle.hs_pure.specs.Multiset
use Rattle.hs_pure.specs.Multiset.{Multiset, nothing, set_count}
use Rattle.hs_pure.specs.Stack.{Stack, same}
use Rattle.hs_pure.specs.Truth.{value}
use Rattle.hs_pure.specs.Eval.{natural}
use Rattle.hs_pure.specs.Occurs.{lin_top}
use Rattle.hs_pure.proofs.Vars.{same-eq, same-refl}
use Rattle.hs_pure.proofs.Lists.{All-first, All-later}
use Rattle.hs_pure.proofs.Listed.{count-nothing, count-set_count}
use Rattle.hs_pure.proofs.Truths.{Any-cases, Any-nil}
use Rattle.hs_reduction.specs.Layout.{number_variable, has_name, name_place, Layout, layout, width, element, count_number, compounds, after}
use Rattle.hs_reduction.proofs.Bags.{int_equal, int_other, int_cases, not_negative_is}
use Rattle.hs_reduction.proofs.Places.{name_place-is}
use Rattle.hs_reduction.proofs.Below.{from_top, lin-top}
use Rattle.hs_reduction.proofs.Back.{element_below}
use Rattle.hs_reduction.proofs.Laid.{layout-below}
use Rattle.hs_reduction.proofs.Apart.{bags-below}
use Rattle.hs_counts.specs.declared.count.Count.{Count}
use Rattle.hs_counts.specs.Counts.{bag_with, block_counts, counts_of_names, counts_of}
use Rattle.hs_counts.specs.Laws.{CountsAreSaid, NothingElseIsSaid, RightItems, ItemsAreBelow}

module _ (t : Stack) (v : Var) (x : ℤ) (n : ℕ) where
  -- the count is of the element x of v
  abbrev Is : Count → Type 0
  Is c = (c.of ≡ v) × (value t c.element ≡ x)

  -- each count of x in v is n
  abbrev AreN : List Count → Type 0
  AreN cs = All (λ c. c.of ≡ v → value t c.element ≡ x → natural (t c.count).number ≡ n) cs

  abbrev step : Count → Multiset → Multiset
  step c m = if same c.of v then set_count m (value t c.element) (natural (t c.count).number) else m

  is_v : (c : Count) → c.of ≡ v → same c.of v ≡ true
  is_v c e = subst (λ u. same c.of u ≡ true) e (same-refl c.of)

  -- at a count of x
  step_at : (c : Count) (m : Multiset) → Is c → Multiset.count (step c m) x ≡ natural (t c.count).number
  step_at c m is =
      let e : int_eq x (value t c.element) ≡ true = int_equal x (value t c.element) (sym is.1) in
      (λ i. Multiset.count (if is_v c is.0 i then set_count m (value t c.element) (natural (t c.count).number) else m) x)
      ∙ count-set_count m (value t c.element) (natural (t c.count).number) x
      ∙ (λ i. if e i then natural (t c.count).number else Multiset.count m x)

  -- another count leaves x
  step_apart : (c : Count) (m : Multiset) → (c.of ≡ v → ¬ (value t c.element ≡ x)) → Multiset.count (step c m) x ≡ Multiset.count m x
  step_apart c m isnt = elim (cases_Bool (same c.of v)) [
    | inl is ↦
        let e : int_eq x (value t c.element) ≡ false = int_other x (value t c.element) (λ h. isnt (same-eq c.of v is) (sym h)) in
        (λ i. Multiset.count (if is i then set_count m (value t c.element) (natural (t c.count).number) else m) x)
        ∙ count-set_count m (value t c.element) (natural (t c.count).number) x
        ∙ (λ i. if e i then natural (t c.count).number else Multiset.count m x)
    | inr other ↦ (λ i. Multiset.count (if other i then set_count m (value t c.element) (natural (t c.count).number) else m) x)
  ]

  by_item : (c : Count) → Is c ⊎ (c.of ≡ v → ¬ (value t c.element ≡ x))
  by_item c = elim (cases_Bool (same c.of v)) [
    | inl is ↦ elim (int_cases (value t c.element) x) [
      | inl e ↦ inl (same-eq c.of v is, e)
      | inr apart ↦ inr (λ h. apart)
    ]
    | inr other ↦ inr (λ h. absurd (let is : same c.of v ≡ true = is_v c h in cc))
  ]

  -- where x has the count n already, or an item says it
  says : (cs : List Count) (m : Multiset) → AreN cs → ((Multiset.count m x ≡ n) ⊎ Any Is cs) → Multiset.count (bag_with t cs v m) x ≡ n
  says [] m all h = elim h [ inl e ↦ e | inr some ↦ absurd (Any-nil Is some) ]
  says (c ∷ cs) m all h =
      let P : Count → Type 0 = λ c. c.of ≡ v → value t c.element ≡ x → natural (t c.count).number ≡ n in
      let rest = All-later P c cs all in
      elim (by_item c) [
        | inl is ↦ says cs (step c m) rest (inl (step_at c m is ∙ All-first P c cs all is.0 is.1))
        | inr isnt ↦ says cs (step c m) rest (elim h [
          | inl e ↦ inl (step_apart c m isnt ∙ e)
          | inr some ↦ elim (Any-cases Is c cs some) [
            | inl first ↦ absurd (isnt first.0 first.1)
            | inr later ↦ inr later
          ]
        ])
      ]

pub right_are_said : CountsAreSaid
right_are_said t cs right = λ k d less.
    let c = get_or cs k d in
    let here = right k d less in
    let all : AreN t c.of (value t c.element) (natural (t c.count).number) cs = λ j e within a b. ap natural (sym (here.1 j e within (sym a) (sym b))) in
    ap pos (says t c.of (value t c.element) (natural (t c.count).number) cs nothing all (inr (k, c, less, get_or_default cs k c d less, (refl, refl))))
    ∙ sym (not_negative_is (t c.count).number here.0)

pub nothing_else : NothingElseIsSaid
nothing_else t cs v x apart = says t v x 0 cs nothing (λ k d less a b. absurd (apart k d less a b)) (inl (count-nothing x))

-- ---- the counts of a layout

module _ (l : Layout) where
  record IsItem (c : Count) : Type 0 where
    place : ℕ
    within : place < width l
    named : has_name c.of l.bags ≡ true
    is_element : c.element ≡ element l place
    is_count : c.count ≡ number_variable (count_number l (name_place c.of l.bags) place)

  block_items : (w : Var) → has_name w l.bags ≡ true → (n : ℕ) → n ≤ width l → All IsItem (block_counts l w (name_place w l.bags) n)
  block_items w named zero le = All-nil IsItem
  block_items w named (suc n) le =
      let this : Count = record { of = w; element = element l n; count = number_variable (count_number l (name_place w l.bags) n) } in
      let is : IsItem this = record { place = n; within = omega arith; named = named; is_element = refl; is_count = refl } in
      All-append IsItem (block_counts l w (name_place w l.bags) n) (this ∷ []) (block_items w named n (omega arith)) (All-cons IsItem this [] is (All-nil IsItem))

  names_items : (ws : List Var) → All (λ w. has_name w l.bags ≡ true) ws → All IsItem (counts_of_names l ws)
  names_items [] all = All-nil IsItem
  names_items (w ∷ ws) all =
      let P : Var → Type 0 = λ w. has_name w l.bags ≡ true in
      All-append IsItem (block_counts l w (name_place w l.bags) (width l)) (counts_of_names l ws)
      (block_items w (All-first P w ws all) (width l) (omega arith)) (names_items ws (All-later P w ws all))

  all_named : All (λ w. has_name w l.bags ≡ true) l.bags
  all_named k d less = list_any_at (λ w. same w (get_or l.bags k d)) l.bags k d less (same-refl (get_or l.bags k d))

  items : All IsItem (counts_of l)
  items = names_items l.bags all_named

pub layout_items_right : RightItems
layout_items_right l t right = λ k d less.
    let c = get_or (counts_of l) k d in
    let a = items l k d less in
    let number : (t c.count).number ≡ (t (number_variable (count_number l (name_place c.of l.bags) a.place))).number = ap (λ u. (t u).number) a.is_count in
    let counts = right (name_place c.of l.bags) a.place (name_place-is c.of c.of l.bags a.named).0 a.within in (
      subst (λ z. pos 0 ≤ℤ z) (sym number) counts.0,
      λ j e within one equal.
          let f = get_or (counts_of l) j e in
          let b = items l j e within in
          let number_b : (t f.count).number ≡ (t (number_variable (count_number l (name_place c.of l.bags) b.place))).number =
          ap (λ u. (t u).number) b.is_count ∙ ap (λ u. (t (number_variable (count_number l (name_place u l.bags) b.place))).number) (sym one) in
          let values : value t (element l a.place) ≡ value t (element l b.place) = ap (value t) (sym a.is_element) ∙ equal ∙ ap (value t) b.is_element in
          number ∙ counts.1 b.place b.within values ∙ sym number_b,
    )

-- their numbers
pub layout_items_below : ItemsAreBelow
layout_items_below start p top = λ k d less.
    let l = layout start p in
    let c = get_or (counts_of l) k d in
    let a = items l k d less in
    let block = name_place c.of l.bags in
    let there = name_place-is c.of c.of l.bags a.named in
    let listed = layout-below start p (from_top start p top) in
    let of_low : c.of.number < start = subst (λ v. v.number < start) there.1 (bags-below start p top block c.of there.0) in
    let element_low : lin_top (element l a.place) < start + l.new = lin-top (start + l.new) (element l a.place) (omega arith) (element_below l listed a.place a.within) in
    let row = mul-add-lt block (width l) a.place (length l.bags + compounds p) (let inside = there.0 in omega arith) a.within in (
      omega arith,
      subst (λ e. lin_top e < after l p) (sym a.is_element) (omega arith),
      subst (λ v. v.number < after l p) (sym a.is_count) (omega (arith, row)),
    )
