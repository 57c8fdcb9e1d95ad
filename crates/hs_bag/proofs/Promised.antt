-- The reduction keeps what is promised of it.
use Rattle.std.proofs.Common.{◌≡◌, ℕ, zero, suc, ◌+◌, ◌*◌, ◌<◌, ◌≤◌, Bool, true, false, IsTrue, pos, List, [], ◌∷◌, length, nat_lt, refl, sym, ap, ◌∙◌, subst, arith, if◌then◌else◌}
use Rattle.std.specs.List.{All}
use Rattle.std.proofs.lemmas.List.Elements.{All-append, All-nil, All-cons}
use Rattle.std.proofs.lemmas.Nat.{mul-add-lt}
use Rattle.std.proofs.Math.Nat.{mul_comm}
use Rattle.hs_pure.specs.declared.var.Var.{Var}
use Rattle.hs_pure.specs.declared.pure.Pure.{Pure}
use Rattle.hs_pure.specs.Stack.{Stack, same}
use Rattle.hs_pure.specs.Assertion.{BagTerm, empty, name, one, union, inter, diff, Assertion, truth, eq, lt, le, divides, bag_eq, subset, member, all_of, negation, both, either, exists, forall, assertion_of}
use Rattle.hs_pure.specs.Truth.{IsTrueAt, TrueAt}
use Rattle.hs_pure.specs.Occurs.{lin_top, top_of, is_bags_plain}
use Rattle.hs_pure.specs.Mirror.{assertion_top}
use Rattle.hs_pure.specs.Sums.{IsOrdered}
use Rattle.hs_pure.proofs.Mirrored.{top_of-is}
use Rattle.hs_pure.proofs.Vars.{or_left, or_right, same-refl}
use Rattle.hs_pure.proofs.Lists.{All-weaker}
use Rattle.hs_elimination.specs.Ordered.{AssertionIsOrdered, has_bag_literal}
use Rattle.hs_elimination.proofs.Order.{order_is, bags_are}
use Rattle.hs_reduction.specs.Layout.{Layout, layout, bags_plain, number_variable, width, element, count_number, name_place, has_name, add_name, bag_names, names, compounds, after}
use Rattle.hs_reduction.specs.Instance.{Instance}
use Rattle.hs_reduction.specs.Reduction.{reduction}
use Rattle.hs_reduction.proofs.Below.{LinBelow, BagBelow, Below, from_top, top-below}
use Rattle.hs_reduction.proofs.Back.{AllBelow, element_below}
use Rattle.hs_reduction.proofs.Laid.{layout-below}
use Rattle.hs_reduction.proofs.Rebuilt.{rebuilt_makes_true, counts_are_counts}
use Rattle.hs_reduction.proofs.Satisfied.{reduction_is_exact}
use Rattle.hs_reduction.proofs.Plain.{reduction_has_no_bags}
use Rattle.hs_reduction.proofs.Order.{reduction_is_ordered}
use Rattle.hs_reduction.proofs.Uses.{plain_is_of_assertion}
use Rattle.hs_counts.specs.declared.count.Count.{Count}
use Rattle.hs_counts.specs.declared.count.Reduced.{Reduced}
use Rattle.hs_counts.specs.Counts.{stack_with_counts, ItemsAreRight, block_counts, counts_of_names, counts_of}
use Rattle.hs_counts.proofs.Said.{said_is_rebuilt}
use Rattle.hs_counts.proofs.Right.{layout_items_right}
use Rattle.hs_bag.specs.Promise.{IsAbove, IsReduction}

-- ---- names

-- the names are below n
abbrev NamesBelow : ℕ → List Var → Type 0
NamesBelow n [] = Unit {0}
NamesBelow n (v ∷ vs) = (v.number < n) × NamesBelow n vs

add_name-below : (n : ℕ) (v : Var) (vs : List Var) → v.number < n → NamesBelow n vs → NamesBelow n (add_name v vs)
add_name-below n v [] h k = (h, tt)
add_name-below n v (w ∷ ws) h k = by_tests (add_name-below n v ws h k.1) (same w v) (nat_lt v.number w.number)
  where
    by_tests : NamesBelow n (add_name v ws) → (b c : Bool) → NamesBelow n (if b then w ∷ ws else (if c then v ∷ w ∷ ws else w ∷ add_name v ws))
    by_tests rest true c = k
    by_tests rest false true = (h, k)
    by_tests rest false false = (k.0, rest)

bag_names-below : (n : ℕ) (b : BagTerm) (vs : List Var) → BagBelow n b → NamesBelow n vs → NamesBelow n (bag_names b vs)
bag_names-below n empty vs h k = k
bag_names-below n (name v) vs h k = add_name-below n v vs h k
bag_names-below n (one a) vs h k = k
bag_names-below n (union a b) vs h k = bag_names-below n b (bag_names a vs) h.1 (bag_names-below n a vs h.0 k)
bag_names-below n (inter a b) vs h k = bag_names-below n b (bag_names a vs) h.1 (bag_names-below n a vs h.0 k)
bag_names-below n (diff a b) vs h k = bag_names-below n b (bag_names a vs) h.1 (bag_names-below n a vs h.0 k)

names-below : (n : ℕ) (p : Assertion) (vs : List Var) → Below n p → NamesBelow n vs → NamesBelow n (names p vs)
names-below n truth vs h k = k
names-below n (eq a b) vs h k = k
names-below n (lt a b) vs h k = k
names-below n (le a b) vs h k = k
names-below n (divides d a) vs h k = k
names-below n (bag_eq a b) vs h k = bag_names-below n b (bag_names a vs) h.1 (bag_names-below n a vs h.0 k)
names-below n (subset a b) vs h k = bag_names-below n b (bag_names a vs) h.1 (bag_names-below n a vs h.0 k)
names-below n (member a b) vs h k = bag_names-below n b vs h.1 k
names-below n (all_of u b p) vs h k = bag_names-below n b vs h.1 k
names-below n (negation p) vs h k = names-below n p vs h k
names-below n (both p q) vs h k = names-below n q (names p vs) h.1 (names-below n p vs h.0 k)
names-below n (either p q) vs h k = names-below n q (names p vs) h.1 (names-below n p vs h.0 k)
names-below n (exists u p) vs h k = k
names-below n (forall u p) vs h k = k

-- ---- what is listed

module _ (l : Layout) (n : ℕ) where
  abbrev item : Var → ℕ → Count
  item v i = record { of = v; element = element l i; count = number_variable (count_number l (name_place v l.bags) i) }

  -- a count of a bag variable at an element term
  abbrev AtPlace : Count → Type 0
  AtPlace c = (i : ℕ) × ((i < width l) × (name_place c.of l.bags < length l.bags) × (c.of.number < n) × (c ≡ item c.of i))

  block-places : (v : Var) (m : ℕ) → name_place v l.bags < length l.bags → v.number < n → m ≤ width l → All AtPlace (block_counts l v (name_place v l.bags) m)
  block-places v zero h k less = All-nil AtPlace
  block-places v (suc m) h k less =
      All-append AtPlace (block_counts l v (name_place v l.bags) m) (item v m ∷ []) (block-places v m h k (omega arith))
      (All-cons AtPlace (item v m) [] (m, (omega arith, h, k, refl)) (All-nil AtPlace))

  -- each of the names stands among those of the layout
  abbrev AreThere : List Var → Type 0
  AreThere [] = Unit {0}
  AreThere (v ∷ vs) = (name_place v l.bags < length l.bags) × AreThere vs

  names-places : (vs : List Var) → AreThere vs → NamesBelow n vs → All AtPlace (counts_of_names l vs)
  names-places [] h k = All-nil AtPlace
  names-places (v ∷ vs) h k =
      All-append AtPlace (block_counts l v (name_place v l.bags) (width l)) (counts_of_names l vs) (block-places v (width l) h.0 k.0 (omega arith)) (names-places vs h.1 k.1)

place_itself : (v : Var) (vs : List Var) → has_name v vs ≡ true → name_place v vs < length vs
place_itself v [] e = absurd cc
place_itself v (w ∷ ws) e = by_test (place_itself v ws) (same w v) refl
  where
    by_test : (has_name v ws ≡ true → name_place v ws < length ws) → (b : Bool) → same w v ≡ b → (if b then 0 else suc (name_place v ws)) < suc (length ws)
    by_test rest true is = omega arith
    by_test rest false isnt = let later : has_name v ws ≡ true = rw isnt at e in let less = rest later in omega arith

all_there : (l : Layout) (n : ℕ) (vs : List Var) → ((v : Var) → has_name v vs ≡ true → has_name v l.bags ≡ true) → AreThere l n vs
all_there l n [] h = tt
all_there l n (v ∷ vs) h = (place_itself v l.bags (h v (or_left (same v v) (has_name v vs) (same-refl v))), all_there l n vs (λ w e. h w (or_right (same v w) (has_name w vs) e)))

places : (l : Layout) (n : ℕ) → NamesBelow n l.bags → All (AtPlace l n) (counts_of l)
places l n below = names-places l n l.bags (all_there l n l.bags (λ v e. e)) below

-- ---- numbers

above_one : (l : Layout) (blocks next : ℕ) → 0 < l.start → length l.bags ≤ blocks → l.start + l.new + blocks * width l ≤ next → AllBelow l.start l.listed → (c : Count) → AtPlace l l.start c → IsAbove next c
above_one l blocks next positive some_blocks end below c (i, (less, there, low, is)) =
    let element_low : LinBelow (l.start + l.new) (element l i) = element_below l below i less in
    let top : lin_top (element l i) < l.start + l.new = top-below (l.start + l.new) (divides (pos 1) (element l i)) (omega arith) element_low in
    let row : name_place c.of l.bags * width l + i < width l * blocks = mul-add-lt (name_place c.of l.bags) (width l) i blocks (omega arith) less in
    let turned : width l * blocks ≡ blocks * width l = mul_comm (width l) blocks in
    let top_c : lin_top c.element ≡ lin_top (element l i) = ap (λ (c : Count). lin_top c.element) is in
    let number_c : c.count.number ≡ count_number l (name_place c.of l.bags) i = ap (λ (c : Count). c.count.number) is in
    (omega arith, omega arith, omega arith)

-- ---- the promise

module _ (f : Pure) (fresh : ℕ) (r : Reduced) (way : Instance) (ordered : IsOrdered f) (above : top_of f < fresh) (plain : is_bags_plain f ≡ true)
    (pure_is : assertion_of r.pure ≡ reduction way fresh (assertion_of f)) (counts_are : r.counts ≡ counts_of (layout fresh (assertion_of f)))
    (end : after (layout fresh (assertion_of f)) (assertion_of f) ≤ r.next) (pure_below : top_of r.pure < r.next) where
  abbrev p : Assertion
  p = assertion_of f

  abbrev laid : Layout
  laid = layout fresh (assertion_of f)

  top_p : assertion_top (assertion_of f) < fresh
  top_p = subst (λ n. n < fresh) (top_of-is f) above

  plain_p : IsTrue (bags_plain (assertion_of f))
  plain_p = sym (plain_is_of_assertion f) ∙ plain

  ordered_p : AssertionIsOrdered (assertion_of f)
  ordered_p = (order_is f).0 ordered

  true_there : (t : Stack) → TrueAt t r.pure → IsTrueAt t (reduction way fresh (assertion_of f))
  true_there t h = subst (IsTrueAt t) pure_is h

  low_names : NamesBelow fresh (layout fresh (assertion_of f)).bags
  low_names = names-below fresh (assertion_of f) [] (from_top fresh (assertion_of f) top_p) tt

  holds_there : (t : Stack) → TrueAt t r.pure → TrueAt (stack_with_counts t r.counts) f
  holds_there t h =
      subst (λ s. IsTrueAt s (assertion_of f)) (sym (ap (stack_with_counts t) counts_are ∙ said_is_rebuilt (layout fresh (assertion_of f)) t))
      (rebuilt_makes_true way fresh (assertion_of f) top_p plain_p t (true_there t h))

  pub is_reduction : IsReduction f fresh r
  is_reduction =
      let exact = reduction_is_exact way fresh (assertion_of f) top_p plain_p ordered_p in
      record {
        no_bags = bags_are r.pure ∙ ap has_bag_literal pure_is ∙ reduction_has_no_bags way fresh (assertion_of f) plain_p;
        ordered = (order_is r.pure).1 (subst AssertionIsOrdered (sym pure_is) (reduction_is_ordered way fresh (assertion_of f) ordered_p));
        satisfiable = (λ w. let t = exact.0 w in (t.0, subst (IsTrueAt t.0) (sym pure_is) t.1), λ w. exact.1 (w.0, true_there w.0 w.1));
        counts = λ t h. subst (ItemsAreRight t) (sym counts_are) (layout_items_right (layout fresh (assertion_of f)) t (counts_are_counts way fresh (assertion_of f) t (true_there t h)));
        holds = holds_there;
        fresh_below = omega arith;
        formula_below = omega arith;
        pure_below = pure_below;
        counts_below = subst (All (IsAbove r.next)) (sym counts_are) (All-weaker (AtPlace (layout fresh (assertion_of f)) fresh) (IsAbove r.next)
            (above_one (layout fresh (assertion_of f)) (length (layout fresh (assertion_of f)).bags + compounds (assertion_of f)) r.next (omega arith) (omega arith) end (layout-below fresh (assertion_of f) (from_top fresh (assertion_of f) top_p)))
            (counts_of (layout fresh (assertion_of f))) (places (layout fresh (assertion_of f)) fresh low_names));
      }
