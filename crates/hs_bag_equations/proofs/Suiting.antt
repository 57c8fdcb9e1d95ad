-- Order, places of bag literals and greatest numbers of what is put in place.
use Rattle.std.proofs.Common.{◌≡◌, ℕ, max, ◌≤◌, Bool, true, false, IsTrue, List, [], ◌∷◌, ◌++◌, map, ◌↔◌, refl, sym, subst, arith, if◌then◌else◌}
use Rattle.std.specs.List.{All}
use Rattle.std.proofs.lemmas.Bool.{and_parts, and_from}
use Rattle.std.proofs.lemmas.List.Elements.{All-head, All-tail, All-nil, All-cons, All-map, All-weaker, All-append}
use Rattle.hs_pure.specs.declared.var.Var.{Var}
use Rattle.hs_pure.specs.declared.lin.Lin.{Lin}
use Rattle.hs_pure.specs.declared.bag.Bag.{Bag}
use Rattle.hs_pure.specs.declared.pure.Pure.{Pure}
use Rattle.hs_pure.specs.declared.pure.Pure.TheVariants as pure_of
use Rattle.hs_pure.specs.Assertion.{BagTerm, empty, name, one, union, inter, diff, Assertion, truth, eq, lt, le, divides, bag_eq, subset, member, all_of, negation, both, either, exists, forall, pure_level, bag_term_of, assertion_of}
use Rattle.hs_pure.specs.Mirror.{bag_term_top, assertion_top}
use Rattle.hs_pure.specs.Occurs.{lin_top, is_bags_plain, top_of}
use Rattle.hs_pure.specs.Stack.{same}
use Rattle.hs_pure.specs.Sums.{LinIsOrdered, IsOrdered}
use Rattle.hs_pure.proofs.Mirrored.{top_of-is}
use Rattle.hs_pure.proofs.Truths.{All-map_back, every-all}
use Rattle.hs_pure.proofs.Views.{fold-And, fold-BagEq}
use Rattle.hs_elimination.specs.Ordered.{term_sums, assertion_sums, AssertionIsOrdered}
use Rattle.hs_elimination.proofs.Order.{All-before, All-after, All-both, order_is}
use Rattle.hs_reduction.specs.Layout.{bags_plain}
use Rattle.hs_reduction.proofs.Uses.{plain_is_of_assertion}
use Rattle.hs_bag_equations.specs.Placing.{bag_for, put_bags, put_in_place, read, read_put, BagSuits, BagsSuit, Suits}

-- the same of an assertion
abbrev AssertionSuits : ℕ → Assertion → Type 0
AssertionSuits n p = AssertionIsOrdered p × IsTrue (bags_plain p) × (assertion_top p ≤ n)

suits-is : (n : ℕ) (p : Pure) → Suits n p → AssertionSuits n (assertion_of p)
suits-is n p h = ((order_is p).0 h.ordered, subst IsTrue (plain_is_of_assertion p) h.plain, subst (λ k. k ≤ n) (top_of-is p) h.below)

suits-from : (n : ℕ) (p : Pure) → AssertionSuits n (assertion_of p) → Suits n p
suits-from n p h = record { ordered = (order_is p).1 h.0; plain = subst IsTrue (sym (plain_is_of_assertion p)) h.1; below = subst (λ k. k ≤ n) (sym (top_of-is p)) h.2 }

-- what is asked of a bag that has these sums and this greatest number
abbrev Fit : ℕ → List Lin → ℕ → Type 0
Fit n sums top = All LinIsOrdered sums × (top ≤ n)

abbrev TermFits : ℕ → BagTerm → Type 0
TermFits n b = Fit n (term_sums b) (bag_term_top b)

term_fits : (n : ℕ) (b : BagTerm) → BagSuits n b → TermFits n b
term_fits n b k = (k.ordered, k.below)

suits_term : (n : ℕ) (b : BagTerm) → TermFits n b → BagSuits n b
suits_term n b k = record { ordered = k.0; below = k.1 }

abbrev BagFitsOf : ℕ → Var × Bag → Type 0
BagFitsOf n e = BagSuits n (bag_term_of e.1)

max_first : (m n k : ℕ) → max m n ≤ k → m ≤ k
max_first m n k h = omega arith

max_second : (m n k : ℕ) → max m n ≤ k → n ≤ k
max_second m n k h = omega arith

max_both : (m n k : ℕ) → m ≤ k → n ≤ k → max m n ≤ k
max_both m n k h g = omega arith

both-suits : (n : ℕ) (p q : Assertion) → AssertionSuits n (both p q) ↔ AssertionSuits n p × AssertionSuits n q
both-suits n p q = (
  λ k. let plain = and_parts (bags_plain p) (bags_plain q) k.1 in (
    (All-before LinIsOrdered (assertion_sums p) (assertion_sums q) k.0, plain.0, max_first (assertion_top p) (assertion_top q) n k.2),
    (All-after LinIsOrdered (assertion_sums p) (assertion_sums q) k.0, plain.1, max_second (assertion_top p) (assertion_top q) n k.2),
  ),
  λ k. (All-both LinIsOrdered (assertion_sums p) (assertion_sums q) k.0.0 k.1.0, and_from (bags_plain p) (bags_plain q) k.0.1 k.1.1, max_both (assertion_top p) (assertion_top q) n k.0.2 k.1.2),
)

module _ (n : ℕ) (es : List (Var × Bag)) (h : BagsSuit n es) where
  bag_for-suits : (ds : List (Var × Bag)) → All (BagFitsOf n) ds → (v : Var) → v.number ≤ n → TermFits n (bag_for ds v)
  bag_for-suits [] k v l = (All-nil LinIsOrdered, l)
  bag_for-suits (d ∷ ds) k v l = by_test (bag_for-suits ds (All-tail (BagFitsOf n) d ds k) v l) (same d.0 v)
    where
      by_test : TermFits n (bag_for ds v) → (b : Bool) → TermFits n (if b then bag_term_of d.1 else bag_for ds v)
      by_test later true = term_fits n (bag_term_of d.1) (All-head (BagFitsOf n) d ds k)
      by_test later false = later

  joined : (a b c d : BagTerm) → (TermFits n a → TermFits n c) → (TermFits n b → TermFits n d) →
      Fit n (term_sums a ++ term_sums b) (max (bag_term_top a) (bag_term_top b)) → Fit n (term_sums c ++ term_sums d) (max (bag_term_top c) (bag_term_top d))
  joined a b c d f g k =
      let first = f (All-before LinIsOrdered (term_sums a) (term_sums b) k.0, max_first (bag_term_top a) (bag_term_top b) n k.1) in
      let second = g (All-after LinIsOrdered (term_sums a) (term_sums b) k.0, max_second (bag_term_top a) (bag_term_top b) n k.1) in
      (All-both LinIsOrdered (term_sums c) (term_sums d) first.0 second.0, max_both (bag_term_top c) (bag_term_top d) n first.1 second.1)

  suits-put_bags : (b : BagTerm) → TermFits n b → TermFits n (put_bags es b)
  suits-put_bags empty k = k
  suits-put_bags (name v) k = bag_for-suits es h.each v k.1
  suits-put_bags (one a) k = k
  suits-put_bags (union a b) k = joined a b (put_bags es a) (put_bags es b) (suits-put_bags a) (suits-put_bags b) k
  suits-put_bags (inter a b) k = joined a b (put_bags es a) (put_bags es b) (suits-put_bags a) (suits-put_bags b) k
  suits-put_bags (diff a b) k = joined a b (put_bags es a) (put_bags es b) (suits-put_bags a) (suits-put_bags b) k

  pub suits-put_bag : (b r : Bag) → bag_term_of r ≡ put_bags es (bag_term_of b) → BagSuits n (bag_term_of b) → BagSuits n (bag_term_of r)
  suits-put_bag b r e k = subst (BagSuits n) (sym e) (suits_term n (put_bags es (bag_term_of b)) (suits-put_bags (bag_term_of b) (term_fits n (bag_term_of b) k)))

  pairs : (p q r t : Assertion) → (AssertionSuits n p → AssertionSuits n r) → (AssertionSuits n q → AssertionSuits n t) →
      AssertionSuits n (both p q) → AssertionSuits n (both r t)
  pairs p q r t f g k = let parts = (both-suits n p q).0 k in (both-suits n r t).1 (f parts.0, g parts.1)

  suits-put : (p : Assertion) → AssertionSuits n p → AssertionSuits n (put_in_place es p)
  suits-put truth k = k
  suits-put (eq a b) k = k
  suits-put (lt a b) k = k
  suits-put (le a b) k = k
  suits-put (divides d a) k = k
  suits-put (bag_eq a b) k = let r = joined a b (put_bags es a) (put_bags es b) (suits-put_bags a) (suits-put_bags b) (k.0, k.2) in (r.0, refl, r.1)
  suits-put (subset a b) k = let r = joined a b (put_bags es a) (put_bags es b) (suits-put_bags a) (suits-put_bags b) (k.0, k.2) in (r.0, refl, r.1)
  suits-put (member a b) k =
      let r = suits-put_bags b (All-tail LinIsOrdered a (term_sums b) k.0, max_second (lin_top a) (bag_term_top b) n k.2) in
      (All-cons LinIsOrdered a (term_sums (put_bags es b)) (All-head LinIsOrdered a (term_sums b) k.0) r.0, refl, max_both (lin_top a) (bag_term_top (put_bags es b)) n (max_first (lin_top a) (bag_term_top b) n k.2) r.1)
  suits-put (all_of u b p) k =
      let r = suits-put_bags b (All-before LinIsOrdered (term_sums b) (assertion_sums p) k.0, max_first (bag_term_top b) (max u.number (assertion_top p)) n k.2) in
      (All-both LinIsOrdered (term_sums (put_bags es b)) (assertion_sums p) r.0 (All-after LinIsOrdered (term_sums b) (assertion_sums p) k.0), k.1, max_both (bag_term_top (put_bags es b)) (max u.number (assertion_top p)) n r.1 (max_second (bag_term_top b) (max u.number (assertion_top p)) n k.2))
  suits-put (negation p) k = suits-put p k
  suits-put (both p q) k = pairs p q (put_in_place es p) (put_in_place es q) (suits-put p) (suits-put q) k
  suits-put (either p q) k = pairs p q (put_in_place es p) (put_in_place es q) (suits-put p) (suits-put q) k
  suits-put (exists u p) k = k
  suits-put (forall u p) k = k

  pub suits-placed : (p r : Pure) → assertion_of r ≡ put_in_place es (assertion_of p) → Suits n p → Suits n r
  suits-placed p r e k = suits-from n r (subst (AssertionSuits n) (sym e) (suits-put (assertion_of p) (suits-is n p k)))

-- equations with others put in place
suits-replaced : (n : ℕ) (rs es last : List (Var × Bag)) → map read rs ≡ map (read_put last) es → BagsSuit n last → BagsSuit n es → All (BagFitsOf n) rs
suits-replaced n rs es last e h k =
    let put : All (λ (d : Var × Bag). BagSuits n (put_bags last (bag_term_of d.1))) es
    = All-weaker (BagFitsOf n) (λ d. BagSuits n (put_bags last (bag_term_of d.1))) (λ d f. suits_term n (put_bags last (bag_term_of d.1)) (suits-put_bags n last h (bag_term_of d.1) (term_fits n (bag_term_of d.1) f))) es k.each in
    All-map_back (λ (d : Var × BagTerm). BagSuits n d.1) read rs (subst (All (λ (d : Var × BagTerm). BagSuits n d.1)) (sym e) (All-map (λ (d : Var × BagTerm). BagSuits n d.1) (read_put last) es put))

pub suits-none : (n : ℕ) (es : List (Var × Bag)) → es ≡ [] → BagsSuit n es
suits-none n es e = record { each = subst (All (BagFitsOf n)) (sym e) (All-nil (BagFitsOf n)) }

pub suits-one : (n : ℕ) (v : Var) (b : Bag) (es : List (Var × Bag)) → es ≡ (v, b) ∷ [] → BagSuits n (bag_term_of b) → BagsSuit n es
suits-one n v b es e h = record { each = subst (All (BagFitsOf n)) (sym e) (All-cons (BagFitsOf n) (v, b) [] h (All-nil (BagFitsOf n))) }

pub suits-extended : (n : ℕ) (all rs es last : List (Var × Bag)) → all ≡ rs ++ last → map read rs ≡ map (read_put last) es → BagsSuit n last → BagsSuit n es → BagsSuit n all
suits-extended n all rs es last is e h k = record { each = subst (All (BagFitsOf n)) (sym is) (All-append (BagFitsOf n) rs last (suits-replaced n rs es last e h k) h.each) }

-- ---- formulas of bags and of members

pub BagEq-suits : (n : ℕ) (a b : Bag) → Suits n (pure_of.BagEq a b) → BagSuits n (bag_term_of a) × BagSuits n (bag_term_of b)
BagEq-suits n a b k =
    let read_so : AssertionSuits n (bag_eq (bag_term_of a) (bag_term_of b)) = subst (AssertionSuits n) (fold-BagEq pure_level a b) (suits-is n (pure_of.BagEq a b) k) in (
      record { ordered = All-before LinIsOrdered (term_sums (bag_term_of a)) (term_sums (bag_term_of b)) read_so.0; below = max_first (bag_term_top (bag_term_of a)) (bag_term_top (bag_term_of b)) n read_so.2 },
      record { ordered = All-after LinIsOrdered (term_sums (bag_term_of a)) (term_sums (bag_term_of b)) read_so.0; below = max_second (bag_term_top (bag_term_of a)) (bag_term_top (bag_term_of b)) n read_so.2 },
    )

truth-suits : (n : ℕ) → AssertionSuits n truth
truth-suits n = (All-nil LinIsOrdered, refl, omega arith)

pub And-suits : (n : ℕ) (ps : List Pure) → Suits n (pure_of.And ps) ↔ All (Suits n) ps
And-suits n ps =
    let each = every-all (AssertionSuits n) (truth-suits n) (both-suits n) (map assertion_of ps) in (
      λ k. All-weaker (λ p. AssertionSuits n (assertion_of p)) (Suits n) (suits-from n) ps (All-map_back (AssertionSuits n) assertion_of ps (each.0 (subst (AssertionSuits n) (fold-And pure_level ps) (suits-is n (pure_of.And ps) k)))),
      λ k. suits-from n (pure_of.And ps) (subst (AssertionSuits n) (sym (fold-And pure_level ps)) (each.1 (All-map (AssertionSuits n) assertion_of ps (All-weaker (Suits n) (λ p. AssertionSuits n (assertion_of p)) (suits-is n) ps k)))),
    )

le_refl : (n : ℕ) → n ≤ n
le_refl n = omega arith

suits-itself : (p : Pure) → IsOrdered p → IsTrue (is_bags_plain p) → Suits (top_of p) p
suits-itself p o b = record { ordered = o; plain = b; below = le_refl (top_of p) }

-- of a formula with equations put in place
pub suits-result : (p r : Pure) (es : List (Var × Bag)) → IsOrdered p → IsTrue (is_bags_plain p) → ((n : ℕ) → Suits n p → BagsSuit n es) → ((n : ℕ) → BagsSuit n es → Suits n p → Suits n r) → Suits (top_of p) r
suits-result p r es o b f g = let k = suits-itself p o b in g (top_of p) (f (top_of p) k) k
