-- What holds at a stack where variables are worth their bags.
use Rattle.std.proofs.Common.{◌≡◌, ◌↔◌, ℕ, ◌+◌, ◌-◌, min, ◌<◌, ◌≤◌, ℤ, Bool, true, false, List, [], ◌∷◌, ◌++◌, map, inl, inr, ⊎_elim, refl, sym, ap, ◌∙◌, subst, if◌then◌else◌}
use Rattle.std.specs.List.{All}
use Rattle.std.proofs.lemmas.List.Elements.{All-head, All-tail, All-nil, All-cons, All-map, All-weaker, All-append}
use Rattle.hs_pure.specs.declared.var.Var.{Var}
use Rattle.hs_pure.specs.declared.bag.Bag.{Bag}
use Rattle.hs_pure.specs.declared.pure.Pure.{Pure}
use Rattle.hs_pure.specs.Assertion.{BagTerm, empty, name, one, union, inter, diff, Assertion, truth, eq, lt, le, divides, bag_eq, subset, member, all_of, negation, both, either, exists, forall, bag_term_of, assertion_of}
use Rattle.hs_pure.specs.Stack.{Stack, same}
use Rattle.hs_pure.specs.Truth.{value, count, IsTrueAt, TrueAt}
use Rattle.hs_pure.proofs.Vars.{same-eq}
use Rattle.hs_pure.proofs.Truths.{All-map_back}
use Rattle.hs_bag_equations.specs.Placing.{bag_for, put_bags, put_in_place, read, read_put, AreAlike, AreWorth}

-- a pair of a variable and a bag says what the variable is worth
abbrev IsWorth : Stack → Var × BagTerm → Type 0
IsWorth s e = AreAlike s (name e.0) e.1

abbrev IsWorthOf : Stack → Var × Bag → Type 0
IsWorthOf s e = IsWorth s (read e)

module _ (s : Stack) where
  -- the bag that stands for a variable is worth it
  bag_for-worth : (es : List (Var × Bag)) → All (IsWorthOf s) es → (v : Var) → AreAlike s (bag_for es v) (name v)
  bag_for-worth [] h v x = refl
  bag_for-worth (e ∷ es) h v x = by_test (bag_for-worth es (All-tail (IsWorthOf s) e es h) v x) (same e.0 v) refl
    where
      by_test : count s (bag_for es v) x ≡ count s (name v) x → (b : Bool) → same e.0 v ≡ b → count s (if same e.0 v then bag_term_of e.1 else bag_for es v) x ≡ count s (name v) x
      by_test later true is =
          let here : count s (name e.0) x ≡ count s (bag_term_of e.1) x = All-head (IsWorthOf s) e es h x in
          rw is (sym here ∙ ap (λ u. count s (name u) x) (same-eq e.0 v is))
      by_test later false isnt = rw isnt later

  module _ (es : List (Var × Bag)) (h : AreWorth s es) where
    -- bags that are put in place keep the counts
    pub count-put : (b : BagTerm) → AreAlike s (put_bags es b) b
    count-put empty x = refl
    count-put (name v) x = bag_for-worth es h.each v x
    count-put (one a) x = refl
    count-put (union a b) x = λ i. count-put a x i + count-put b x i
    count-put (inter a b) x = λ i. min (count-put a x i) (count-put b x i)
    count-put (diff a b) x = λ i. count-put a x i - count-put b x i

    bags-put : (R : ℕ → ℕ → Type 0) (a b : BagTerm) →
        ((x : ℤ) → R (count s (put_bags es a) x) (count s (put_bags es b) x)) ↔ ((x : ℤ) → R (count s a x) (count s b x))
    bags-put R a b = (
      λ k x. subst (λ n. R n (count s b x)) (count-put a x) (subst (R (count s (put_bags es a) x)) (count-put b x) (k x)),
      λ k x. subst (λ n. R n (count s (put_bags es b) x)) (sym (count-put a x)) (subst (R (count s a x)) (sym (count-put b x)) (k x)),
    )

    -- and the truth
    pub true-put : (p : Assertion) → IsTrueAt s (put_in_place es p) ↔ IsTrueAt s p
    true-put truth = (λ t. t, λ t. t)
    true-put (eq a b) = (λ t. t, λ t. t)
    true-put (lt a b) = (λ t. t, λ t. t)
    true-put (le a b) = (λ t. t, λ t. t)
    true-put (divides d a) = (λ t. t, λ t. t)
    true-put (bag_eq a b) = bags-put (λ m n. m ≡ n) a b
    true-put (subset a b) = bags-put (λ m n. m ≤ n) a b
    true-put (member a b) = let e = count-put b (value s a) in (subst (λ n. 0 < n) e, subst (λ n. 0 < n) (sym e))
    true-put (all_of u b p) = (
      λ all x m. all x (subst (λ n. 0 < n) (sym (count-put b x)) m),
      λ all x m. all x (subst (λ n. 0 < n) (count-put b x) m),
    )
    true-put (negation p) = let ih = true-put p in (λ no y. no (ih.1 y), λ no y. no (ih.0 y))
    true-put (both p q) = let ip = true-put p in let iq = true-put q in (λ t. (ip.0 t.0, iq.0 t.1), λ t. (ip.1 t.0, iq.1 t.1))
    true-put (either p q) = let ip = true-put p in let iq = true-put q in (
      ⊎_elim (λ t. inl (ip.0 t)) (λ t. inr (iq.0 t)),
      ⊎_elim (λ t. inl (ip.1 t)) (λ t. inr (iq.1 t)),
    )
    true-put (exists u p) = (λ t. t, λ t. t)
    true-put (forall u p) = (λ t. t, λ t. t)

  -- a formula that is read as one that is put in place
  pub true-placed : (p r : Pure) (es : List (Var × Bag)) → assertion_of r ≡ put_in_place es (assertion_of p) → AreWorth s es → TrueAt s p → TrueAt s r
  true-placed p r es e h t = subst (IsTrueAt s) (sym e) ((true-put es h (assertion_of p)).1 t)

  -- equations with others put in place
  worth-replaced : (rs es last : List (Var × Bag)) → map read rs ≡ map (read_put last) es → AreWorth s last → AreWorth s es → All (IsWorthOf s) rs
  worth-replaced rs es last e h k =
      let put : All (λ (d : Var × Bag). IsWorth s (read_put last d)) es = All-weaker (IsWorthOf s) (λ d. IsWorth s (read_put last d)) (λ d w x. w x ∙ sym (count-put last h (bag_term_of d.1) x)) es k.each in
      All-map_back (IsWorth s) read rs (subst (All (IsWorth s)) (sym e) (All-map (IsWorth s) (read_put last) es put))

  pub worth-none : (es : List (Var × Bag)) → es ≡ [] → AreWorth s es
  worth-none es e = record { each = subst (All (IsWorthOf s)) (sym e) (All-nil (IsWorthOf s)) }

  pub worth-one : (v : Var) (b : Bag) (es : List (Var × Bag)) → es ≡ (v, b) ∷ [] → AreAlike s (name v) (bag_term_of b) → AreWorth s es
  worth-one v b es e h = record { each = subst (All (IsWorthOf s)) (sym e) (All-cons (IsWorthOf s) (v, b) [] h (All-nil (IsWorthOf s))) }

  pub worth-extended : (all rs es last : List (Var × Bag)) → all ≡ rs ++ last → map read rs ≡ map (read_put last) es → AreWorth s last → AreWorth s es → AreWorth s all
  worth-extended all rs es last is e h k = record { each = subst (All (IsWorthOf s)) (sym is) (All-append (IsWorthOf s) rs last (worth-replaced rs es last e h k) h.each) }

  -- two bags that are alike, one of which is a variable once equations are put in place in both
  pub alike-named : (es : List (Var × Bag)) → AreWorth s es → (a b c d : Bag) (v : Var) → bag_term_of c ≡ put_bags es (bag_term_of a) → bag_term_of d ≡ put_bags es (bag_term_of b)
      → bag_term_of c ≡ name v → AreAlike s (bag_term_of a) (bag_term_of b) → AreAlike s (name v) (bag_term_of d)
  alike-named es h a b c d v e f is k x =
      let first : count s (name v) x ≡ count s (bag_term_of a) x = ap (λ t. count s t x) (sym is ∙ e) ∙ count-put es h (bag_term_of a) x in
      let second : count s (bag_term_of d) x ≡ count s (bag_term_of b) x = ap (λ t. count s t x) f ∙ count-put es h (bag_term_of b) x in
      first ∙ k x ∙ sym second
