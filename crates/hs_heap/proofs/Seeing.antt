-- What the table of numbers tells.
use Rattle.std.proofs.Common.{◌≡◌, ℕ, zero, suc, ◌<◌, ◌≤◌, Bool, true, false, ◌||◌, ◌&&◌, ◌==◌, List, [], ◌∷◌, length, map, refl, sym, ap, ◌∙◌, subst, arith, replicate, get_or, slice_set, take, ◌++◌}
use Rattle.std.specs.List.{list_any, fold}
use Rattle.std.proofs.lemmas.Bool.{eqb-true, eq-eqb, false_from_ne_true}
use mathlib.Core.Bool.{beq}
use Rattle.hs_pure.specs.declared.var.Var.{Var}
use Rattle.hs_pure.specs.declared.lin.Lin.{Lin}
use Rattle.hs_pure.specs.declared.bag.Bag.{Bag, map-Bag}
use Rattle.hs_pure.specs.declared.bag.Bag.TheOpen.{Bag-F}
use Rattle.hs_pure.specs.declared.pure.Pure.{Pure, map-Pure}
use Rattle.hs_pure.specs.declared.pure.Pure.TheOpen.{Pure-F}
use Rattle.hs_pure.specs.Stack.{same}
use Rattle.hs_pure.specs.Occurs.{in_lin, in_bag, in_bag_level, occurs, occurs_level}
use Rattle.hs_pure.proofs.Levels.{related, Both, related_bag, BothBag}
use Rattle.std.proofs.lemmas.List.{length-replicate}
use Rattle.hs_heap.proofs.Stacks.{same_sym}
use Rattle.hs_heap.proofs.Booleans.{clash}
use Rattle.hs_heap.specs.declared.formula.Atom.{Atom}
use Rattle.hs_heap.specs.declared.formula.Disjunct.{Disjunct}
use Rattle.hs_heap.specs.declared.seen.Seen.{Seen}
use Rattle.hs_heap.specs.Meaning.{is_in}
use Rattle.hs_heap.specs.Variables.{in_atom, occurs_in_disjunct}
use Rattle.hs_heap.specs.Seen.{nothing_seen, seen_with, put_seen, marked, mark_each, mark_vars, mark_lin, mark_bag_level, mark_bag, mark_pure_level, mark_pure, mark_conjuncts, mark_atom, mark_atoms, mark_disjunct, mark_cases}

-- what the table says of a number and a kind
abbrev pub seen_at : List Seen → ℕ → Bool → Bool
seen_at [] n bag = false
seen_at (s ∷ ss) zero true = s.bag
seen_at (s ∷ ss) zero false = s.number
seen_at (s ∷ ss) (suc n) bag = seen_at ss n bag

put-length : (ss : List Seen) (n : ℕ) (bag : Bool) → length (put_seen n bag ss) ≡ length ss
put-length [] n bag = refl
put-length (s ∷ ss) zero bag = refl
put-length (s ∷ ss) (suc n) bag = ap suc (put-length ss n bag)

or_none : (b : Bool) → b ≡ (b || false)
or_none true = refl
or_none false = refl

or_one : (b : Bool) → true ≡ (b || true)
or_one true = refl
or_one false = refl

or_assoc : (a b c : Bool) → ((a || b) || c) ≡ (a || (b || c))
or_assoc true b c = refl
or_assoc false b c = refl

zero_apart : (m : ℕ) → (0 == suc m) ≡ false
zero_apart m = false_from_ne_true (0 == suc m) (λ e. let f : 0 ≡ suc m = eqb-true 0 (suc m) e in omega arith)

apart_zero : (n : ℕ) → (suc n == 0) ≡ false
apart_zero n = false_from_ne_true (suc n == 0) (λ e. let f : suc n ≡ 0 = eqb-true (suc n) 0 e in omega arith)

later_same : (n m : ℕ) → (n == m) ≡ (suc n == suc m)
later_same n m = go (n == m) refl
  where
    go : (b : Bool) → (n == m) ≡ b → (n == m) ≡ (suc n == suc m)
    go true e = e ∙ sym (eq-eqb (suc n) (suc m) (ap suc (eqb-true n m e)))
    go false e = e ∙ sym (false_from_ne_true (suc n == suc m) (λ f. let g : suc n ≡ suc m = eqb-true (suc n) (suc m) f in clash (eq-eqb n m (omega arith)) e))

not_here : (a b c : Bool) → b ≡ false → a ≡ (a || (b && c))
not_here a b c e = or_none a ∙ ap (λ d. a || (d && c)) (sym e)

put-seen_at : (ss : List Seen) (n m : ℕ) (j k : Bool) → m < length ss → seen_at (put_seen n j ss) m k ≡ (seen_at ss m k || ((n == m) && beq j k))
put-seen_at [] n m j k less = absurd (omega arith)
put-seen_at (s ∷ ss) zero zero true true less = or_one s.bag
put-seen_at (s ∷ ss) zero zero true false less = or_none s.number
put-seen_at (s ∷ ss) zero zero false true less = or_none s.bag
put-seen_at (s ∷ ss) zero zero false false less = or_one s.number
put-seen_at (s ∷ ss) zero (suc m) j k less = not_here (seen_at ss m k) (0 == suc m) (beq j k) (zero_apart m)
put-seen_at (s ∷ ss) (suc n) zero j true less = not_here s.bag (suc n == 0) (beq j true) (apart_zero n)
put-seen_at (s ∷ ss) (suc n) zero j false less = not_here s.number (suc n == 0) (beq j false) (apart_zero n)
put-seen_at (s ∷ ss) (suc n) (suc m) j k less = put-seen_at ss n m j k (omega arith) ∙ ap (λ b. seen_at ss m k || (b && beq j k)) (later_same n m)

pub seen_at-nothing : (count n : ℕ) (k : Bool) → seen_at (replicate count nothing_seen) n k ≡ false
seen_at-nothing zero n k = refl
seen_at-nothing (suc count) zero true = refl
seen_at-nothing (suc count) zero false = refl
seen_at-nothing (suc count) (suc n) k = seen_at-nothing count n k

module _ (v : Var) where
  -- the change of the table marks v where the test is true, and nothing of v else
  pub record Marks (change : List Seen → List Seen) (test : Bool) : Type 0 where
    pub size : (seen : List Seen) → length (change seen) ≡ length seen
    pub sees : (seen : List Seen) → v.number < length seen → seen_at (change seen) v.number v.bag ≡ (seen_at seen v.number v.bag || test)

  marks_nothing : Marks (λ seen. seen) false
  marks_nothing = record { size = λ seen. refl; sees = λ seen less. or_none (seen_at seen v.number v.bag) }

  marks_var : (u : Var) → Marks (marked u) (same u v)
  marks_var u = record { size = λ seen. put-length seen u.number u.bag; sees = λ seen less. put-seen_at seen u.number v.number u.bag v.bag less }

  marks_both : (f g : List Seen → List Seen) (a b : Bool) → Marks f a → Marks g b → Marks (λ seen. g (f seen)) (a || b)
  marks_both f g a b m n = record {
    size = λ seen. n.size (f seen) ∙ m.size seen;
    sees = λ seen less.
        n.sees (f seen) (subst (λ k. v.number < k) (sym (m.size seen)) less)
        ∙ ap (λ c. c || b) (m.sees seen less) ∙ or_assoc (seen_at seen v.number v.bag) a b;
  }

  module _ {X : Type 0} (change : X → List Seen → List Seen) (test : X → Bool) (each : (x : X) → Marks (change x) (test x)) where
    marks_all : (xs : List X) → Marks (λ seen. fold (λ seen x. change x seen) seen xs) (list_any test xs)
    marks_all [] = marks_nothing
    marks_all (x ∷ xs) = marks_both (change x) (λ seen. fold (λ seen x. change x seen) seen xs) (test x) (list_any test xs) (each x) (marks_all xs)

  marks_lin : (a : Lin) → Marks (mark_lin a) (in_lin v a)
  marks_lin a = marks_all (λ t. marked t.0) (λ t. same t.0 v) (λ t. marks_var t.0) a.terms

  marks_bag : (b : Bag) → Marks (mark_bag b) (in_bag v b)
  marks_bag = related_bag Marks mark_bag_level (in_bag_level v) step
    where
      step : (z : Bag-F (BothBag Marks mark_bag_level (in_bag_level v))) →
          Marks (mark_bag_level (map-Bag (BothBag Marks mark_bag_level (in_bag_level v)) (List Seen → List Seen) (λ e. e.0) z)) (in_bag_level v (map-Bag (BothBag Marks mark_bag_level (in_bag_level v)) Bool (λ e. e.1.0) z))
      step Bag-F.Empty = marks_nothing
      step (Bag-F.Name u) = marks_var u
      step (Bag-F.One a) = marks_lin a
      step (Bag-F.Union a b) = marks_both a.0 b.0 a.1.0 b.1.0 a.1.1 b.1.1
      step (Bag-F.Inter a b) = marks_both a.0 b.0 a.1.0 b.1.0 a.1.1 b.1.1
      step (Bag-F.Diff a b) = marks_both a.0 b.0 a.1.0 b.1.0 a.1.1 b.1.1

  -- a binder, and what it binds in
  marks_under : (u : Var) (f : List Seen → List Seen) (b : Bool) → Marks f b → Marks (λ seen. f (marked u seen)) (same u v || b)
  marks_under u f b m = marks_both (marked u) f (same u v) b (marks_var u) m

  marks_members : (qs : List (Both Marks mark_pure_level (occurs_level v))) →
      Marks (mark_each (map (λ (e : Both Marks mark_pure_level (occurs_level v)). e.0) qs)) (list_any (λ b. b) (map (λ (e : Both Marks mark_pure_level (occurs_level v)). e.1.0) qs))
  marks_members [] = marks_nothing
  marks_members (q ∷ qs) = marks_both q.0 (mark_each (map (λ (e : Both Marks mark_pure_level (occurs_level v)). e.0) qs)) q.1.0
      (list_any (λ b. b) (map (λ (e : Both Marks mark_pure_level (occurs_level v)). e.1.0) qs)) q.1.1 (marks_members qs)

  pub marks_pure : (p : Pure) → Marks (mark_pure p) (occurs v p)
  marks_pure = related Marks mark_pure_level (occurs_level v) step
    where
      step : (z : Pure-F (Both Marks mark_pure_level (occurs_level v))) →
          Marks (mark_pure_level (map-Pure (Both Marks mark_pure_level (occurs_level v)) (List Seen → List Seen) (λ e. e.0) z)) (occurs_level v (map-Pure (Both Marks mark_pure_level (occurs_level v)) Bool (λ e. e.1.0) z))
      step (Pure-F.Eq a b) = marks_both (mark_lin a) (mark_lin b) (in_lin v a) (in_lin v b) (marks_lin a) (marks_lin b)
      step (Pure-F.Lt a b) = marks_both (mark_lin a) (mark_lin b) (in_lin v a) (in_lin v b) (marks_lin a) (marks_lin b)
      step (Pure-F.Le a b) = marks_both (mark_lin a) (mark_lin b) (in_lin v a) (in_lin v b) (marks_lin a) (marks_lin b)
      step (Pure-F.Divides d a) = marks_lin a
      step (Pure-F.BagEq a b) = marks_both (mark_bag a) (mark_bag b) (in_bag v a) (in_bag v b) (marks_bag a) (marks_bag b)
      step (Pure-F.Subset a b) = marks_both (mark_bag a) (mark_bag b) (in_bag v a) (in_bag v b) (marks_bag a) (marks_bag b)
      step (Pure-F.Member a b) = marks_both (mark_lin a) (mark_bag b) (in_lin v a) (in_bag v b) (marks_lin a) (marks_bag b)
      step (Pure-F.AllOf u b p) = marks_both (mark_bag b) (λ seen. p.0 (marked u seen)) (in_bag v b) (same u v || p.1.0) (marks_bag b) (marks_under u p.0 p.1.0 p.1.1)
      step (Pure-F.Not p) = p.1.1
      step (Pure-F.And ps) = marks_members ps
      step (Pure-F.Or ps) = marks_members ps
      step (Pure-F.Exists u p) = marks_under u p.0 p.1.0 p.1.1
      step (Pure-F.Forall u p) = marks_under u p.0 p.1.0 p.1.1

  list_any-is_in : (vs : List Var) → list_any (λ u. same u v) vs ≡ is_in v vs
  list_any-is_in [] = refl
  list_any-is_in (w ∷ ws) = λ i. same_sym w v i || list_any-is_in ws i

  marks_vars : (vs : List Var) → Marks (mark_vars vs) (is_in v vs)
  marks_vars vs = subst (Marks (mark_vars vs)) (list_any-is_in vs) (marks_all marked (λ u. same u v) marks_var vs)

  marks_atom : (a : Atom) → Marks (mark_atom a) (in_atom v a)
  marks_atom a = marks_both (marked a.root) (mark_vars a.args) (same v a.root) (is_in v a.args) (subst (Marks (marked a.root)) (same_sym a.root v) (marks_var a.root)) (marks_vars a.args)

  pub marks_disjunct : (d : Disjunct) → Marks (mark_disjunct d) (occurs_in_disjunct v d)
  marks_disjunct d = marks_both (mark_vars d.bound) (λ seen. mark_conjuncts d.pure (mark_atoms d.atoms seen)) (is_in v d.bound) (list_any (in_atom v) d.atoms || list_any (occurs v) d.pure) (marks_vars d.bound)
      (marks_both (mark_atoms d.atoms) (mark_conjuncts d.pure) (list_any (in_atom v) d.atoms) (list_any (occurs v) d.pure) (marks_all mark_atom (in_atom v) marks_atom d.atoms) (marks_all mark_pure (occurs v) marks_pure d.pure))

  pub marks_cases : (ds : List Disjunct) → Marks (mark_cases ds) (list_any (occurs_in_disjunct v) ds)
  marks_cases ds = marks_all mark_disjunct (occurs_in_disjunct v) marks_disjunct ds

-- in the table of what a change marks stands what it marks
pub seen_where : (v : Var) (change : List Seen → List Seen) (test : Bool) (count : ℕ) → Marks v change test → v.number < count → seen_at (change (replicate count nothing_seen)) v.number v.bag ≡ test
seen_where v change test count m less =
    m.sees (replicate count nothing_seen) (subst (λ k. v.number < k) (sym (length-replicate count nothing_seen)) less)
    ∙ ap (λ b. b || test) (seen_at-nothing count v.number v.bag)

-- ---- one mark

pub put_is_set : (ss : List Seen) (n : ℕ) (bag : Bool) (r d : Seen) → n < length ss → r ≡ seen_with bag (get_or ss n d) → slice_set ss n r ≡ put_seen n bag ss
put_is_set [] n bag r d less e = absurd (omega arith)
put_is_set (s ∷ ss) zero bag r d less e = ap (λ x. x ∷ ss) e
put_is_set (s ∷ ss) (suc n) bag r d less e = ap (λ xs. s ∷ xs) (put_is_set ss n bag r d (omega arith) e)

pub put_beyond : (ss : List Seen) (n : ℕ) (bag : Bool) → length ss ≤ n → ss ≡ put_seen n bag ss
put_beyond [] n bag le = refl
put_beyond (s ∷ ss) zero bag le = absurd (omega arith)
put_beyond (s ∷ ss) (suc n) bag le = ap (λ xs. s ∷ xs) (put_beyond ss n bag (omega arith))

take_front : (xs ys : List Seen) → take (length xs) (xs ++ ys) ≡ xs
take_front [] ys = refl
take_front (x ∷ xs) ys = ap (λ zs. x ∷ zs) (take_front xs ys)

-- a table that is changed in place is the changed one
pub written : (change : List Seen → List Seen) (start new rest : List Seen) (len : ℕ) → ((seen : List Seen) → length (change seen) ≡ length seen) →
    new ≡ change start → length start ≡ len → take len (new ++ rest) ≡ new
written change start new rest len size is from = ap (λ k. take k (new ++ rest)) (sym from ∙ sym (size start) ∙ sym (ap length is)) ∙ take_front new rest
