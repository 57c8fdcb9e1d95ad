-- What the table of free variables tells.
use Rattle.std.proofs.Common.{◌≡◌, ℕ, zero, suc, ◌<◌, ◌≤◌, Bool, true, false, not, ◌||◌, ◌&&◌, ◌==◌, if◌then◌else◌, filter, List, [], ◌∷◌, length, map, refl, sym, ap, ◌∙◌, subst, arith, replicate, get_or, slice_set, take, ◌++◌}
use Rattle.std.specs.List.{All, list_any, fold}
use Rattle.std.proofs.lemmas.List.Elements.{All-head, All-tail}
use Rattle.std.proofs.lemmas.Bool.{eqb-true, eq-eqb, false_from_ne_true}
use Rattle.std.proofs.lemmas.List.{length-replicate}
use mathlib.Core.Bool.{beq}
use Rattle.hs_pure.specs.declared.var.Var.{Var}
use Rattle.hs_pure.specs.declared.lin.Lin.{Lin}
use Rattle.hs_pure.specs.declared.bag.Bag.{Bag, map-Bag}
use Rattle.hs_pure.specs.declared.bag.Bag.TheOpen.{Bag-F}
use Rattle.hs_pure.specs.declared.pure.Pure.{Pure, map-Pure}
use Rattle.hs_pure.specs.declared.pure.Pure.TheOpen.{Pure-F}
use Rattle.hs_pure.specs.Stack.{same}
use Rattle.hs_pure.specs.Occurs.{in_lin, in_bag, in_bag_level, is_free, is_free_level}
use Rattle.hs_pure.proofs.Levels.{related, Both, related_bag, BothBag}
use Rattle.hs_heap.proofs.Stacks.{same_sym, same_true}
use Rattle.hs_heap.specs.declared.formula.Atom.{Atom}
use Rattle.hs_heap.specs.declared.formula.Disjunct.{Disjunct}
use Rattle.hs_heap.specs.declared.formula.Formula.{Formula}
use Rattle.hs_heap.specs.Meaning.{is_in}
use Rattle.hs_heap.specs.Variables.{in_atom, is_free_in_disjunct, is_free_in_formula}
use Rattle.hs_norm_item.specs.declared.free.Free.{Free}
use Rattle.hs_norm_item.specs.Claims.{opens_among}
use Rattle.hs_norm_item.specs.Free.{Table, is_told_open, nothing, kind_of, with_kind, told, put_at, tells, put, restored, mark_each, under, mark_vars, mark_lin, mark_bag_level, mark_bag, mark_pure_level, mark_pure, mark_conjuncts, mark_atom, mark_atoms, mark_disjunct, mark_cases}

-- ---- one entry

put_at-length : (fs : Table) (n : ℕ) (bag b : Bool) → length (put_at n bag b fs) ≡ length fs
put_at-length [] n bag b = refl
put_at-length (f ∷ fs) zero bag b = refl
put_at-length (f ∷ fs) (suc n) bag b = ap suc (put_at-length fs n bag b)

zero_apart : (m : ℕ) → (0 == suc m) ≡ false
zero_apart m = false_from_ne_true (0 == suc m) (λ e. let f : 0 ≡ suc m = eqb-true 0 (suc m) e in omega arith)

apart_zero : (n : ℕ) → (suc n == 0) ≡ false
apart_zero n = false_from_ne_true (suc n == 0) (λ e. let f : suc n ≡ 0 = eqb-true (suc n) 0 e in omega arith)

later_same : (n m : ℕ) → (n == m) ≡ (suc n == suc m)
later_same n m = go (n == m) refl
  where
    go : (b : Bool) → (n == m) ≡ b → (n == m) ≡ (suc n == suc m)
    go true e = e ∙ sym (eq-eqb (suc n) (suc m) (ap suc (eqb-true n m e)))
    go false e = e ∙ sym (false_from_ne_true (suc n == suc m) (λ f. let g : suc n ≡ suc m = eqb-true (suc n) (suc m) f in absurd (true_false (sym (eq-eqb n m (omega arith)) ∙ e))))
      where
        true_false : true ≡ false → ⊥
        true_false e = cc

kept_apart : (a b c d : Bool) → c ≡ false → a ≡ (if c && d then b else a)
kept_apart a b c d e = ap (λ c. if c && d then b else a) (sym e)

put_at-told : (fs : Table) (n m : ℕ) (j k b : Bool) → m < length fs → told m k (put_at n j b fs) ≡ (if (n == m) && beq j k then b else told m k fs)
put_at-told [] n m j k b less = absurd (omega arith)
put_at-told (f ∷ fs) zero zero true true b less = refl
put_at-told (f ∷ fs) zero zero true false b less = refl
put_at-told (f ∷ fs) zero zero false true b less = refl
put_at-told (f ∷ fs) zero zero false false b less = refl
put_at-told (f ∷ fs) zero (suc m) j k b less = kept_apart (told m k fs) b (0 == suc m) (beq j k) (zero_apart m)
put_at-told (f ∷ fs) (suc n) zero j k b less = kept_apart (kind_of k f) b (suc n == 0) (beq j k) (apart_zero n)
put_at-told (f ∷ fs) (suc n) (suc m) j k b less = put_at-told fs n m j k b (omega arith) ∙ ap (λ c. if c && beq j k then b else told m k fs) (later_same n m)

put-tells : (u v : Var) (b : Bool) (fs : Table) → v.number < length fs → tells v (put u b fs) ≡ (if same u v then b else tells v fs)
put-tells u v b fs less = put_at-told fs u.number v.number u.bag v.bag b less

told-nothing : (count n : ℕ) (k : Bool) → told n k (replicate count nothing) ≡ false
told-nothing zero n k = refl
told-nothing (suc count) zero true = refl
told-nothing (suc count) zero false = refl
told-nothing (suc count) (suc n) k = told-nothing count n k

-- what the code writes and reads
pub put_is_set : (fs : Table) (n : ℕ) (bag b : Bool) (r d : Free) → n < length fs → r ≡ with_kind bag b (get_or fs n d) → slice_set fs n r ≡ put_at n bag b fs
put_is_set [] n bag b r d less e = absurd (omega arith)
put_is_set (f ∷ fs) zero bag b r d less e = ap (λ x. x ∷ fs) e
put_is_set (f ∷ fs) (suc n) bag b r d less e = ap (λ xs. f ∷ xs) (put_is_set fs n bag b r d (omega arith) e)

pub put_beyond : (fs : Table) (n : ℕ) (bag b : Bool) → length fs ≤ n → fs ≡ put_at n bag b fs
put_beyond [] n bag b le = refl
put_beyond (f ∷ fs) zero bag b le = absurd (omega arith)
put_beyond (f ∷ fs) (suc n) bag b le = ap (λ xs. f ∷ xs) (put_beyond fs n bag b (omega arith))

pub told_is : (fs : Table) (n : ℕ) (k : Bool) (d : Free) → n < length fs → kind_of k (get_or fs n d) ≡ told n k fs
told_is [] n k d less = absurd (omega arith)
told_is (f ∷ fs) zero k d less = refl
told_is (f ∷ fs) (suc n) k d less = told_is fs n k d (omega arith)

pub told_beyond : (fs : Table) (n : ℕ) (k : Bool) → length fs ≤ n → false ≡ told n k fs
told_beyond [] n k le = refl
told_beyond (f ∷ fs) zero k le = absurd (omega arith)
told_beyond (f ∷ fs) (suc n) k le = told_beyond fs n k (omega arith)

-- ---- changes that mark

or_none : (b : Bool) → b ≡ (b || false)
or_none true = refl
or_none false = refl

or_assoc : (a b c : Bool) → ((a || b) || c) ≡ (a || (b || c))
or_assoc true b c = refl
or_assoc false b c = refl

if_or : (c a : Bool) → (if c then true else a) ≡ (a || c)
if_or true true = refl
if_or true false = refl
if_or false true = refl
if_or false false = refl

if_not : (c a b : Bool) → (if c then a else (a || b)) ≡ (a || (not c && b))
if_not true true b = refl
if_not true false b = refl
if_not false a b = refl

module _ (v : Var) where
  -- the change of the table marks v where the test is true, and nothing of v else
  pub record Marks (change : Table → Table) (test : Bool) : Type 0 where
    pub size : (free : Table) → length (change free) ≡ length free
    pub marks : (free : Table) → v.number < length free → tells v (change free) ≡ (tells v free || test)

  marks_nothing : Marks (λ free. free) false
  marks_nothing = record { size = λ free. refl; marks = λ free less. or_none (tells v free) }

  marks_var : (u : Var) → Marks (put u true) (same u v)
  marks_var u = record { size = λ free. put_at-length free u.number u.bag true; marks = λ free less. put-tells u v true free less ∙ if_or (same u v) (tells v free) }

  marks_both : (f g : Table → Table) (a b : Bool) → Marks f a → Marks g b → Marks (λ free. g (f free)) (a || b)
  marks_both f g a b m n = record {
    size = λ free. n.size (f free) ∙ m.size free;
    marks = λ free less.
        n.marks (f free) (subst (λ k. v.number < k) (sym (m.size free)) less)
        ∙ ap (λ c. c || b) (m.marks free less) ∙ or_assoc (tells v free) a b;
  }

  module _ {X : Type 0} (change : X → Table → Table) (test : X → Bool) (each : (x : X) → Marks (change x) (test x)) where
    marks_all : (xs : List X) → Marks (λ free. fold (λ free x. change x free) free xs) (list_any test xs)
    marks_all [] = marks_nothing
    marks_all (x ∷ xs) = marks_both (change x) (λ free. fold (λ free x. change x free) free xs) (test x) (list_any test xs) (each x) (marks_all xs)

  marks_lin : (a : Lin) → Marks (mark_lin a) (in_lin v a)
  marks_lin a = marks_all (λ t. put t.0 true) (λ t. same t.0 v) (λ t. marks_var t.0) a.terms

  marks_bag : (b : Bag) → Marks (mark_bag b) (in_bag v b)
  marks_bag = related_bag Marks mark_bag_level (in_bag_level v) step
    where
      step : (z : Bag-F (BothBag Marks mark_bag_level (in_bag_level v))) →
          Marks (mark_bag_level (map-Bag (BothBag Marks mark_bag_level (in_bag_level v)) (Table → Table) (λ e. e.0) z)) (in_bag_level v (map-Bag (BothBag Marks mark_bag_level (in_bag_level v)) Bool (λ e. e.1.0) z))
      step Bag-F.Empty = marks_nothing
      step (Bag-F.Name u) = marks_var u
      step (Bag-F.One a) = marks_lin a
      step (Bag-F.Union a b) = marks_both a.0 b.0 a.1.0 b.1.0 a.1.1 b.1.1
      step (Bag-F.Inter a b) = marks_both a.0 b.0 a.1.0 b.1.0 a.1.1 b.1.1
      step (Bag-F.Diff a b) = marks_both a.0 b.0 a.1.0 b.1.0 a.1.1 b.1.1

  -- what the table told of u, it tells again
  instead : (u : Var) (free : Table) (x : Bool) → (if same u v then tells u free else x) ≡ (if same u v then tells v free else x)
  instead u free x = by (same u v) refl
    where
      by : (c : Bool) → same u v ≡ c → (if same u v then tells u free else x) ≡ (if same u v then tells v free else x)
      by true e = subst (λ c. (if c then tells u free else x) ≡ (if c then tells v free else x)) (sym e) (ap (λ w. tells w free) (same_true u v e))
      by false e = subst (λ c. (if c then tells u free else x) ≡ (if c then tells v free else x)) (sym e) refl

  marks_under : (u : Var) (f : Table → Table) (b : Bool) → Marks f b → Marks (under u f) (not (same u v) && b)
  marks_under u f b m = record {
    size = λ free. put_at-length (f free) u.number u.bag (tells u free) ∙ m.size free;
    marks = λ free less.
        put-tells u v (tells u free) (f free) (subst (λ k. v.number < k) (sym (m.size free)) less)
        ∙ instead u free (tells v (f free))
        ∙ ap (λ c. if same u v then tells v free else c) (m.marks free less)
        ∙ if_not (same u v) (tells v free) b;
  }

  marks_members : (qs : List (Both Marks mark_pure_level (is_free_level v))) →
      Marks (mark_each (map (λ (e : Both Marks mark_pure_level (is_free_level v)). e.0) qs)) (list_any (λ b. b) (map (λ (e : Both Marks mark_pure_level (is_free_level v)). e.1.0) qs))
  marks_members [] = marks_nothing
  marks_members (q ∷ qs) = marks_both q.0 (mark_each (map (λ (e : Both Marks mark_pure_level (is_free_level v)). e.0) qs)) q.1.0
      (list_any (λ b. b) (map (λ (e : Both Marks mark_pure_level (is_free_level v)). e.1.0) qs)) q.1.1 (marks_members qs)

  marks_pure : (p : Pure) → Marks (mark_pure p) (is_free v p)
  marks_pure = related Marks mark_pure_level (is_free_level v) step
    where
      step : (z : Pure-F (Both Marks mark_pure_level (is_free_level v))) →
          Marks (mark_pure_level (map-Pure (Both Marks mark_pure_level (is_free_level v)) (Table → Table) (λ e. e.0) z)) (is_free_level v (map-Pure (Both Marks mark_pure_level (is_free_level v)) Bool (λ e. e.1.0) z))
      step (Pure-F.Eq a b) = marks_both (mark_lin a) (mark_lin b) (in_lin v a) (in_lin v b) (marks_lin a) (marks_lin b)
      step (Pure-F.Lt a b) = marks_both (mark_lin a) (mark_lin b) (in_lin v a) (in_lin v b) (marks_lin a) (marks_lin b)
      step (Pure-F.Le a b) = marks_both (mark_lin a) (mark_lin b) (in_lin v a) (in_lin v b) (marks_lin a) (marks_lin b)
      step (Pure-F.Divides d a) = marks_lin a
      step (Pure-F.BagEq a b) = marks_both (mark_bag a) (mark_bag b) (in_bag v a) (in_bag v b) (marks_bag a) (marks_bag b)
      step (Pure-F.Subset a b) = marks_both (mark_bag a) (mark_bag b) (in_bag v a) (in_bag v b) (marks_bag a) (marks_bag b)
      step (Pure-F.Member a b) = marks_both (mark_lin a) (mark_bag b) (in_lin v a) (in_bag v b) (marks_lin a) (marks_bag b)
      step (Pure-F.AllOf u b p) = marks_both (mark_bag b) (under u p.0) (in_bag v b) (not (same u v) && p.1.0) (marks_bag b) (marks_under u p.0 p.1.0 p.1.1)
      step (Pure-F.Not p) = p.1.1
      step (Pure-F.And ps) = marks_members ps
      step (Pure-F.Or ps) = marks_members ps
      step (Pure-F.Exists u p) = marks_under u p.0 p.1.0 p.1.1
      step (Pure-F.Forall u p) = marks_under u p.0 p.1.0 p.1.1

  list_any-is_in : (vs : List Var) → list_any (λ u. same u v) vs ≡ is_in v vs
  list_any-is_in [] = refl
  list_any-is_in (w ∷ ws) = λ i. same_sym w v i || list_any-is_in ws i

  marks_vars : (vs : List Var) → Marks (mark_vars vs) (is_in v vs)
  marks_vars vs = subst (Marks (mark_vars vs)) (list_any-is_in vs) (marks_all (λ u. put u true) (λ u. same u v) marks_var vs)

  marks_atom : (a : Atom) → Marks (mark_atom a) (in_atom v a)
  marks_atom a = marks_both (put a.root true) (mark_vars a.args) (same v a.root) (is_in v a.args) (subst (Marks (put a.root true)) (same_sym a.root v) (marks_var a.root)) (marks_vars a.args)

  -- ---- what a disjunct binds

  restored-length : (before : Table) (vs : List Var) (free : Table) → length (restored before vs free) ≡ length free
  restored-length before [] free = refl
  restored-length before (u ∷ us) free = restored-length before us (put u (tells u before) free) ∙ put_at-length free u.number u.bag (tells u before)

  if_either : (c d a b : Bool) → (if d then a else (if c then a else b)) ≡ (if c || d then a else b)
  if_either true true a b = refl
  if_either true false a b = refl
  if_either false true a b = refl
  if_either false false a b = refl

  restored-tells : (before : Table) (vs : List Var) (free : Table) → v.number < length free → tells v (restored before vs free) ≡ (if is_in v vs then tells v before else tells v free)
  restored-tells before [] free less = refl
  restored-tells before (u ∷ us) free less =
      restored-tells before us (put u (tells u before) free) (subst (λ k. v.number < k) (sym (put_at-length free u.number u.bag (tells u before))) less)
      ∙ ap (λ c. if is_in v us then tells v before else c) (put-tells u v (tells u before) free less ∙ instead u before (tells v free))
      ∙ if_either (same u v) (is_in v us) (tells v before) (tells v free)
      ∙ ap (λ c. if c || is_in v us then tells v before else tells v free) (same_sym u v)

  marks_beside : (vs : List Var) (f : Table → Table) (b : Bool) → Marks f b → Marks (λ free. restored free vs (f free)) (not (is_in v vs) && b)
  marks_beside vs f b m = record {
    size = λ free. restored-length free vs (f free) ∙ m.size free;
    marks = λ free less.
        restored-tells free vs (f free) (subst (λ k. v.number < k) (sym (m.size free)) less)
        ∙ ap (λ c. if is_in v vs then tells v free else c) (m.marks free less)
        ∙ if_not (is_in v vs) (tells v free) b;
  }

  marks_disjunct : (d : Disjunct) → Marks (mark_disjunct d) (is_free_in_disjunct v d)
  marks_disjunct d = marks_beside d.bound (λ free. mark_conjuncts d.pure (mark_atoms d.atoms free)) (list_any (in_atom v) d.atoms || list_any (is_free v) d.pure)
      (marks_both (mark_atoms d.atoms) (mark_conjuncts d.pure) (list_any (in_atom v) d.atoms) (list_any (is_free v) d.pure) (marks_all mark_atom (in_atom v) marks_atom d.atoms) (marks_all mark_pure (is_free v) marks_pure d.pure))

  marks_cases : (ds : List Disjunct) → Marks (mark_cases ds) (list_any (is_free_in_disjunct v) ds)
  marks_cases ds = marks_all mark_disjunct (is_free_in_disjunct v) marks_disjunct ds

take_front : (xs ys : Table) → take (length xs) (xs ++ ys) ≡ xs
take_front [] ys = refl
take_front (x ∷ xs) ys = ap (λ zs. x ∷ zs) (take_front xs ys)

-- the table of the numbers below count, changed in place, tells what is free
pub free_vars_tell : (v : Var) (count : ℕ) (f : Formula) (start free rest : Table) (len : ℕ) → start ≡ replicate count nothing → length start ≡ len → free ≡ mark_cases f.cases start → v.number < count →
    tells v (take len (free ++ rest)) ≡ is_free_in_formula v f
free_vars_tell v count f start free rest len s long e less =
    let all = marks_cases v f.cases in
    ap (tells v) (ap (λ k. take k (free ++ rest)) (sym (ap length e ∙ all.size start ∙ long)) ∙ take_front free rest ∙ e ∙ ap (mark_cases f.cases) s)
    ∙ all.marks (replicate count nothing) (subst (λ k. v.number < k) (sym (length-replicate count nothing)) less)
    ∙ ap (λ b. b || is_free_in_formula v f) (told-nothing count v.number v.bag)

-- what two tables tell of these variables is what is open among them
pub told_open : (vars : List Var) (count : ℕ) (left right : Formula) (on_left on_right : Table) → All (λ v. v.number < count) vars →
    ((v : Var) → v.number < count → tells v on_left ≡ is_free_in_formula v left) → ((v : Var) → v.number < count → tells v on_right ≡ is_free_in_formula v right) →
    filter (is_told_open on_left on_right) vars ≡ opens_among vars left right
told_open [] count left right on_left on_right below l r = refl
told_open (v ∷ vs) count left right on_left on_right below l r =
    let here = All-head (λ v. v.number < count) v vs below in
    let rest = told_open vs count left right on_left on_right (All-tail (λ v. v.number < count) v vs below) l r in
    λ j. if r v here j && not (l v here j) then v ∷ rest j else rest j
