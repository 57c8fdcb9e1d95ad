-- Which variables occur, in a table by number.
use Rattle.std.specs.Prelude.{ℕ, zero, suc, Bool, true, false, List, [], ◌∷◌}
use Rattle.std.specs.List.{fold}
use Rattle.hs_pure.specs.declared.var.Var.{Var}
use Rattle.hs_pure.specs.declared.lin.Lin.{Lin}
use Rattle.hs_pure.specs.declared.bag.Bag.{Bag, fold-Bag}
use Rattle.hs_pure.specs.declared.bag.Bag.TheOpen.{Bag-F}
use Rattle.hs_pure.specs.declared.pure.Pure.{Pure, fold-Pure}
use Rattle.hs_pure.specs.declared.pure.Pure.TheOpen.{Pure-F}
use Rattle.hs_heap.specs.declared.formula.Atom.{Atom}
use Rattle.hs_heap.specs.declared.formula.Disjunct.{Disjunct}
use Rattle.hs_heap.specs.declared.seen.Seen.{Seen}

abbrev pub nothing_seen : Seen
nothing_seen = record { number = false; bag = false }

-- one more variable of this number
abbrev pub seen_with : Bool → Seen → Seen
seen_with true s = record { number = s.number; bag = true }
seen_with false s = record { number = true; bag = s.bag }

-- the table with a variable of the number n marked
abbrev pub put_seen : ℕ → Bool → List Seen → List Seen
put_seen n bag [] = []
put_seen zero bag (s ∷ ss) = seen_with bag s ∷ ss
put_seen (suc n) bag (s ∷ ss) = s ∷ put_seen n bag ss

abbrev pub marked : Var → List Seen → List Seen
marked v seen = put_seen v.number v.bag seen

-- one after another
abbrev pub mark_each : List (List Seen → List Seen) → List Seen → List Seen
mark_each marks seen = fold (λ seen mark. mark seen) seen marks

abbrev pub mark_vars : List Var → List Seen → List Seen
mark_vars vs seen = fold (λ seen v. marked v seen) seen vs

abbrev pub mark_lin : Lin → List Seen → List Seen
mark_lin a seen = fold (λ seen t. marked t.0 seen) seen a.terms

abbrev pub mark_bag_level : Bag-F (List Seen → List Seen) → List Seen → List Seen
mark_bag_level Bag-F.Empty seen = seen
mark_bag_level (Bag-F.Name v) seen = marked v seen
mark_bag_level (Bag-F.One a) seen = mark_lin a seen
mark_bag_level (Bag-F.Union a b) seen = b (a seen)
mark_bag_level (Bag-F.Inter a b) seen = b (a seen)
mark_bag_level (Bag-F.Diff a b) seen = b (a seen)

abbrev pub mark_bag : Bag → List Seen → List Seen
mark_bag = fold-Bag (List Seen → List Seen) mark_bag_level

abbrev pub mark_pure_level : Pure-F (List Seen → List Seen) → List Seen → List Seen
mark_pure_level (Pure-F.Eq a b) seen = mark_lin b (mark_lin a seen)
mark_pure_level (Pure-F.Lt a b) seen = mark_lin b (mark_lin a seen)
mark_pure_level (Pure-F.Le a b) seen = mark_lin b (mark_lin a seen)
mark_pure_level (Pure-F.Divides d a) seen = mark_lin a seen
mark_pure_level (Pure-F.BagEq a b) seen = mark_bag b (mark_bag a seen)
mark_pure_level (Pure-F.Subset a b) seen = mark_bag b (mark_bag a seen)
mark_pure_level (Pure-F.Member a b) seen = mark_bag b (mark_lin a seen)
mark_pure_level (Pure-F.AllOf u b p) seen = p (marked u (mark_bag b seen))
mark_pure_level (Pure-F.Not p) seen = p seen
mark_pure_level (Pure-F.And ps) seen = mark_each ps seen
mark_pure_level (Pure-F.Or ps) seen = mark_each ps seen
mark_pure_level (Pure-F.Exists u p) seen = p (marked u seen)
mark_pure_level (Pure-F.Forall u p) seen = p (marked u seen)

-- the table with what occurs in a formula marked, bound or free
abbrev pub mark_pure : Pure → List Seen → List Seen
mark_pure = fold-Pure (List Seen → List Seen) mark_pure_level

abbrev pub mark_conjuncts : List Pure → List Seen → List Seen
mark_conjuncts ps seen = fold (λ seen p. mark_pure p seen) seen ps

abbrev pub mark_atom : Atom → List Seen → List Seen
mark_atom a seen = mark_vars a.args (marked a.root seen)

abbrev pub mark_atoms : List Atom → List Seen → List Seen
mark_atoms atoms seen = fold (λ seen a. mark_atom a seen) seen atoms

abbrev pub mark_disjunct : Disjunct → List Seen → List Seen
mark_disjunct d seen = mark_conjuncts d.pure (mark_atoms d.atoms (mark_vars d.bound seen))

abbrev pub mark_cases : List Disjunct → List Seen → List Seen
mark_cases ds seen = fold (λ seen d. mark_disjunct d seen) seen ds
