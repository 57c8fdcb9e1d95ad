-- Which variables are free in a formula, in a table by number.
use Rattle.std.specs.Prelude.{ℕ, zero, suc, Bool, true, false, not, ◌&&◌, List, [], ◌∷◌}
use Rattle.std.specs.List.{fold}
use Rattle.hs_pure.specs.declared.var.Var.{Var}
use Rattle.hs_pure.specs.declared.lin.Lin.{Lin}
use Rattle.hs_pure.specs.declared.bag.Bag.{Bag, fold-Bag}
use Rattle.hs_pure.specs.declared.bag.Bag.TheOpen.{Bag-F}
use Rattle.hs_pure.specs.declared.pure.Pure.{Pure, fold-Pure}
use Rattle.hs_pure.specs.declared.pure.Pure.TheOpen.{Pure-F}
use Rattle.hs_heap.specs.declared.formula.Atom.{Atom}
use Rattle.hs_heap.specs.declared.formula.Disjunct.{Disjunct}
use Rattle.hs_norm_item.specs.declared.free.Free.{Free}

-- ---- tables

abbrev pub Table : Type 0
Table = List Free

abbrev pub nothing : Free
nothing = record { number = false; bag = false }

abbrev pub kind_of : Bool → Free → Bool
kind_of true f = f.bag
kind_of false f = f.number

abbrev pub with_kind : Bool → Bool → Free → Free
with_kind true b f = record { number = f.number; bag = b }
with_kind false b f = record { number = b; bag = f.bag }

-- what the table tells of a number and a kind
abbrev pub told : ℕ → Bool → Table → Bool
told n bag [] = false
told zero bag (f ∷ fs) = kind_of bag f
told (suc n) bag (f ∷ fs) = told n bag fs

-- the table that tells b of them
abbrev pub put_at : ℕ → Bool → Bool → Table → Table
put_at n bag b [] = []
put_at zero bag b (f ∷ fs) = with_kind bag b f ∷ fs
put_at (suc n) bag b (f ∷ fs) = f ∷ put_at n bag b fs

abbrev pub tells : Var → Table → Bool
tells v free = told v.number v.bag free

abbrev pub put : Var → Bool → Table → Table
put v b free = put_at v.number v.bag b free

-- whether the right table tells v and the left one doesn't
abbrev pub is_told_open : Table → Table → Var → Bool
is_told_open left right v = tells v right && not (tells v left)

-- of these variables it tells what it told before
abbrev pub restored : Table → List Var → Table → Table
restored before vs free = fold (λ free v. put v (tells v before) free) free vs

-- ---- what is free is marked

-- one after another
abbrev pub mark_each : List (Table → Table) → Table → Table
mark_each marks free = fold (λ free mark. mark free) free marks

-- what a change marks beside the variable that is bound
abbrev pub under : Var → (Table → Table) → Table → Table
under u mark free = put u (tells u free) (mark free)

abbrev pub mark_vars : List Var → Table → Table
mark_vars vs free = fold (λ free v. put v true free) free vs

abbrev pub mark_lin : Lin → Table → Table
mark_lin a free = fold (λ free t. put t.0 true free) free a.terms

abbrev pub mark_bag_level : Bag-F (Table → Table) → Table → Table
mark_bag_level Bag-F.Empty free = free
mark_bag_level (Bag-F.Name v) free = put v true free
mark_bag_level (Bag-F.One a) free = mark_lin a free
mark_bag_level (Bag-F.Union a b) free = b (a free)
mark_bag_level (Bag-F.Inter a b) free = b (a free)
mark_bag_level (Bag-F.Diff a b) free = b (a free)

abbrev pub mark_bag : Bag → Table → Table
mark_bag = fold-Bag (Table → Table) mark_bag_level

abbrev pub mark_pure_level : Pure-F (Table → Table) → Table → Table
mark_pure_level (Pure-F.Eq a b) free = mark_lin b (mark_lin a free)
mark_pure_level (Pure-F.Lt a b) free = mark_lin b (mark_lin a free)
mark_pure_level (Pure-F.Le a b) free = mark_lin b (mark_lin a free)
mark_pure_level (Pure-F.Divides d a) free = mark_lin a free
mark_pure_level (Pure-F.BagEq a b) free = mark_bag b (mark_bag a free)
mark_pure_level (Pure-F.Subset a b) free = mark_bag b (mark_bag a free)
mark_pure_level (Pure-F.Member a b) free = mark_bag b (mark_lin a free)
mark_pure_level (Pure-F.AllOf u b p) free = under u p (mark_bag b free)
mark_pure_level (Pure-F.Not p) free = p free
mark_pure_level (Pure-F.And ps) free = mark_each ps free
mark_pure_level (Pure-F.Or ps) free = mark_each ps free
mark_pure_level (Pure-F.Exists u p) free = under u p free
mark_pure_level (Pure-F.Forall u p) free = under u p free

abbrev pub mark_pure : Pure → Table → Table
mark_pure = fold-Pure (Table → Table) mark_pure_level

abbrev pub mark_conjuncts : List Pure → Table → Table
mark_conjuncts ps free = fold (λ free p. mark_pure p free) free ps

abbrev pub mark_atom : Atom → Table → Table
mark_atom a free = mark_vars a.args (put a.root true free)

abbrev pub mark_atoms : List Atom → Table → Table
mark_atoms atoms free = fold (λ free a. mark_atom a free) free atoms

abbrev pub mark_disjunct : Disjunct → Table → Table
mark_disjunct d free = restored free d.bound (mark_conjuncts d.pure (mark_atoms d.atoms free))

abbrev pub mark_cases : List Disjunct → Table → Table
mark_cases ds free = fold (λ free d. mark_disjunct d free) free ds
