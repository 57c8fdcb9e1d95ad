-- Pure formulas as plain data, into which the program's formulas are read.
use Rattle.std.specs.Prelude.{ℤ, List, [], ◌∷◌}
use Rattle.std.specs.List.{fold}
use Rattle.hs_pure.specs.declared.var.Var.{Var}
use Rattle.hs_pure.specs.declared.lin.Lin.{Lin}
use Rattle.hs_pure.specs.declared.bag.Bag.{Bag, fold-Bag}
use Rattle.hs_pure.specs.declared.bag.Bag.TheOpen.{Bag-F}
use Rattle.hs_pure.specs.declared.pure.Pure.{Pure, fold-Pure}
use Rattle.hs_pure.specs.declared.pure.Pure.TheOpen.{Pure-F}

pub data BagTerm : Type 0 where
  empty : BagTerm
  name : (v : Var) → BagTerm
  one : (a : Lin) → BagTerm
  union : (a b : BagTerm) → BagTerm
  inter : (a b : BagTerm) → BagTerm
  diff : (a b : BagTerm) → BagTerm

pub data Assertion : Type 0 where
  truth : Assertion
  eq : (a b : Lin) → Assertion
  lt : (a b : Lin) → Assertion
  le : (a b : Lin) → Assertion
  divides : (d : ℤ) (a : Lin) → Assertion
  bag_eq : (a b : BagTerm) → Assertion
  subset : (a b : BagTerm) → Assertion
  member : (a : Lin) (b : BagTerm) → Assertion
  all_of : (u : Var) (b : BagTerm) (p : Assertion) → Assertion
  negation : (p : Assertion) → Assertion
  both : (p q : Assertion) → Assertion
  either : (p q : Assertion) → Assertion
  exists : (u : Var) (p : Assertion) → Assertion
  forall : (u : Var) (p : Assertion) → Assertion

-- all of them; without any it is true
abbrev pub every : List Assertion → Assertion
every [] = truth
every (p ∷ ps) = fold both p ps

-- one of them; without any it is false
abbrev pub some : List Assertion → Assertion
some [] = negation truth
some (p ∷ ps) = fold either p ps

abbrev pub bag_level : Bag-F BagTerm → BagTerm
bag_level Bag-F.Empty = empty
bag_level (Bag-F.Name v) = name v
bag_level (Bag-F.One a) = one a
bag_level (Bag-F.Union a b) = union a b
bag_level (Bag-F.Inter a b) = inter a b
bag_level (Bag-F.Diff a b) = diff a b

-- what a bag of the program is read as
abbrev pub bag_term_of : Bag → BagTerm
bag_term_of = fold-Bag BagTerm bag_level

abbrev pub pure_level : Pure-F Assertion → Assertion
pure_level (Pure-F.Eq a b) = eq a b
pure_level (Pure-F.Lt a b) = lt a b
pure_level (Pure-F.Le a b) = le a b
pure_level (Pure-F.Divides d a) = divides d a
pure_level (Pure-F.BagEq a b) = bag_eq (bag_term_of a) (bag_term_of b)
pure_level (Pure-F.Subset a b) = subset (bag_term_of a) (bag_term_of b)
pure_level (Pure-F.Member a b) = member a (bag_term_of b)
pure_level (Pure-F.AllOf u b p) = all_of u (bag_term_of b) p
pure_level (Pure-F.Not p) = negation p
pure_level (Pure-F.And ps) = every ps
pure_level (Pure-F.Or ps) = some ps
pure_level (Pure-F.Exists u p) = exists u p
pure_level (Pure-F.Forall u p) = forall u p

-- what a formula of the program is read as
abbrev pub assertion_of : Pure → Assertion
assertion_of = fold-Pure Assertion pure_level
