-- When a formula can be written by numbers and read back.
use Rattle.std.specs.Prelude.{◌≡◌, ◌≢◌, ℕ, suc, ◌+◌, max, ◌<◌, ◌≤◌, ◌^◌, nat_eq, nat_le, nat_lt, ℤ, pos, negsuc, unsigned_abs, Bool, true, false, not, ◌&&◌, IsTrue, List, [], ◌∷◌, ◌++◌, length, map}
use Rattle.std.specs.List.{AllByRecursion, list_all, list_any}
use Rattle.std.specs.Ordering.{int_eq}
use Rattle.hs_lex.specs.Tokens.{IsName}
use Rattle.hs_words.specs.declared.word.Word.TheVariants as word
use Rattle.hs_words.specs.Word.{name_word}
use Rattle.hs_pure.specs.declared.var.Var.{Var}
use Rattle.hs_pure.specs.declared.lin.Lin.{Lin}
use Rattle.hs_pure.specs.declared.bag.Bag.{Bag, fold-Bag}
use Rattle.hs_pure.specs.declared.bag.Bag.TheOpen.{Bag-F}
use Rattle.hs_pure.specs.declared.pure.Pure.{Pure, fold-Pure}
use Rattle.hs_pure.specs.declared.pure.Pure.TheOpen.{Pure-F}
use Rattle.hs_heap.specs.declared.formula.Of.{Of}
use Rattle.hs_heap.specs.declared.formula.Of.TheVariants.{Node, Pred}
use Rattle.hs_heap.specs.declared.formula.Atom.{Atom}
use Rattle.hs_heap.specs.declared.formula.Disjunct.{Disjunct}
use Rattle.hs_heap.specs.declared.formula.Formula.{Formula}
use Rattle.hs_heap.specs.declared.definitions.Defs.{Defs}
use Rattle.hs_heap.specs.Sound.{AtomFits}
use Rattle.hs_heap.specs.WellFormed.{is_and}
use Rattle.hs_print.specs.declared.place.Place.{Place}
use Rattle.hs_print.specs.declared.place.Place.TheVariants.{Alone, Member, Denied}
use Rattle.hs_print.specs.declared.place.Class.{Class}
use Rattle.hs_print.specs.declared.place.Class.TheVariants.{Equation, Relation, Connective, DeniedEquation, Item}
use Rattle.hs_print.specs.Pure.{denied_class, members_class}

-- ---- numbers

-- a number that a variable of the numbered form can have
abbrev pub has_number : Var → Bool
has_number v = nat_le 1 v.number && nat_lt v.number (2 ^ 32)

-- it lies from -2^126 to 2^126
abbrev pub is_small : ℤ → Bool
is_small c = nat_le (unsigned_abs c) (2 ^ 126)

-- a divisor, from 1 to 2^126
abbrev pub is_divisor : ℤ → Bool
is_divisor (pos d) = nat_le 1 d && nat_le d (2 ^ 126)
is_divisor (negsuc d) = false

-- ---- sums and bags

-- the terms are of number variables from n on, by rising number, with small coefficients that are not 0
abbrev pub terms_fit : ℕ → List (Var × ℤ) → Bool
terms_fit n [] = true
terms_fit n (t ∷ ts) =
    (nat_le n t.0.number && (not t.0.bag && has_number t.0)) && ((not (int_eq t.1 (pos 0)) && is_small t.1) && terms_fit (suc t.0.number) ts)

abbrev pub sum_fits : Lin → Bool
sum_fits a = terms_fit 0 a.terms && is_small a.constant

abbrev pub bag_fits_level : Bag-F Bool → Bool
bag_fits_level Bag-F.Empty = true
bag_fits_level (Bag-F.Name v) = v.bag && has_number v
bag_fits_level (Bag-F.One a) = sum_fits a
bag_fits_level (Bag-F.Union a b) = a && b
bag_fits_level (Bag-F.Inter a b) = a && b
bag_fits_level (Bag-F.Diff a b) = a && b

-- the names of a bag are bag variables
abbrev pub bag_fits : Bag → Bool
bag_fits = fold-Bag Bool bag_fits_level

-- ---- pure formulas

-- one of these numbers
abbrev pub is_among : ℕ → List ℕ → Bool
is_among k around = list_any (nat_eq k) around

-- a number variable, inside no binder of its number
abbrev pub binder_fits : Var → List ℕ → Bool
binder_fits u around = (not u.bag && has_number u) && not (is_among u.number around)

-- A test of a formula, told the numbers of the binders around it and whether it stands under a quantifier.
abbrev pub Test : Type 0
Test = List ℕ → Bool → Bool

-- under one more binder
abbrev pub below : Test → Var → List ℕ → Bool
below p u around = p (around ++ u.number ∷ []) true

-- not exactly one member
abbrev pub members_fit : List Test → Test
members_fit ps around inside = not (nat_eq (length ps) 1) && list_all (λ p. p around inside) ps

abbrev pub pure_fits_level : Pure-F Test → Test
pure_fits_level (Pure-F.Eq a b) around inside = sum_fits a && sum_fits b
pure_fits_level (Pure-F.Lt a b) around inside = sum_fits a && sum_fits b
pure_fits_level (Pure-F.Le a b) around inside = sum_fits a && sum_fits b
pure_fits_level (Pure-F.Divides d a) around inside = is_divisor d && sum_fits a
pure_fits_level (Pure-F.BagEq a b) around inside = not inside && (bag_fits a && bag_fits b)
pure_fits_level (Pure-F.Subset a b) around inside = not inside && (bag_fits a && bag_fits b)
pure_fits_level (Pure-F.Member a b) around inside = not inside && (sum_fits a && bag_fits b)
pure_fits_level (Pure-F.AllOf u b p) around inside = not inside && (bag_fits b && (binder_fits u around && below p u around))
pure_fits_level (Pure-F.Not p) around inside = p around inside
pure_fits_level (Pure-F.And ps) around inside = members_fit ps around inside
pure_fits_level (Pure-F.Or ps) around inside = members_fit ps around inside
pure_fits_level (Pure-F.Exists u p) around inside = binder_fits u around && below p u around
pure_fits_level (Pure-F.Forall u p) around inside = binder_fits u around && below p u around

-- Sums, bags and divisors fit, no And and no Or has exactly one member, no binder stands inside a binder of its
-- number, and no bag literal stands under a quantifier or inside an AllOf.
abbrev pub pure_fits : Pure → Test
pure_fits = fold-Pure Test pure_fits_level

-- ---- how deep the printed form nests

abbrev pub bag_nesting_level : Bag-F ℕ → ℕ
bag_nesting_level Bag-F.Empty = 1
bag_nesting_level (Bag-F.Name v) = 0
bag_nesting_level (Bag-F.One a) = 1
bag_nesting_level (Bag-F.Union a b) = suc (max a b)
bag_nesting_level (Bag-F.Inter a b) = suc (max a b)
bag_nesting_level (Bag-F.Diff a b) = suc (max a b)

-- the levels that the braces and operations of a bag open
abbrev pub bag_nesting : Bag → ℕ
bag_nesting = fold-Bag ℕ bag_nesting_level

-- What a formula looks like, and how many levels its text opens where nothing denies or encloses it.
pub record Nesting : Type 0 where
  pub class : Class
  pub levels : ℕ

-- the levels of the mark and the parentheses that a formula gets at a place
abbrev pub marks : Place → Class → ℕ
marks Alone c = 0
marks Member Equation = 0
marks Member Relation = 0
marks Member Connective = 1
marks Member DeniedEquation = 0
marks Member Item = 0
marks Denied Equation = 0
marks Denied Relation = 2
marks Denied Connective = 2
marks Denied DeniedEquation = 2
marks Denied Item = 1

-- the levels of a formula with what it gets at a place
abbrev pub levels_at : Place → Nesting → ℕ
levels_at place p = marks place p.class + p.levels

abbrev pub deepest : List ℕ → ℕ
deepest [] = 0
deepest (n ∷ ns) = max n (deepest ns)

abbrev pub members_nesting : List Nesting → Nesting
members_nesting ps = record { class = members_class (length ps); levels = deepest (map (levels_at Member) ps) }

abbrev pub nesting_level : Pure-F Nesting → Nesting
nesting_level (Pure-F.Eq a b) = record { class = Equation; levels = 0 }
nesting_level (Pure-F.Lt a b) = record { class = Relation; levels = 0 }
nesting_level (Pure-F.Le a b) = record { class = Relation; levels = 0 }
nesting_level (Pure-F.Divides d a) = record { class = Item; levels = 1 }
nesting_level (Pure-F.BagEq a b) = record { class = Equation; levels = max (bag_nesting a) (bag_nesting b) }
nesting_level (Pure-F.Subset a b) = record { class = Relation; levels = max (bag_nesting a) (bag_nesting b) }
nesting_level (Pure-F.Member a b) = record { class = Relation; levels = bag_nesting b }
nesting_level (Pure-F.AllOf u b p) = record { class = Item; levels = max (bag_nesting b) (suc p.levels) }
nesting_level (Pure-F.Not p) = record { class = denied_class p.class; levels = levels_at Denied p }
nesting_level (Pure-F.And ps) = members_nesting ps
nesting_level (Pure-F.Or ps) = members_nesting ps
nesting_level (Pure-F.Exists u p) = record { class = Item; levels = suc p.levels }
nesting_level (Pure-F.Forall u p) = record { class = Item; levels = suc p.levels }

abbrev pub nesting : Pure → Nesting
nesting = fold-Pure Nesting nesting_level

-- a pure formula by itself
pub record IsWritablePure (p : Pure) : Type 0 where
  pub fits : IsTrue (pure_fits p [] false)
  -- its text nests at most 256 deep
  pub nests : levels_at Alone (nesting p) ≤ 256

-- ---- formulas

-- the numbers of data types and predicates have 32 bits
abbrev pub of_number : Of → ℕ
of_number (Node k) = k
of_number (Pred k) = k

pub record AtomIsWritable (defs : Defs) (a : Atom) : Type 0 where
  -- the root is a number, what the atom is of is there, and the arguments are as many and of the right kinds
  pub fits : AtomFits defs a
  pub number : of_number a.of < 2 ^ 32
  pub root : IsTrue (has_number a.root)
  pub args : AllByRecursion (λ v. IsTrue (has_number v)) a.args

-- the numbers are different, and none of them is around
abbrev pub bound_fit : List ℕ → List Var → Bool
bound_fit around [] = true
bound_fit around (v ∷ vs) = (has_number v && not (is_among v.number around)) && bound_fit (around ++ v.number ∷ []) vs

-- a conjunct, told the numbers that its disjunct binds
pub record ConjunctIsWritable (around : List ℕ) (p : Pure) : Type 0 where
  pub flat : is_and p ≡ false
  pub fits : IsTrue (pure_fits p around false)
  -- its text nests at most 256 deep
  pub nests : levels_at Member (nesting p) ≤ 256

abbrev pub bound_numbers : Disjunct → List ℕ
bound_numbers d = map (λ v. v.number) d.bound

pub record DisjunctIsWritable (defs : Defs) (d : Disjunct) : Type 0 where
  pub bound : IsTrue (bound_fit [] d.bound)
  pub atoms : AllByRecursion (AtomIsWritable defs) d.atoms
  pub pure : AllByRecursion (ConjunctIsWritable (bound_numbers d)) d.pure

-- ---- definitions

-- a name of sources, and no keyword
pub record IsSourceName (text : List ℕ) : Type 0 where
  pub name : IsName text []
  pub short : length text ≤ 64
  pub free : name_word text ≡ word.Name

-- the names of the data types, then those of the predicates
abbrev pub names_of : Defs → List (List ℕ)
names_of defs = map (λ d. d.name) defs.nodes ++ map (λ p. p.name) defs.preds

-- no text is listed twice
abbrev pub AreDifferent : List (List ℕ) → Type 0
AreDifferent [] = Unit {0}
AreDifferent (x ∷ xs) = AllByRecursion (λ y. x ≢ y) xs × AreDifferent xs

pub record DefsAreWritable (defs : Defs) : Type 0 where
  pub names : AllByRecursion IsSourceName (names_of defs)
  pub different : AreDifferent (names_of defs)

-- the formula can be written over these definitions
pub record IsWritable (defs : Defs) (f : Formula) : Type 0 where
  pub defs_fit : DefsAreWritable defs
  pub cases : AllByRecursion (DisjunctIsWritable defs) f.cases
