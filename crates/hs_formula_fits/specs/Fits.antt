-- Numberings between the parts of a claim, and what is new in a formula.
use Rattle.std.specs.Prelude.{◌≡◌, ℕ, ◌<◌, ◌≤◌, false, IsTrue, List, [], ◌∷◌, ◌++◌, length, map, Some}
use Rattle.std.specs.List.{All}
use Rattle.hs_pure.specs.declared.var.Var.{Var}
use Rattle.hs_pure.specs.declared.pure.Pure.{Pure}
use Rattle.hs_pure.specs.Occurs.{is_bound}
use Rattle.hs_heap.specs.declared.formula.Disjunct.{Disjunct}
use Rattle.hs_heap.specs.declared.definitions.Defs.{Defs}
use Rattle.hs_heap.specs.Meaning.{is_in}
use Rattle.hs_heap.specs.Sound.{AreDistinct, argument_kinds}
use Rattle.hs_numbering.specs.declared.fault.Fault.{Fault}
use Rattle.hs_numbering.specs.declared.numbering.Named.{Named}
use Rattle.hs_numbering.specs.declared.numbering.Numbering.{Numbering}
use Rattle.hs_numbering.specs.Names.{is_upper}
use Rattle.hs_numbering.specs.Numbering.{is_numbered, is_open}
use Rattle.hs_norm_formula.specs.declared.table.Entry.{Entry}

-- the variables of names
abbrev pub vars_of : List Named → List Var
vars_of ms = map (λ m. m.var) ms

-- the variables of the names that are free
abbrev pub free_vars : Numbering → List Var
free_vars n = vars_of (n.fixed ++ n.known)

-- a name's variable is a bag where the name begins with an upper-case letter, and its number is given
pub record NamedFits (n : Numbering) (m : Named) : Type 0 where
  pub kind : m.var.bag ≡ is_upper m.name
  pub low : 1 ≤ m.var.number
  pub high : m.var.number ≤ length n.names

-- a numbering that reads names, between formulas
pub record IsSettled (n : Numbering) : Type 0 where
  pub named : is_numbered n.reading ≡ false
  pub few : length n.names ≤ 1000
  pub fixed : All (NamedFits n) n.fixed
  pub known : All (NamedFits n) n.known
  pub distinct : AreDistinct (free_vars n)
  pub around : n.around ≡ []
  pub flat : n.flat ≡ []
  pub equations : n.equations ≡ []

-- the numbers rise, and all are above k
abbrev pub RiseAbove : ℕ → List Var → Type 0
RiseAbove k [] = Unit {0}
RiseAbove k (v ∷ vs) = (k < v.number) × RiseAbove v.number vs

-- the names that are known besides are of new numbers, which rise
abbrev pub LearnsNew : ℕ → List Named → List Named → Type 0
LearnsNew k old new = (more : List Named) × (new ≡ old ++ more) × RiseAbove k (vars_of more)

-- the faults of before come first
abbrev pub BlamesMore : List Fault → List Fault → Type 0
BlamesMore old new = (more : List Fault) × (new ≡ old ++ more)

-- m comes after n: no name or fault is lost, and where no free name may be met, none is learned
pub record Extends (n m : Numbering) : Type 0 where
  pub reading : m.reading ≡ n.reading
  pub fixed : m.fixed ≡ n.fixed
  pub names : length n.names ≤ length m.names
  pub known : LearnsNew (length n.names) n.known m.known
  pub closed : is_open n.reading ≡ false → m.known ≡ n.known
  pub faults : BlamesMore n.faults m.faults

-- the table has the kinds that the definitions have
abbrev pub EntriesFit : Defs → List Entry → Type 0
EntriesFit defs entries = All (λ e. argument_kinds defs e.of ≡ Some e.kinds) entries

-- quantifiers and AllOf bind numbers above k alone
abbrev pub BindsNew : ℕ → Pure → Type 0
BindsNew k p = (u : Var) → IsTrue (is_bound u p) → k < u.number

-- a disjunct and its conjuncts bind numbers above k alone
pub record DisjunctIsNew (k : ℕ) (d : Disjunct) : Type 0 where
  pub bound : (u : Var) → IsTrue (is_in u d.bound) → k < u.number
  pub pure : All (BindsNew k) d.pure
