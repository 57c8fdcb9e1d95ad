-- Atoms, disjuncts and formulas.
use Rattle.std.specs.Prelude.{ℕ, pos, Bool, true, false, not, ◌&&◌, nat_eq, if◌then◌else◌, List, [], ◌∷◌, ◌++◌, length, map, Option, Some, None}
use Rattle.std.specs.List.{zip}
use mathlib.Core.Bool.{beq}
use Rattle.hs_tree.specs.declared.ident.Ident.{Ident}
use Rattle.hs_tree.specs.declared.expr.ExprTree.{ExprTree}
use Rattle.hs_tree.specs.declared.formula.ArgTree.{ArgTree}
use Rattle.hs_tree.specs.declared.formula.ArgTree.TheVariants as arg
use Rattle.hs_tree.specs.declared.formula.AtomTree.{AtomTree}
use Rattle.hs_pure.specs.declared.var.Var.{Var}
use Rattle.hs_pure.specs.declared.lin.Lin.{Lin}
use Rattle.hs_heap.specs.declared.formula.Atom.{Atom}
use Rattle.hs_heap.specs.declared.formula.Of.TheVariants as of
use Rattle.hs_pure.specs.declared.bag.Bag.TheVariants as set
use Rattle.hs_pure.specs.declared.pure.Pure.{Pure}
use Rattle.hs_pure.specs.declared.pure.Pure.TheVariants as pure_of
use Rattle.hs_numbering.specs.declared.fault.Problem.TheVariants.{Unknown, Arity, TooMany}
use Rattle.hs_norm_formula.specs.declared.table.Entry.{Entry}
use Rattle.hs_norm_formula.specs.Table.{entry}
use Rattle.hs_numbering.specs.Numbering.{Builder, ◌>>=◌, ◌>>◌, ◌<$>◌, pure, each, blame, resolve, give_bound, equate, each_counted, leave_all, take_flat, take_equations, is_numbered}
pub use Rattle.hs_numbering.specs.Numbering.{bind}
use Rattle.hs_norm_formula.specs.Item.{item}
use Rattle.hs_norm_formula.specs.Splice.{conjuncts_of}
use Rattle.hs_numbering.specs.declared.fault.Limit.{Limit}
use Rattle.hs_numbering.specs.declared.fault.Limit.TheVariants.{Atoms, Cases}
use Rattle.hs_tree.specs.declared.formula.DisjunctTree.{DisjunctTree}
use Rattle.hs_tree.specs.declared.formula.FormulaTree.{FormulaTree}
use Rattle.hs_heap.specs.declared.formula.Disjunct.{Disjunct}
use Rattle.hs_heap.specs.declared.formula.Formula.{Formula}
pub use Rattle.hs_norm_formula.specs.Expr.{bare}
use Rattle.hs_norm_formula.specs.Expr.{number, bag}
use Rattle.hs_norm_formula.specs.Sum.{number_var, blame_kind}

-- the variable alone
abbrev pub single : Var → Lin
single v = record { terms = (v, pos 1) ∷ []; constant = pos 0 }

-- the equation of a new variable with an argument
unfoldable pub equation : Var → ExprTree → Builder Pure
equation v e =
    if v.bag then pure_of.BagEq (set.Name v) <$> bag e else pure_of.Eq (single v) <$> number e

-- a bare variable stays, any other argument becomes a new bound variable with its equation
abbrev pub value : Bool → ExprTree → Option Ident → Builder Var
value is_bag e (Some x) = do
  v ← resolve x
  blame_kind x.at (not (beq v.bag is_bag))
  pure v
value is_bag e None = do
  v ← give_bound e.at is_bag
  p ← equation v e
  equate p
  pure v

-- an argument of a kind
unfoldable pub argument : Bool → ArgTree → Builder Var
argument is_bag (arg.Hole at) = give_bound at is_bag
argument is_bag (arg.Value e) = value is_bag e (bare e)

abbrev pub blame_arity : ℕ → Bool → Builder (Unit {0})
blame_arity at true = pure tt
blame_arity at false = blame at Arity

abbrev pub atom_of : Var → Entry → AtomTree → Builder Atom
atom_of root e t = do
  blame_arity t.root.at (nat_eq (length e.kinds) (length t.args))
  args ← each (λ p. argument p.0 p.1) (zip e.kinds t.args)
  pure (record { root = root; of = e.of; args = args })

abbrev pub atom_by : Var → Option Entry → AtomTree → Builder Atom
atom_by root (Some e) t = atom_of root e t
atom_by root None t =
    blame t.name.at (Unknown t.name.text) >> pure (record { root = root; of = of.Node 0; args = [] })

-- an atom, after its root
unfoldable pub atom : List Entry → AtomTree → Builder Atom
atom entries t = number_var t.root >>= λ root. atom_by root (entry t.name.text entries) t

-- a source has at most so many of these
abbrev pub limit : ℕ → Limit → ℕ → ℕ → Builder (Unit {0})
limit most l at count = λ n. if nat_eq count most && not (is_numbered n.reading) then blame at (TooMany l) n else (tt, n)

abbrev pub counted_atom : List Entry → ℕ → AtomTree → Builder Atom
counted_atom entries count t = limit 64 Atoms t.root.at count >> atom entries t

-- its own bound variables, then the new ones; the equations of the new ones, then the written items
unfoldable pub disjunct : List Entry → DisjunctTree → Builder Disjunct
disjunct entries d = do
  bound ← each bind d.bound
  atoms ← each_counted (counted_atom entries) d.atoms
  written ← conjuncts_of (map item d.items)
  leave_all d.bound
  flat ← take_flat
  equations ← take_equations
  pure (record { bound = bound ++ flat; atoms = atoms; pure = equations ++ written })

abbrev pub counted_case : List Entry → ℕ → DisjunctTree → Builder Disjunct
counted_case entries count d = limit 16 Cases d.at count >> disjunct entries d

-- the normal form of a formula over these declarations
abbrev pub formula : List Entry → FormulaTree → Builder Formula
formula entries f = (λ cases. record { cases = cases }) <$> each_counted (counted_case entries) f.cases
