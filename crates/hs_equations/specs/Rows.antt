-- What rows say, and the stacks at which the rows of a state are all true.
use Rattle.std.specs.Prelude.{◌≡◌, ℤ, pos, ◌≤ℤ◌, Option, None, Some, IfSome}
use Rattle.std.specs.List.{All}
use Rattle.hs_pure.specs.Stack.{Stack}
use Rattle.hs_pure.specs.Truth.{value}
use Rattle.hs_equations.specs.declared.row.Kind.{Kind}
use Rattle.hs_equations.specs.declared.row.Kind.TheVariants.{Zero, Least, Apart}
use Rattle.hs_equations.specs.declared.row.Row.{Row}
use Rattle.hs_equations.specs.declared.row.Solved.{Solved}
use Rattle.hs_equations.specs.declared.parts.Parted.{Parted}
use Rattle.hs_equations.specs.declared.rows.Rows.{Rows}
use Rattle.hs_equations.specs.declared.rows.Popped.{Popped}
use Rattle.hs_equations.specs.declared.rows.Stepped.{Stepped}

-- what a kind says of a number
abbrev pub Says : Kind → ℤ → Type 0
Says Zero z = z ≡ pos 0
Says Least z = pos 0 ≤ℤ z
Says Apart z = ¬ (z ≡ pos 0)

-- the row is true at the stack
abbrev pub IsMet : Stack → Row → Type 0
IsMet s r = Says r.kind (value s r.sum)

-- the equation is true at the stack
abbrev pub IsSolved : Stack → Solved → Type 0
IsSolved s e = value s e.sum ≡ pos 0

-- nothing is lost where a division by a divisor of the coefficients leaves r of the constant
abbrev pub IsEven : Kind → ℤ → Type 0
IsEven Zero r = r ≡ pos 0
IsEven Least r = Unit {0}
IsEven Apart r = r ≡ pos 0

-- the rows of both parts are true at the stack
abbrev pub AreParts : Stack → Parted → Type 0
AreParts s p = All (IsMet s) p.kept × All (IsMet s) p.woken

-- all rows are true at the stack
abbrev pub Holds : Stack → Rows → Type 0
Holds s r = All (IsSolved s) r.solved × All (IsMet s) r.taken × All (IsMet s) r.pending

-- the same of rows that may have met a contradiction
abbrev pub HoldsStill : Stack → Option Rows → Type 0
HoldsStill s None = ⊥
HoldsStill s (Some r) = Holds s r

-- the rows and the one that waited are true at the stack
abbrev pub ArePopped : Stack → Popped → Type 0
ArePopped s p = Holds s p.rows × IfSome p.row (IsMet s)

-- what is left of rows is true at the stack
abbrev pub AreStepped : Stack → Option Stepped → Type 0
AreStepped s None = ⊥
AreStepped s (Some t) = Holds s t.rows
