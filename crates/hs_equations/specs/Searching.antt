-- The parts of a state, and the stacks at which they are true.
use Rattle.std.specs.Prelude.{Option, None, Some}
use Rattle.std.specs.List.{All}
use Rattle.hs_pure.specs.Stack.{Stack}
use Rattle.hs_equations.specs.declared.solve.Cases.{Cases}
use Rattle.hs_equations.specs.declared.solve.Split.{Split}
use Rattle.hs_equations.specs.declared.solve.Advance.{Advance}
use Rattle.hs_equations.specs.Claims.{IsCase, HoldsAll}

-- the cases of both parts are true at the stack
abbrev pub AreCases : Stack → Cases → Type 0
AreCases s c = All (IsCase s) c.rest × All (IsCase s) c.chosen

-- the state and the case are true at the stack
abbrev pub IsSplit : Stack → Split → Type 0
IsSplit s p = HoldsAll s p.state × IsCase s p.case

-- what is left of a state is true at the stack
abbrev pub AdvanceHolds : Stack → Option Advance → Type 0
AdvanceHolds s None = ⊥
AdvanceHolds s (Some a) = HoldsAll s a.state
