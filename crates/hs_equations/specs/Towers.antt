-- The rows of a tower, and the stacks at which they are true.
use Rattle.std.specs.Prelude.{Option, None, Some}
use Rattle.std.specs.List.{All}
use Rattle.hs_pure.specs.Stack.{Stack}
use Rattle.hs_equations.specs.declared.fourier.Tower.{Tower}
use Rattle.hs_equations.specs.Rows.{IsMet}

-- all rows of the tower are true at the stack
abbrev pub IsTower : Stack → Tower → Type 0
IsTower s t = All (IsMet s) t.left × All (IsMet s) t.done

-- the same of one that may have met a contradiction
abbrev pub IsTowerStill : Stack → Option Tower → Type 0
IsTowerStill s None = ⊥
IsTowerStill s (Some t) = IsTower s t
