-- Prepared states: what a path to the point has set is held.
use Rattle.std.specs.Prelude.{ℕ, List}
use Rattle.hs_core.specs.declared.program.Program.{Program}
use Rattle.hs_core.specs.declared.state.At.{At}
use Rattle.hs_core.specs.Set.{Path, IsGiven}
use Rattle.hs_core.specs.Sound.{IsUpTo}
use Rattle.hs_program_rules.specs.States.{IsHeld, method_at}

-- a path leads to the state's point, and a variable has the value of each slot that is a parameter or that the path writes
pub record IsPrepared (program : Program) (at : At) : Type 0 where
  pub written : List ℕ
  pub path : Path (method_at program at) at.point written
  pub held : (k : ℕ) → IsUpTo (method_at program at).slots k → IsGiven (method_at program at) written k → IsHeld at.state.slots k
