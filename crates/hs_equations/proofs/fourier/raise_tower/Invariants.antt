use Rattle.std.specs.List.{All}
use Rattle.hs_pure.specs.Stack.{Stack}
use Rattle.hs_equations.specs.Rows.{IsMet}
use Rattle.hs_equations.specs.Towers.{IsTower}
use Rattle.hs_equations.proofs.fourier.raise_tower.Given as goal

abbrev pub invariant-going : goal.invariant-going
invariant-going l = (s : Stack) → All (IsMet s) l.fn.rows → IsTower s l.now
