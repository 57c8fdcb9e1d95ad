use Rattle.std.proofs.Common.{◌≡◌, drop}
use Rattle.hs_unit.specs.Reduction.{unit_term}
use Rattle.hs_unit.proofs.solution.unit_term.Given as goal

abbrev pub invariant-loop-t : goal.invariant-loop-t
invariant-loop-t l = unit_term (drop l.t-index l.ts) ≡ unit_term l.ts
