use Rattle.std.proofs.Common.{◌≡◌, ◌++◌, replicate, None}
use Rattle.hs_prule.proofs.entering.push_none.Given as goal

abbrev pub invariant-loop-i : goal.invariant-loop-i
invariant-loop-i l = l.held ≡ l.initial.held ++ replicate l.i None
