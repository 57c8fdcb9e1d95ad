use Rattle.std.proofs.Common.{◌≡◌, drop}
use Rattle.hs_declared.specs.Declaring.{blame_repeated_from, blame_repeated}
use Rattle.hs_declared.proofs.declared.blame_repeated.Given as goal

abbrev pub invariant-loop-i : goal.invariant-loop-i
invariant-loop-i l = blame_repeated_from l.names l.i (drop l.i l.names) l.n ≡ blame_repeated l.names l.fn.n
