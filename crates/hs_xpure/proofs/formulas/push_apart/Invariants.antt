use Rattle.std.proofs.Common.{◌≡◌, ◌++◌, take, map}
use Rattle.hs_xpure.specs.Approximation.{apart}
use Rattle.hs_xpure.proofs.formulas.push_apart.Given as goal

abbrev pub invariant-loop-l : goal.invariant-loop-l
invariant-loop-l l = l.ps ≡ l.initial.ps ++ map (apart l.k) (take l.l-index l.others)
