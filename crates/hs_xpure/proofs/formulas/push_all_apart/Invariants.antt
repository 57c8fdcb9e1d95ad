use Rattle.std.proofs.Common.{◌≡◌, ◌++◌, drop}
use Rattle.hs_xpure.specs.Approximation.{all_apart}
use Rattle.hs_xpure.proofs.formulas.push_all_apart.Given as goal

abbrev pub invariant-loop-i : goal.invariant-loop-i
invariant-loop-i l = l.ps ++ all_apart (drop l.i l.addresses) ≡ l.initial.ps ++ all_apart l.addresses
