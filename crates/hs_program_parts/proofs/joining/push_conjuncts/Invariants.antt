use Rattle.std.proofs.Common.{◌≡◌, ◌++◌, take}
use Rattle.hs_program_parts.proofs.joining.push_conjuncts.Given as goal

abbrev pub invariant-loop-p : goal.invariant-loop-p
invariant-loop-p l = l.all ≡ l.initial.all ++ take l.p-index l.ps
