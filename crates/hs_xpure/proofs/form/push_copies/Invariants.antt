use Rattle.std.proofs.Common.{◌≡◌, ◌++◌, take}
use Rattle.hs_xpure.proofs.form.push_copies.Given as goal

abbrev pub invariant-loop-p : goal.invariant-loop-p
invariant-loop-p l = l.ps ≡ l.initial.ps ++ take l.p-index l.more
