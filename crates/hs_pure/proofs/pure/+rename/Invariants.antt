use Rattle.std.proofs.Common.{◌≡◌, take, map}
use Rattle.hs_pure.specs.Rename.{renaming, renamed}
use Rattle.hs_pure.proofs.pure.+rename.Given as goal

abbrev pub invariant-rename_all-loop-p : goal.invariant-rename_all-loop-p
invariant-rename_all-loop-p l = l.all ≡ map (renamed (renaming l.pairs)) (take l.p-index l.ps)
