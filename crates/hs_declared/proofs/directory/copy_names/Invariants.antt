use Rattle.std.proofs.Common.{◌≡◌, take}
use Rattle.hs_declared.proofs.directory.copy_names.Given as goal

abbrev pub invariant-loop-name : goal.invariant-loop-name
invariant-loop-name l = l.all ≡ take l.name-index l.names
