use Rattle.std.proofs.Common.{◌≡◌, take}
use Rattle.hs_core.specs.Machine.{picked}
use Rattle.hs_prule.proofs.nodes.picked.Given as goal

abbrev pub invariant-loop-r : goal.invariant-loop-r
invariant-loop-r l = l.all ≡ picked l.args (take l.r-index l.refs)
