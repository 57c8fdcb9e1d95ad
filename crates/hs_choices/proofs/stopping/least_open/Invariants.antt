use Rattle.std.proofs.Common.{take}
use Rattle.hs_choices.specs.Stuck.{IsLeastOf}
use Rattle.hs_choices.proofs.stopping.least_open.Given as goal

abbrev pub invariant-loop-v : goal.invariant-loop-v
invariant-loop-v l = IsLeastOf (take l.v-index l.opens) l.p l.least
