use Rattle.std.proofs.Common.{◌≡◌, ◌++◌, drop}
use Rattle.hs_rules.specs.Parts.{still_open}
use Rattle.hs_side_rules.proofs.sides.still_open.Given as goal

abbrev pub invariant-loop-v : goal.invariant-loop-v
invariant-loop-v l = l.all ++ still_open l.f (drop l.v-index l.opens) ≡ still_open l.f l.opens
