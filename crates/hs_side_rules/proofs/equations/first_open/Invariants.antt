use Rattle.std.proofs.Common.{◌≡◌, drop}
use Rattle.hs_side_rules.specs.Solving.{in_sums, first_with}
use Rattle.hs_side_rules.proofs.equations.first_open.Given as goal

abbrev pub invariant-loop-v : goal.invariant-loop-v
invariant-loop-v l = first_with (in_sums l.a l.b) l.opens ≡ first_with (in_sums l.a l.b) (drop l.v-index l.opens)
