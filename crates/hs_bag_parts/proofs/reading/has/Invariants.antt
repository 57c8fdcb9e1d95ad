use Rattle.std.proofs.Common.{◌≡◌, drop}
use Rattle.hs_elimination.specs.Cases.{has_lin}
use Rattle.hs_bag_parts.proofs.reading.has.Given as goal

abbrev pub invariant-loop-b : goal.invariant-loop-b
invariant-loop-b l = has_lin l.a (drop l.b-index l.listed) ≡ has_lin l.a l.listed
