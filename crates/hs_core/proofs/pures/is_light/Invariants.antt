use Rattle.std.proofs.Common.{◌≡◌, ◌+◌, drop, nat_le, unsigned_abs}
use Rattle.hs_pure.specs.Sums.{weight}
use Rattle.hs_heap.specs.Tests.{is_light}
use Rattle.hs_core.proofs.pures.is_light.Given as goal

abbrev pub invariant-loop-t : goal.invariant-loop-t
invariant-loop-t l = is_light l.a ≡ nat_le (weight (drop l.t-index l.a.terms) + unsigned_abs l.a.constant) l.room
