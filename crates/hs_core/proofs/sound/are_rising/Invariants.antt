use Rattle.std.proofs.Common.{◌≡◌, drop}
use Rattle.hs_core.specs.Tests.{are_rising}
use Rattle.hs_core.proofs.sound.are_rising.Given as goal

abbrev pub invariant-loop-k : goal.invariant-loop-k
invariant-loop-k l = are_rising l.last 0 l.ks ≡ are_rising l.last l.low (drop l.k-index l.ks)
