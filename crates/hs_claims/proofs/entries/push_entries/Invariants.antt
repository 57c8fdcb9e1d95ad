use Rattle.std.proofs.Common.{◌≡◌, ◌++◌}
use Rattle.hs_claims.specs.Entries.{entries_by}
use Rattle.hs_claims.proofs.entries.push_entries.Given as goal

abbrev pub invariant-loop-pair : goal.invariant-loop-pair
invariant-loop-pair l = (l.i ≡ l.pair-index) × (l.all ≡ l.initial.all ++ entries_by l.m l.method l.pair-index)
