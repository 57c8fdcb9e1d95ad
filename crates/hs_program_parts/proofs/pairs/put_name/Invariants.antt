use Rattle.std.proofs.Common.{◌≡◌, drop}
use Rattle.hs_pure.specs.Rename.{renaming}
use Rattle.hs_program_parts.proofs.pairs.put_name.Given as goal

abbrev pub invariant-loop-pair : goal.invariant-loop-pair
invariant-loop-pair l = renaming l.pairs l.v ≡ renaming (drop l.pair-index l.pairs) l.v
