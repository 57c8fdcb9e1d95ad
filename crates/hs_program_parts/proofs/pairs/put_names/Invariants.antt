use Rattle.std.proofs.Common.{◌≡◌, take, map}
use Rattle.hs_pure.specs.Rename.{renaming}
use Rattle.hs_program_parts.proofs.pairs.put_names.Given as goal

abbrev pub invariant-loop-v : goal.invariant-loop-v
invariant-loop-v l = l.all ≡ map (renaming l.pairs) (take l.v-index l.vs)
