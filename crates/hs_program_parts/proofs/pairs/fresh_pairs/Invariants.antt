use Rattle.std.proofs.Common.{◌≡◌, ◌+◌, ◌++◌, drop}
use Rattle.hs_program_parts.specs.Pairs.{fresh_pairs}
use Rattle.hs_program_parts.proofs.pairs.fresh_pairs.Given as goal

abbrev pub invariant-loop-v : goal.invariant-loop-v
invariant-loop-v l = record {
  number : l.number ≡ l.next + l.v-index;
  pairs : l.pairs ++ fresh_pairs (drop l.v-index l.vars) l.number ≡ fresh_pairs l.vars l.next;
}
