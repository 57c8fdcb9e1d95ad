use Rattle.std.proofs.Common.{◌≡◌, drop}
use Rattle.hs_heap.specs.Meaning.{is_in}
use Rattle.hs_program_parts.proofs.occurring.is_listed.Given as goal

abbrev pub invariant-loop-w : goal.invariant-loop-w
invariant-loop-w l = is_in l.v l.vs ≡ is_in l.v (drop l.w-index l.vs)
