use Rattle.std.proofs.Common.{◌≡◌, take}
use Rattle.hs_heap.proofs.copies.copy_conjuncts.Given as goal

abbrev pub invariant-loop-conjunct : goal.invariant-loop-conjunct
invariant-loop-conjunct l = l.all ≡ take l.conjunct-index l.conjuncts
