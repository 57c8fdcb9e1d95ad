use Rattle.std.proofs.Common.{◌≡◌, take}
use Rattle.hs_heap.proofs.copies.copy_lemmas.Given as goal

abbrev pub invariant-loop-lemma : goal.invariant-loop-lemma
invariant-loop-lemma l = l.all ≡ take l.lemma-index l.lemmas
