use Rattle.std.proofs.Common.{◌≡◌, take}
use Rattle.hs_pure.specs.declared.var.Var.{Var}
use Rattle.hs_heap.specs.Meaning.{is_in}
use Rattle.hs_wf.specs.Marked.{is_marked}
use Rattle.hs_wf.proofs.reached.mark_all.Given as goal

abbrev pub invariant-loop-v : goal.invariant-loop-v
invariant-loop-v l = (w : Var) → is_marked l.marks w ≡ is_in w (take l.v-index l.names)
