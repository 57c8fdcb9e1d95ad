use Rattle.std.proofs.Common.{◌≡◌, drop}
use Rattle.hs_wf.specs.Marked.{first_unmarked}
use Rattle.hs_wf.proofs.case.first_unmarked.Given as goal

abbrev pub invariant-loop-atom : goal.invariant-loop-atom
invariant-loop-atom l = first_unmarked l.marks l.atoms ≡ first_unmarked l.marks (drop l.atom-index l.atoms)
