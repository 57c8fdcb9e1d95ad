use Rattle.std.proofs.Common.{◌≡◌, drop}
use Rattle.hs_pure.specs.Eval.{listed_count}
use Rattle.hs_pure.proofs.eval.count_in.Given as goal

abbrev pub invariant-loop-element : goal.invariant-loop-element
invariant-loop-element l = listed_count l.elements l.x ≡ listed_count (drop l.element-index l.elements) l.x
