use Rattle.std.proofs.Common.{◌≡◌, take}
use Rattle.std.specs.List.{flat_map}
use Rattle.hs_heap.specs.declared.formula.Formula.{Formula}
use Rattle.hs_question.proofs.residues.joined.Given as goal

abbrev pub invariant-loop-premise : goal.invariant-loop-premise
invariant-loop-premise l = l.cases ≡ flat_map (λ (r : Formula). r.cases) (take l.premise-index l.premises)
