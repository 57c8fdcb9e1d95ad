use Rattle.std.proofs.Common.{take}
use Rattle.std.specs.List.{All}
use Rattle.hs_wf.specs.Founded.{CaseIsFounded, names_of}
use Rattle.hs_wf.proofs.first.first_in_cases.Given as goal

abbrev pub invariant-loop-i : goal.invariant-loop-i
invariant-loop-i l = All (CaseIsFounded (names_of l.fn.pred)) (take l.i l.fn.pred.body.cases)
