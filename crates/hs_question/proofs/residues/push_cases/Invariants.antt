use Rattle.std.proofs.Common.{◌≡◌, ◌++◌, take}
use Rattle.hs_question.proofs.residues.push_cases.Given as goal

abbrev pub invariant-loop-case : goal.invariant-loop-case
invariant-loop-case l = l.all ≡ l.initial.all ++ take l.case-index l.cases
