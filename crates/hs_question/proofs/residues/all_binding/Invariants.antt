use Rattle.std.proofs.Common.{◌≡◌, take, map}
use Rattle.hs_rules.specs.Residues.{binding}
use Rattle.hs_question.proofs.residues.all_binding.Given as goal

abbrev pub invariant-loop-case : goal.invariant-loop-case
invariant-loop-case l = l.all ≡ map (binding l.variables) (take l.case-index l.cases)
