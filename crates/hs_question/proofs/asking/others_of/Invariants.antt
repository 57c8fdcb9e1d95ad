use Rattle.std.proofs.Common.{◌≡◌, ◌++◌, drop}
use Rattle.hs_rules.specs.Questions.{others_of}
use Rattle.hs_question.proofs.asking.others_of.Given as goal

abbrev pub invariant-loop-p : goal.invariant-loop-p
invariant-loop-p l = l.all ++ others_of l.opens (drop l.p-index l.conjuncts) ≡ others_of l.opens l.conjuncts
