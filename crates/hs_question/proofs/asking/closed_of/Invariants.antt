use Rattle.std.proofs.Common.{◌≡◌, ◌++◌, drop}
use Rattle.hs_rules.specs.Questions.{closed_of}
use Rattle.hs_question.proofs.asking.closed_of.Given as goal

abbrev pub invariant-loop-p : goal.invariant-loop-p
invariant-loop-p l = l.all ++ closed_of l.opens (drop l.p-index l.conjuncts) ≡ closed_of l.opens l.conjuncts
