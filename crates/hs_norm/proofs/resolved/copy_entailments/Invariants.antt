use Rattle.std.proofs.Common.{◌≡◌, take}
use Rattle.hs_norm.proofs.resolved.copy_entailments.Given as goal

abbrev pub invariant-loop-entailment : goal.invariant-loop-entailment
invariant-loop-entailment l = l.all ≡ take l.entailment-index l.entailments
