use Rattle.std.proofs.Common.{◌≡◌, take, map}
use Rattle.hs_rules.specs.Parts.{to_fresh}
use Rattle.hs_question.proofs.residues.fresh_variables.Given as goal

abbrev pub invariant-loop-v : goal.invariant-loop-v
invariant-loop-v l = l.all ≡ map (to_fresh l.bound l.next) (take l.v-index l.bound)
