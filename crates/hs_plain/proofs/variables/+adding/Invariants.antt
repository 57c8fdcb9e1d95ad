use Rattle.std.proofs.Common.{◌≡◌, drop}
use Rattle.hs_plain.specs.Variables.{with_sums}
use Rattle.hs_plain.proofs.Inserting.{all_sums}
use Rattle.hs_plain.proofs.variables.+adding.Given as goal

abbrev pub invariant-add_all_of-loop-p : goal.invariant-add_all_of-loop-p
invariant-add_all_of-loop-p l = with_sums (all_sums (drop l.p-index l.ps)) l.variables.items ≡ with_sums (all_sums l.ps) l.initial.variables.items
