use Rattle.std.proofs.Common.{◌≡◌, drop}
use Rattle.hs_plain.specs.Variables.{with_terms}
use Rattle.hs_plain.proofs.variables.add_sum.Given as goal

abbrev pub invariant-loop-t : goal.invariant-loop-t
invariant-loop-t l = with_terms (drop l.t-index l.t-items) l.variables.items ≡ with_terms l.t-items l.initial.variables.items
