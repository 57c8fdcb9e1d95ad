use Rattle.std.proofs.Common.{◌≡◌, take, map, Some}
use Rattle.hs_norm_formula.specs.Sum.{sum_of, added}
use Rattle.hs_lower_scope.specs.Terms.{part_term}
use Rattle.hs_lower_scope.specs.View.{shown}
use Rattle.hs_lower_scope.proofs.sum.added.Given as goal

abbrev pub invariant-loop-part : goal.invariant-loop-part
invariant-loop-part l = Some (sum_of l.found.items l.constant) ≡ added (map (part_term (shown l.scope)) (take l.part-index l.parts))
