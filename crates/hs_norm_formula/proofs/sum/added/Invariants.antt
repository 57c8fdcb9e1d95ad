use Rattle.std.proofs.Common.{◌≡◌, take, Some}
use Rattle.hs_norm_formula.specs.Sum.{sum_of, added}
use Rattle.hs_norm_formula.proofs.sum.added.Given as goal

abbrev pub invariant-loop-term : goal.invariant-loop-term
invariant-loop-term l = Some (sum_of l.found.items l.constant) ≡ added (take l.term-index l.terms)
