use Rattle.std.proofs.Common.{◌≡◌, map, take}
use Rattle.hs_elimination.specs.Linear.{scale_term}
use Rattle.hs_bag_parts.proofs.sums.scale_terms.Given as goal

abbrev pub invariant-loop-v : goal.invariant-loop-v
invariant-loop-v l = l.terms ≡ map (scale_term l.k) (take l.v-index l.a)
