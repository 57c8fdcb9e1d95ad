use Rattle.std.proofs.Common.{◌≡◌, ◌+◌, ◌^◌, take}
use Rattle.hs_norm_formula.specs.Sum.{weight}
use Rattle.hs_norm_formula.proofs.sum.is_light.Given as goal

abbrev pub invariant-loop-term : goal.invariant-loop-term
invariant-loop-term l = l.room + weight (take l.term-index l.terms) ≡ 2 ^ 126
