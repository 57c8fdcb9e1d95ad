use Rattle.std.proofs.Common.{◌≡◌, take, ◌++◌}
use Rattle.std.specs.List.{flat_map}
use Rattle.hs_norm_formula.specs.Splice.{conjuncts}
use Rattle.hs_norm_formula.proofs.splice.+splice.Given as goal

abbrev pub invariant-splice_all-loop-part : goal.invariant-splice_all-loop-part
invariant-splice_all-loop-part l = l.into ≡ l.fn.into ++ flat_map conjuncts (take l.part-index l.parts)
