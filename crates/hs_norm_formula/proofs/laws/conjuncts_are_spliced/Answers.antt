use Rattle.hs_norm_formula.proofs.Splicing.{conjuncts_are_spliced}
use Rattle.hs_norm_formula.proofs.laws.conjuncts_are_spliced.Goals as goal

pub returns : goal.returns
returns c = conjuncts_are_spliced
