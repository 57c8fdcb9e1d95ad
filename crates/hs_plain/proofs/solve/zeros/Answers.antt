use Rattle.hs_elimination.proofs.Simple.{no_quantifiers}
use Rattle.hs_plain.proofs.solve.zeros.Goals as goal

pub eval-requires : goal.eval-requires
eval-requires c = record { no_quantifiers = no_quantifiers c.args.p.now c.requires }
