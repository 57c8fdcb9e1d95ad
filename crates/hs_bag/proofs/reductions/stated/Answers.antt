use Rattle.std.proofs.Common.{rules}
use Rattle.hs_bag.proofs.Renaming.{formula_fits}
use Rattle.hs_bag.proofs.reductions.stated.Goals as goal

pub unreachable-requires : goal.unreachable-requires
unreachable-requires c = formula_fits c.args.l.now.start c.args.f.now c.requires.ordered c.requires.above (c.in-Err-Wide.ensures.wide (search rules))
