use Rattle.std.proofs.Common.{◌*◌}
use Rattle.hs_pure.specs.Assertion.{bag_term_of}
use Rattle.hs_bag_parts.specs.Size.{bag_comparisons, times_stated}
use Rattle.hs_bag_parts.proofs.Stopped.{times_capped, sum_capped}
use Rattle.hs_bag_parts.proofs.size.stated.Goals as goal

pub returns : goal.returns
returns c =
    sum_capped (c.args.w * bag_comparisons (bag_term_of c.args.b.now)) (times_stated c.args.w c.args.asserted c.args.n) c.times-defined.result c.times_stated-literal.result c.capped.result c.args.most
    (times_capped c.args.w c.args.most (bag_comparisons (bag_term_of c.args.b.now)) c.bag_comparisons.result c.times-defined.result c.bag_comparisons.ensures c.times-defined.ensures)
    c.times_stated-literal.ensures
    c.capped.ensures
