use Rattle.std.proofs.Common.{refl}
use Rattle.hs_pure.specs.Assertion.{assertion_of}
use Rattle.hs_bag_parts.proofs.Stopped.{counted_capped}
use Rattle.hs_bag_parts.proofs.size.reduction_comparisons.Goals as goal

pub returns : goal.returns
returns c =
    counted_capped c.args.bags c.args.w c.args.most (assertion_of c.args.f.now) c.args.w c.capped-some.result c.times-row.result c.args.bags c.times-counts.result c.reduced-literals.result c.capped.result
    refl c.capped-some.ensures c.times-row.ensures refl c.times-counts.ensures c.reduced-literals.ensures c.capped.ensures
