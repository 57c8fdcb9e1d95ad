use Rattle.hs_pure.specs.Assertion.{bag_term_of}
use Rattle.hs_bag_parts.specs.Size.{bag_comparisons, times_stated}
use Rattle.std.proofs.Common.{◌+◌, ◌*◌}
use Rattle.hs_bag_parts.proofs.Stopped.{times_capped, stated_capped, sum_capped}
use Rattle.hs_bag_parts.proofs.size.compared.Goals as goal

pub returns : goal.returns
returns c =
    sum_capped (c.args.w * (bag_comparisons (bag_term_of c.args.a.now) + bag_comparisons (bag_term_of c.args.b.now))) (times_stated c.args.w c.args.asserted 1) c.times-defined.result c.times_stated-literal.result c.capped.result c.args.most
    (times_capped c.args.w c.args.most (bag_comparisons (bag_term_of c.args.a.now) + bag_comparisons (bag_term_of c.args.b.now)) c.capped-parts.result c.times-defined.result
    (sum_capped (bag_comparisons (bag_term_of c.args.a.now)) (bag_comparisons (bag_term_of c.args.b.now)) c.bag_comparisons.result c.bag_comparisons-2.result c.capped-parts.result c.args.most c.bag_comparisons.ensures c.bag_comparisons-2.ensures c.capped-parts.ensures)
    c.times-defined.ensures)
    (stated_capped c.args.w c.args.most c.args.asserted 1 c.capped-one.result c.times_stated-literal.result c.capped-one.ensures c.times_stated-literal.ensures)
    c.capped.ensures
