use Rattle.std.proofs.Common.{◌∙◌}
use Rattle.hs_pure.specs.Assertion.{bag_term_of}
use Rattle.hs_bag.specs.Counting.{layout_of}
use Rattle.hs_bag.proofs.Blocks.{own_fits}
use Rattle.hs_bag.proofs.Reducing.{place_fits, contained_is}
use Rattle.hs_bag.proofs.layout.Layout.contained.Goals as goal

pub positive_at-requires-clause-block : goal.positive_at-requires-clause-block
positive_at-requires-clause-block c = own_fits c.args.self.now c.args.block (bag_term_of c.args.b.now) c.in_ok-x.x.own c.in_ok-x.ensures.own c.requires.fits c.requires.room

pub positive_at-requires-clause-place : goal.positive_at-requires-clause-place
positive_at-requires-clause-place c = place_fits c.args.self.now c.args.a.now c.lin_place-place.result c.lin_place-place.ensures

pub returns-clause-pure : goal.returns-clause-pure
returns-clause-pure c =
    c.in_ok-pure.ensures
    ∙ contained_is (layout_of c.args.self.now) c.args.asserted c.args.a.now (bag_term_of c.args.b.now) c.args.block c.lin_place-place.result _ _ _ c.in_ok-x.x.own
    c.in_ok-x.ensures.pure c.in_ok-x.ensures.own c.lin_place-place.ensures c.in_ok-positive.ensures c.in_ok-literal.ensures
