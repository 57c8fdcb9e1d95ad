use Rattle.std.proofs.Common.{◌∙◌}
use Rattle.hs_pure.specs.Assertion.{assertion_of, bag_term_of}
use Rattle.hs_bag.specs.Counting.{layout_of}
use Rattle.hs_bag_parts.specs.Substituting.{way_of}
use Rattle.hs_bag.proofs.Blocks.{own_fits}
use Rattle.hs_bag.proofs.Reducing.{all_of_is}
use Rattle.hs_bag.proofs.layout.Layout.all_of.Goals as goal

pub held_or_not-requires-clause-block : goal.held_or_not-requires-clause-block
held_or_not-requires-clause-block c = own_fits c.args.self.now c.args.block (bag_term_of c.args.b.now) c.in_ok-x.x.own c.in_ok-x.ensures.own c.requires.fits c.requires.room

pub returns-clause-exact : goal.returns-clause-exact
returns-clause-exact c =
    c.in_ok-pure.ensures
    ∙ all_of_is (layout_of c.args.self.now) (way_of c.args.how.way) c.args.how.end c.args.asserted c.args.u (bag_term_of c.args.b.now) (assertion_of c.args.p.now) c.args.new c.args.block _ _ c.in_ok-x.x.own
    c.in_ok-x.ensures.pure c.in_ok-x.ensures.own c.in_ok-literal.ensures.exact
