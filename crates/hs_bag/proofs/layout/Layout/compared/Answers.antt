use Rattle.std.proofs.Common.{ap, ◌∙◌, arith}
use Rattle.hs_pure.specs.Assertion.{assertion_of, bag_term_of, both}
use Rattle.hs_bag.specs.Counting.{layout_of}
use Rattle.hs_bag.proofs.Blocks.{own_fits}
use Rattle.hs_bag.proofs.Reducing.{compared_is}
use Rattle.hs_bag.proofs.layout.Layout.compared.Goals as goal

pub stated-requires-clause-first : goal.stated-requires-clause-first
stated-requires-clause-first c = own_fits c.args.self.now c.args.block (bag_term_of c.args.a.now) c.in_ok-x.x.own c.in_ok-x.ensures.own c.requires.fits (omega arith)

pub stated-requires-clause-second : goal.stated-requires-clause-second
stated-requires-clause-second c = own_fits c.args.self.now c.in_ok-x.x.next (bag_term_of c.args.b.now) c.in_ok-y.y.own c.in_ok-y.ensures.own c.requires.fits (omega (arith, c.in_ok-x.ensures.next))

pub returns-clause-pure : goal.returns-clause-pure
returns-clause-pure c =
    c.in_ok-pure.ensures ∙ ap (λ d. both d (assertion_of c.in_ok-literal.literal)) c.in_ok-defined.ensures
    ∙ compared_is (layout_of c.args.self.now) c.args.asserted c.args.relation (bag_term_of c.args.a.now) (bag_term_of c.args.b.now) c.args.new c.args.block c.in_ok-x.x.next _ _ _ c.in_ok-x.x.own c.in_ok-y.y.own
    c.in_ok-x.ensures.pure c.in_ok-x.ensures.own c.in_ok-x.ensures.next c.in_ok-y.ensures.pure c.in_ok-y.ensures.own c.in_ok-literal.ensures
