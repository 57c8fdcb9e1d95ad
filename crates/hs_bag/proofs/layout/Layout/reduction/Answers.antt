use Rattle.std.proofs.Common.{rules, arith}
use Rattle.hs_pure.specs.Assertion.{assertion_of}
use Rattle.hs_bag.specs.Counting.{layout_of}
use Rattle.hs_bag_parts.specs.Substituting.{way_of}
use Rattle.hs_bag.proofs.Whole.{has_elements, wide_whole}
use Rattle.hs_bag.proofs.layout.Layout.reduction.Goals as goal

pub reduced-requires-clause-elements : goal.reduced-requires-clause-elements
reduced-requires-clause-elements c = omega (arith, has_elements (way_of c.args.way) c.args.self.now.start (assertion_of c.args.f.now) (layout_of c.args.self.now) c.requires.layout)

pub returns-in_err-literals-clause-wide : goal.returns-in_err-literals-clause-wide
returns-in_err-literals-clause-wide c = λ h.
    wide_whole (way_of c.args.way) c.args.self.now.start (assertion_of c.args.f.now) (layout_of c.args.self.now) c.requires.layout c.args.self.now.blocks c.end.result c.requires.blocks c.end.ensures (c.in_err-literals.ensures.wide (search rules))
