use Rattle.hs_pure.specs.Assertion.{assertion_of}
use Rattle.hs_quantifiers.proofs.Stages.{size-passes, wide-passes}
use Rattle.hs_quantifiers.proofs.quantifiers.for_some.Goals as goal

pub returns-clause-atoms : goal.returns-clause-atoms
returns-clause-atoms c = λ h. size-passes c.args.atoms c.args.u (assertion_of c.args.p) (c.eliminate.ensures.atoms h)

pub returns-clause-wide : goal.returns-clause-wide
returns-clause-wide c = λ h. wide-passes c.args.atoms c.args.u (assertion_of c.args.p) (c.eliminate.ensures.wide h)
