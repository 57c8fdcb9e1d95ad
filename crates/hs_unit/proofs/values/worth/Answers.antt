use Rattle.hs_elimination.specs.Linear.{place}
use Rattle.hs_unit.proofs.Bounds.{coefficient-passed}
use Rattle.hs_unit.proofs.values.worth.Goals as goal

pub product_plus-requires-clause-factor : goal.product_plus-requires-clause-factor
product_plus-requires-clause-factor c = coefficient-passed c.coefficient.result c.args.f.now (place c.in-Some.v) c.requires.small c.coefficient.ensures
