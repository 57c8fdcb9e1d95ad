use Rattle.hs_pure.specs.Assertion.{bag_term_of}
use Rattle.hs_pure.specs.Values.{stack_at, PairFits, IsAtMost}
use Rattle.hs_pure.proofs.EvalBags.{name_told}
use Rattle.hs_pure.proofs.eval.+is_within.Goals as goal

pub returns-in-Name : goal.returns-in-Name
returns-in-Name t c =
    name_told (PairFits (stack_at c.args.values.now) (bag_term_of c.args.a.now) (bag_term_of c.args.b.now)) (IsAtMost (stack_at c.args.values.now) (bag_term_of c.args.a.now) (bag_term_of c.args.b.now))
    c.args.values.now c.args.from.now c.in-Name.v c.bag.result.now c.all_within.result c.in-Name.is c.bag.ensures c.all_within.ensures
