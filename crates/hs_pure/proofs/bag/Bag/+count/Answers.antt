use Rattle.std.proofs.Common.{◌∙◌}
use Rattle.std.proofs.lemmas.Int.{to_z-of_z}
use mir.Syntax.{w128}
use Rattle.hs_pure.specs.Eval.{listed_count}
use Rattle.hs_pure.proofs.EvalBags.{name_counted}
use Rattle.hs_pure.proofs.bag.Bag.+count.Goals as goal

pub returns-in-Name : goal.returns-in-Name
returns-in-Name t c = name_counted c.args.values.now c.args.self.now c.in-Name.v c.args.x c.count_in.result c.in-Name.is
    (c.count_in.ensures ∙ (λ i. listed_count (c.bag.ensures i) (to_z-of_z w128 c.args.x c.ranges.x i)))
