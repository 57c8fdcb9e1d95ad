use Rattle.hs_side_rules.proofs.Ordered.{left_ordered, right_ordered}
use Rattle.hs_side_rules.proofs.equations.is_sum_equation.Goals as goal

pub coefficient-requires : goal.coefficient-requires
coefficient-requires c = left_ordered c.args.a.now c.args.b.now c.requires

pub coefficient-requires-then-is_only : goal.coefficient-requires-then-is_only
coefficient-requires-then-is_only c = right_ordered c.args.a.now c.args.b.now c.requires
