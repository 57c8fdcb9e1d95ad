use Rattle.std.proofs.Common.{arith}
use Rattle.hs_lower_scope.proofs.Params.{pushed}
use Rattle.hs_lower_scope.proofs.locals.push_params.Goals as goal

pub loop-p-preserved : goal.loop-p-preserved
loop-p-preserved c = pushed c.args.params.now c.loop-p.p-index _ c.p-item.result c.args.variables.now c.loop-p.variables c.push.new.variables (omega arith) c.loop-p.invariant c.p-item.is c.in_ok-push.ensures
