use Rattle.std.proofs.Common.{arith, refl}
use Rattle.hs_norm.specs.declared.resolved.Param.{Param}
use Rattle.hs_lower_scope.specs.View.{shown}
use Rattle.hs_lower_faults.proofs.Args.{args_more, args_end}
use Rattle.hs_lower_faults.proofs.types.params_wanted.Goals as goal

pub loop-i-preserved : goal.loop-i-preserved
loop-i-preserved c = args_more (shown c.args.scope.now) (λ (p : Param). p.kind) c.args.params.now c.args.es.now c.loop-i.i c.index-params-i.result _ c.index-es-i.result _ c.loop-i.found c.wanted-found.result
    (omega arith) (omega arith) refl c.index-es-i.is c.loop-i.invariant c.wanted-found.ensures

pub returns : goal.returns
returns c = args_end (shown c.args.scope.now) (λ (p : Param). p.kind) c.args.params.now c.args.es.now c.loop-i.i _ c.loop-i.found (omega arith) c.loop-i.invariant
