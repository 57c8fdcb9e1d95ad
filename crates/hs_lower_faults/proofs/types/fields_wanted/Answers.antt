use Rattle.std.proofs.Common.{arith, ℕ, Option}
use Rattle.hs_lower_scope.specs.Scope.{Name, field_type}
use Rattle.hs_lower_scope.specs.View.{shown}
use Rattle.hs_lower_faults.proofs.Args.{args_more, args_end}
use Rattle.hs_lower_faults.proofs.types.fields_wanted.Goals as goal

pub loop-i-preserved : goal.loop-i-preserved
loop-i-preserved c = args_more (shown c.args.scope.now) (λ (f : Name × Option ℕ). field_type f.1) c.args.fields.now c.args.es.now c.loop-i.i c.index-fields-i.result _ c.index-es-i.result _ c.loop-i.found c.wanted-found.result
    (omega arith) (omega arith) c.field_type.ensures c.index-es-i.is c.loop-i.invariant c.wanted-found.ensures

pub returns : goal.returns
returns c = args_end (shown c.args.scope.now) (λ (f : Name × Option ℕ). field_type f.1) c.args.fields.now c.args.es.now c.loop-i.i _ c.loop-i.found (omega arith) c.loop-i.invariant
