use Rattle.std.proofs.Common.{◌∙◌}
use Rattle.hs_tree.specs.declared.method.BlockTree.{out-BlockTree}
use Rattle.hs_lower_faults.specs.Faults as faults
use Rattle.hs_lower.specs.Lowering.{or_long, code_of}
use Rattle.hs_lower.proofs.lowering.method_of.Goals as goal

pub returns-clause-fault : goal.returns-clause-fault
returns-clause-fault c = c.or_long-fault.ensures
    ∙ (λ j. or_long (out-BlockTree c.args.m.now.block).end (c.in_ok-made.ensures j).code (c.in_ok-method_fault.ensures j))
    ∙ (λ j. or_long (out-BlockTree c.args.m.now.block).end (code_of (c.in_ok-scope.ensures j) c.args.m.now).code (faults.method_fault (c.in_ok-scope.ensures j) c.args.m.now))
