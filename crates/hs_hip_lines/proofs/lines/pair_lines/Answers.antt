use Rattle.hs_hip_lines.proofs.Telling.{method_there, telling_methods_none, telling_methods_push, telling_methods_count}
use Rattle.hs_hip_lines.proofs.lines.pair_lines.Goals as goal

pub loop-method-init : goal.loop-method-init
loop-method-init c =
    telling_methods_none c.args.defs.now c.args.program.now c.args.limits.now c.args.unshown.now c.args.methods.now c.new-lines.result.items c.new-lines.ensures.items

pub method_lines-requires-clause-there : goal.method_lines-requires-clause-there
method_lines-requires-clause-there c =
    (method_there c.args.program.now c.args.methods.now c.loop-method.method-index c.loop-method.m c.method-item.result c.requires.kept
    c.loop-method.invariant.number_is c.loop-method-test.true c.method-item.is).0

pub method_lines-requires-clause-pairs : goal.method_lines-requires-clause-pairs
method_lines-requires-clause-pairs c =
    (method_there c.args.program.now c.args.methods.now c.loop-method.method-index c.loop-method.m c.method-item.result c.requires.kept
    c.loop-method.invariant.number_is c.loop-method-test.true c.method-item.is).1

pub loop-method-preserved : goal.loop-method-preserved
loop-method-preserved c =
    telling_methods_push c.args.defs.now c.args.program.now c.args.limits.now c.args.unshown.now c.args.methods.now c.loop-method.lines.items c.in_ok-more.more.items c.append.new.self.items
    c.loop-method.method-index c.loop-method.m c.method-item.result c.loop-method.invariant c.loop-method-test.true c.method-item.is c.in_ok-more.ensures c.in_ok-append.ensures.items

pub returns-clause-few : goal.returns-clause-few
returns-clause-few c =
    telling_methods_count c.args.defs.now c.args.program.now c.args.limits.now c.args.unshown.now c.args.methods.now c.loop-method.lines.items c.loop-method.method-index c.loop-method.m
    c.loop-method.invariant c.loop-method-test.false
