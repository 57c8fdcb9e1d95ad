use Rattle.hs_entail_lines.specs.Lines.{IsEntailmentLine}
use Rattle.hs_entail_lines.proofs.Told.{telling_push}
use Rattle.hs_entail_lines.proofs.lines.entailment_lines.Goals as goal

pub loop-e-preserved : goal.loop-e-preserved
loop-e-preserved c =
    telling_push (IsEntailmentLine c.args.defs.now c.args.limits.now c.args.unshown.now) c.args.entailments.now c.loop-e.lines.items c.push.new.self.items c.loop-e.e-index c.loop-e.number
    c.e-item.result c.in_ok-entailment_line.field-0 c.loop-e.invariant c.loop-e-test.true c.e-item.is c.in_ok-entailment_line.ensures c.in_ok-push.ensures.items
