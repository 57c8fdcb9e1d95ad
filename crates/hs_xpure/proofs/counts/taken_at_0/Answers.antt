use Rattle.std.proofs.Common.{Some}
use Rattle.hs_heap.specs.declared.definitions.PredDef.{PredDef}
use Rattle.hs_xpure.specs.Counts.{capped, inv_taken}
use Rattle.hs_xpure.proofs.Capped.{pred_there, counts_step, counts_all}
use Rattle.hs_xpure.proofs.counts.taken_at_0.Goals as goal

pub inv_taken-requires-clause-there : goal.inv_taken-requires-clause-there
inv_taken-requires-clause-there c = pred_there c.args.defs.now c.as_slice-p-items.result.now c.loop-i.i c.in-Ok.pred c.p-item.result c.as_slice-p-items.ensures c.loop-i-test.true c.p-item.is c.in-Ok.ensures.1

pub loop-i-preserved : goal.loop-i-preserved
loop-i-preserved c = counts_step (λ (p : PredDef). capped (inv_taken (Some p))) c.as_slice-p-items.result.now c.loop-i.i c.p-item.result c.loop-i.counts c.push.new.self c.in_ok-inv_taken.field-0 c.loop-i-test.true c.p-item.is c.loop-i.invariant c.in_ok-inv_taken.ensures c.in_ok-push.ensures.ok

pub returns : goal.returns
returns c = counts_all (λ (p : PredDef). capped (inv_taken (Some p))) c.as_slice-p-items.result.now c.args.defs.now.preds c.loop-i.i c.loop-i.counts c.as_slice-p-items.ensures c.loop-i-test.false c.loop-i.invariant
