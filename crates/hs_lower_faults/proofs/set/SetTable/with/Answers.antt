use Rattle.std.proofs.Common.{arith}
use Rattle.hs_lower_faults.specs.Setting.{with_slot}
use Rattle.hs_lower_faults.specs.View.{set_of}
use Rattle.hs_lower_faults.proofs.Tables.{table_more, table_with}
use Rattle.hs_lower_faults.proofs.set.SetTable.with.Goals as goal

pub loop-i-preserved : goal.loop-i-preserved
loop-i-preserved c = table_more (with_slot c.args.k (set_of c.args.self.now)) c.loop-i.i c.loop-i.bits c.push.new.self c.has_with.result c.loop-i.invariant c.has_with.ensures c.in_ok-push.ensures.ok

pub returns : goal.returns
returns c = table_with c.args.k c.loop-i.i c.args.self.now c.loop-i.bits (omega arith) c.loop-i.invariant
