use Rattle.std.proofs.Common.{◌∙◌, arith}
use Rattle.hs_lower_faults.specs.Setting.{both_set}
use Rattle.hs_lower_faults.specs.View.{set_of}
use Rattle.hs_lower_faults.proofs.Tables.{table_more, table_both}
use Rattle.hs_lower_faults.proofs.set.SetTable.both.Goals as goal

pub loop-i-preserved : goal.loop-i-preserved
loop-i-preserved c = table_more (both_set (set_of c.args.self.now) (set_of c.args.other.now)) c.loop-i.i c.loop-i.bits c.push.new.self c.has_both.result c.loop-i.invariant c.has_both.ensures c.in_ok-push.ensures.ok

pub returns : goal.returns
returns c = (λ j. set_of (record { bits = c.loop-i.bits; rest = c.rest_of_both-rest.ensures j })) ∙ table_both c.loop-i.i c.args.self.now c.args.other.now c.loop-i.bits (omega arith) c.loop-i.invariant
