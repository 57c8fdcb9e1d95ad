use Rattle.std.proofs.Common.{None}
use Rattle.hs_lower_faults.specs.First.{or_earlier}
use Rattle.hs_lower.specs.Lowering.{method_of, fault_of}
use Rattle.hs_lower.proofs.Listed.{mapped_more, folded_more}
use Rattle.hs_lower.proofs.lowering.all_of.Goals as goal

pub loop-m-preserved : goal.loop-m-preserved
loop-m-preserved c = record {
  methods = mapped_more (method_of c.args.r.now) c.args.r.now.methods c.as_slice-m-items.result.now c.loop-m.m-index c.m-item.result c.as_slice-m-items.ensures c.loop-m-test.true c.m-item.is
      c.loop-m.all.methods c.add.new.all.methods c.loop-m.invariant.methods c.in_ok-add.ensures.methods;
  fault = folded_more (fault_of c.args.r.now) c.args.r.now.methods c.as_slice-m-items.result.now c.loop-m.m-index c.m-item.result c.as_slice-m-items.ensures c.loop-m-test.true c.m-item.is
      or_earlier None c.loop-m.all.fault c.add.new.all.fault c.loop-m.invariant.fault c.in_ok-add.ensures.fault;
}
