use Rattle.std.proofs.Common.{◌≡◌, None, take, map}
use Rattle.std.specs.List.{fold}
use Rattle.hs_lower_faults.specs.First.{or_earlier}
use Rattle.hs_lower.specs.Lowering.{method_of, fault_of}
use Rattle.hs_lower.proofs.lowering.all_of.Given as goal

abbrev pub invariant-loop-m : goal.invariant-loop-m
invariant-loop-m l = record {
  methods : l.all.methods ≡ map (method_of l.r) (take l.m-index l.r.methods);
  fault : l.all.fault ≡ fold or_earlier None (map (fault_of l.r) (take l.m-index l.r.methods));
}
