use Rattle.std.proofs.Common.{◌≡◌, true, take}
use Rattle.std.specs.List.{All}
use Rattle.hs_pure.specs.Eval.{stack_of}
use Rattle.hs_counts.specs.Listed.{is_listed, AreSaid}
use Rattle.hs_counts.proofs.rebuild.rebuild_bags.Given as goal

abbrev pub invariant-loop-c : goal.invariant-loop-c
invariant-loop-c l = record {
  said : AreSaid (stack_of l.v) l.counts l.bags;
  all : All (λ c. is_listed l.bags c.of ≡ true) (take l.c-index l.counts);
}
