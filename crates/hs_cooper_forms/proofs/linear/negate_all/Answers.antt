use Rattle.std.proofs.Common.{arith, negsuc}
use Rattle.std.proofs.lemmas.Grind.{common_steps}
use Rattle.hs_elimination.specs.Linear.{times, IsWideLin}
use Rattle.hs_cooper_forms.proofs.Members.{each_more}
use Rattle.hs_cooper_forms.proofs.linear.negate_all.Goals as goal

pub loop-a-preserved : goal.loop-a-preserved
loop-a-preserved c = record {
  sums = grind (arith, common_steps);
  narrow = each_more (λ a. ¬ (IsWideLin (times (negsuc 0) a))) c.args.sums.now c.loop-a.a-index c.a-item.result c.loop-a-test.true c.a-item.is c.loop-a.invariant.narrow c.in_ok-negated.ensures.narrow;
}
