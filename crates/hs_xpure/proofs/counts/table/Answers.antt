use Rattle.std.proofs.Common.{◌∙◌, ap}
use Rattle.hs_xpure.specs.Counts.{taken_above}
use Rattle.hs_xpure.proofs.Capped.{table_step, table_all}
use Rattle.hs_xpure.proofs.counts.table.Goals as goal

pub loop-below-preserved : goal.loop-below-preserved
loop-below-preserved c = table_step c.args.defs.now c.loop-below.below c.loop-below.counts c.in_ok-counts-2.counts c.loop-below.invariant (c.in_ok-counts-2.ensures ∙ ap (taken_above c.args.defs.now) c.as_slice.ensures)

pub returns : goal.returns
returns c = table_all c.args.defs.now c.loop-below.below c.args.level c.loop-below.counts c.loop-below-test.false c.loop-below.auto.below-end c.loop-below.invariant
