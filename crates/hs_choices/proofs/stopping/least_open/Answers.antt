use Rattle.std.proofs.Common.{◌+◌, false, sym, subst, take}
use Rattle.hs_choices.specs.Stuck.{IsLeastOf}
use Rattle.hs_choices.proofs.Least.{least_more}
use Rattle.hs_choices.proofs.stopping.least_open.Goals as goal

pub loop-v-preserved : goal.loop-v-preserved
loop-v-preserved c =
    let opens = c.args.opens.now in
    let p = c.args.p.now in
    let i = c.loop-v.v-index in
    subst (IsLeastOf (take (i + 1) opens) p) (sym c.least_with-least.ensures) (least_more opens p i (record { number = 0; bag = false }) c.loop-v.least c.loop-v-test.true c.loop-v.invariant)
