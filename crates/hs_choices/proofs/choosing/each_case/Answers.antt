use Rattle.std.proofs.Common.{◌+◌, true, refl, arith}
use Rattle.std.proofs.lemmas.Grind.{common_steps}
use Rattle.hs_goal.specs.Classes.{nothing}
use Rattle.hs_choices.proofs.Passing.{places-here}
use Rattle.hs_choices.proofs.choosing.each_case.Goals as goal

pub loop-i-preserved : goal.loop-i-preserved
loop-i-preserved c =
    let e = places-here (λ d. true) (c.loop-i.i + 1) c.loop-i.i c.args.cases.now nothing c.loop-i-test.true refl in
    grind (arith, common_steps, e)
