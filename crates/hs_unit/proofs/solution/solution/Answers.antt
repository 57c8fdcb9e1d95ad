use Rattle.std.proofs.Common.{rules}
use Rattle.hs_elimination.specs.Linear.{place}
use Rattle.hs_unit.proofs.Smalls.{solution_fits, unit_passed}
use Rattle.hs_unit.proofs.solution.solution.Goals as goal

pub returns-in-Err-Wide : goal.returns-in-Err-Wide
returns-in-Err-Wide c =
    absurd (solution_fits (place c.args.t.0) c.args.f.now c.requires.small _ (unit_passed c.opposite.result c.opposite.ensures.unit) c.in-Ok.others c.in-Ok.ensures.sum (c.in-Err-Wide.ensures.wide (search rules)))
