use Rattle.std.proofs.Common.{rules, refl}
use Rattle.hs_elimination.specs.Linear.{place}
use Rattle.hs_elimination.specs.Cases.{substitute_lin}
use Rattle.hs_unit.proofs.Smalls.{wide_not_small}
use Rattle.hs_unit.proofs.solution.put_one.Goals as goal

pub returns-in-Err-Wide : goal.returns-in-Err-Wide
returns-in-Err-Wide c = rw (wide_not_small (substitute_lin (place c.args.x) c.args.u.now c.args.a.now) (c.in-Err-Wide.ensures.wide (search rules))) refl
