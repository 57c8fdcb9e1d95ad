use Rattle.std.proofs.Common.{refl}
use Rattle.hs_quantifiers.proofs.formula.copied.Goals as goal

pub returns-in-Ok : goal.returns-in-Ok
returns-in-Ok c = record { same = c.in-Ok.ensures; memory = tt }

pub returns-in-Err : goal.returns-in-Err
returns-in-Err c = record { same = tt; memory = refl }
