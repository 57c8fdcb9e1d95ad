use Rattle.std.proofs.Common.{arith}
use Rattle.hs_cooper_forms.specs.Reading.{form_of}
use Rattle.hs_cooper.proofs.NarrowStages.{narrow-stage2}
use Rattle.hs_cooper.proofs.elimination.second_stage.Goals as goal

pub returns-clause-narrow : goal.returns-clause-narrow
returns-clause-narrow c = narrow-stage2 c.args.x (form_of c.args.f.now) c.in-Some.by c.in-Some.ensures.1 (omega (arith, c.in-Some.ensures.0, c.in-Some.ensures.1)) c.in_ok-apply.ensures.narrow
