use Rattle.hs_verify.proofs.Searches.{asked_fits}
use Rattle.hs_verify.proofs.asking.ask.Goals as goal

pub searched-requires-clause-fits : goal.searched-requires-clause-fits
searched-requires-clause-fits c =
    asked_fits c.args.defs.now c.args.limits.now c.args.program.now c.args.at.now c.args.rule.now c.asked_goals_fit.ensures c.requires.program c.requires.fits c.requires.form
    c.in-Ok-Some.field-0 c.in-Ok-Some.goal c.in-Ok-Some.field-0-is c.in-Ok-Some.ensures.exact
