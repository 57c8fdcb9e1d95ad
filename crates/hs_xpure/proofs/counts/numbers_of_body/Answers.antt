use Rattle.std.proofs.Common.{◌∙◌, sym, ap}
use Rattle.std.specs.Option.{option_copied}
use Rattle.hs_xpure.proofs.Own.{body_told_of}
use Rattle.hs_xpure.proofs.counts.numbers_of_body.Goals as goal

pub body_taken-requires-clause-there : goal.body_taken-requires-clause-there
body_taken-requires-clause-there c = sym c.pred_of.ensures ∙ ap option_copied c.in-Some.is

pub returns-in-Some : goal.returns-in-Some
returns-in-Some c = body_told_of c.args.defs.now c.requires c.args.pred c.in-Some.p.now (sym c.pred_of.ensures ∙ ap option_copied c.in-Some.is) c.args.level c.as_slice.result.now c.body_taken.result (c.as_slice.ensures ∙ c.in_ok-counts.ensures) c.body_taken.ensures
