use Rattle.hs_prule.proofs.Applied.{call_there}
use Rattle.hs_prule.proofs.applying.applied.Goals as goal

pub is_rule_of-requires : goal.is_rule_of-requires
is_rule_of-requires c = call_there c.args.defs.now c.args.program.now c.args.at.now c.requires.sound c.requires.fits c.instruction-instr.result.now c.instruction-instr.ensures
