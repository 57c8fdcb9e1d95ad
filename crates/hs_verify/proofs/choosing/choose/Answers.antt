use Rattle.hs_verify.proofs.Rules.{chosen}
use Rattle.hs_verify.proofs.choosing.choose.Goals as goal

pub returns-in_ok-choice-in-Some : goal.returns-in_ok-choice-in-Some
returns-in_ok-choice-in-Some c =
    chosen c.args.program.now c.args.at.now c.simple_states_have_rules.ensures c.requires c.in-Some.ensures.0 c.instruction.result.now c.instruction.ensures
    c.in_ok-choice-in-Some.choice c.in_ok-choice-in-Some.ensures
