use Rattle.hs_search.proofs.Opened.{crowded, opened, halted}
use Rattle.hs_search.proofs.sleek.SleekCalculus.premises.Goals as goal

pub returns-in-Err-NotApplicable-clause-err : goal.returns-in-Err-NotApplicable-clause-err
returns-in-Err-NotApplicable-clause-err c =
    crowded c.args.self.now.defs.now c.args.self.now.limits c.args.goal.now c.args.rule.now c.requires.choice c.choices_have_conditions.ensures c.requires.goal
    (rw c.in-Err-NotApplicable.field-0-is at c.in-Err-NotApplicable.ensures.exact)

pub returns-in_ok-moved-in-Ok-None-clause-ok : goal.returns-in_ok-moved-in-Ok-None-clause-ok
returns-in_ok-moved-in-Ok-None-clause-ok c =
    opened c.args.self.now.defs.now c.args.self.now.limits c.args.goal.now c.args.rule.now c.requires.choice c.choices_have_conditions.ensures
    c.subgoals_are_well_formed.ensures c.requires.goal c.in-Ok.goals c.in_ok-moved-in-Ok-None.field-0.items c.in-Ok.ensures.exact
    (rw c.in-Ok-None.field-0-is at c.in-Ok-None.ensures.reply) c.in_ok-moved-in-Ok-None.ensures

pub returns-in-Err-clause-err : goal.returns-in-Err-clause-err
returns-in-Err-clause-err c =
    halted c.args.self.now.defs.now c.args.self.now.limits c.args.goal.now c.args.rule.now c.requires.choice c.choices_use_up.ensures c.in-Err.error c.stop_of.result
    c.stop_of.ensures c.in-Err.ensures.spent
