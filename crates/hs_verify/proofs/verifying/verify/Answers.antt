use Rattle.std.proofs.Common.{◌<◌, Option, refl, subst, arith}
use Rattle.hs_program_rules.specs.States.{entry}
use Rattle.hs_verify.specs.declared.answer.HipAnswer.{HipAnswer}
use Rattle.hs_verify.specs.Visited.{IsNext}
use Rattle.hs_verify.proofs.Turns.{begun, turn_conclude, turn_states, turn_answer, turn_visit, less_visit}
use Rattle.hs_verify.proofs.verifying.verify.Goals as goal

pub loop-task-init : goal.loop-task-init
loop-task-init c =
    begun c.args.defs.now c.args.program.now c.args.limits.now (entry c.args.program.now c.args.method c.args.pair)
    (record {
      fits = c.entries_fit.ensures c.args.defs.now c.args.program.now c.requires.program c.args.method c.args.pair c.requires.there;
      prepared = c.entries_are_prepared.ensures c.args.defs.now c.args.program.now c.requires.program c.args.method c.args.pair c.requires.there;
    })
    c.new-nodes.result c.new-ends.result c.new-tasks.result c.push.new.self c.in_ok-entry.field-0 c.new-nodes.ensures c.new-ends.ensures c.new-tasks.ensures
    c.in_ok-entry.ensures.exact c.in_ok-push.ensures.ok

pub loop-task-preserved-in-Some-taken : goal.loop-task-preserved-in-Some-taken
loop-task-preserved-in-Some-taken c =
    turn_conclude c.args.defs.now c.args.program.now c.args.limits.now (entry c.args.program.now c.args.method c.args.pair)
    c.loop-task.states c.loop-task.nodes c.loop-task.ends c.loop-task.tasks c.pop.new.self c.in-Some.task c.loop-task.invariant c.in-Some.ensures
    c.in-Some-taken.taken c.in-Some-taken.is c.conclude.new.nodes c.conclude.new.ends c.in_ok-conclude.ensures

pub returns-then-states-limits : goal.returns-then-states-limits
returns-then-states-limits c = record {
  answer = turn_states c.args.defs.now c.args.program.now c.args.limits.now (entry c.args.program.now c.args.method c.args.pair)
      c.loop-task.states c.loop-task.nodes c.loop-task.ends c.loop-task.tasks c.pop.new.self c.in-Some.task c.loop-task.invariant c.in-Some.ensures
      c.in_default-taken.is (omega arith);
}

pub returns-in-Some-answer : goal.returns-in-Some-answer
returns-in-Some-answer c =
    let few = c.loop-task.invariant.few in
    let less : c.loop-task.states < c.args.limits.now.goals = omega arith in
    let next = subst (λ (a : Option HipAnswer). IsNext c.args.defs.now c.args.program.now c.args.limits.now c.in-Some.task.at c.loop-task.nodes c.visit_next.new.nodes c.pop.new.self c.visit_next.new.tasks a)
    c.in-Some-answer.is c.in_ok-answer.ensures in
    record {
      answer = turn_answer c.args.defs.now c.args.program.now c.args.limits.now (entry c.args.program.now c.args.method c.args.pair)
          c.loop-task.states c.loop-task.nodes c.loop-task.ends c.loop-task.tasks c.pop.new.self c.in-Some.task c.loop-task.invariant c.in-Some.ensures
          c.in_default-taken.is less c.visit_next.new.nodes c.pop.new.self c.visit_next.new.tasks c.in-Some-answer.answer next;
    }

pub loop-task-smaller : goal.loop-task-smaller
loop-task-smaller c =
    let few = c.loop-task.invariant.few in
    let less : c.loop-task.states < c.args.limits.now.goals = omega arith in
    let leaves = subst (λ (a : Option HipAnswer). IsNext c.args.defs.now c.args.program.now c.args.limits.now c.in-Some.task.at c.loop-task.nodes c.visit_next.new.nodes c.pop.new.self c.visit_next.new.tasks a)
    c.in_default-answer.is c.in_ok-answer.ensures in
    less_visit c.args.defs.now c.args.program.now c.args.limits.now (entry c.args.program.now c.args.method c.args.pair)
    c.loop-task.states c.loop-task.nodes c.loop-task.ends c.loop-task.tasks c.pop.new.self c.in-Some.task c.loop-task.invariant c.in-Some.ensures
    c.in_default-taken.is _ refl less c.visit_next.new.nodes c.visit_next.new.tasks leaves

pub loop-task-preserved : goal.loop-task-preserved
loop-task-preserved c =
    let few = c.loop-task.invariant.few in
    let less : c.loop-task.states < c.args.limits.now.goals = omega arith in
    let leaves = subst (λ (a : Option HipAnswer). IsNext c.args.defs.now c.args.program.now c.args.limits.now c.in-Some.task.at c.loop-task.nodes c.visit_next.new.nodes c.pop.new.self c.visit_next.new.tasks a)
    c.in_default-answer.is c.in_ok-answer.ensures in
    turn_visit c.args.defs.now c.args.program.now c.args.limits.now (entry c.args.program.now c.args.method c.args.pair)
    c.loop-task.states c.loop-task.nodes c.loop-task.ends c.loop-task.tasks c.pop.new.self c.in-Some.task c.loop-task.invariant c.in-Some.ensures
    c.in_default-taken.is _ refl less c.visit_next.new.nodes c.visit_next.new.tasks leaves
