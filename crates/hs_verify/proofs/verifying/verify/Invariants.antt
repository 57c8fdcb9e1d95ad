use Rattle.std.proofs.Common.{◌+◌, ◌-◌, ◌*◌, reverse}
use Rattle.hs_program_rules.specs.States.{entry}
use Rattle.hs_verify.proofs.Tasks.{waiting}
use Rattle.hs_verify.proofs.Walking.{IsOn}
use Rattle.hs_verify.proofs.verifying.verify.Given as goal

abbrev pub invariant-loop-task : goal.invariant-loop-task
invariant-loop-task l = IsOn l.defs l.program l.limits (entry l.program l.method l.pair) l.states l.nodes l.ends (reverse l.tasks)

abbrev pub decreases-loop-task : goal.decreases-loop-task
decreases-loop-task l = 2 * (l.limits.goals - l.states) + waiting (reverse l.tasks)
