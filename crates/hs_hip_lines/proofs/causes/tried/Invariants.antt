use Rattle.std.proofs.Common.{◌≡◌, map, take}
use Rattle.hs_causes.specs.Causes.{why_of}
use Rattle.hs_program_rules.specs.States.{instruction_at}
use Rattle.hs_hip_lines.specs.Causes.{tried_from}
use Rattle.hs_hip_lines.proofs.causes.tried.Given as goal

abbrev pub invariant-loop-cause : goal.invariant-loop-cause
invariant-loop-cause l =
    (l.number ≡ l.cause-index)
    × (l.all ≡ tried_from (instruction_at l.program l.at) 1 (map (why_of l.defs l.p.names l.p.next l.limits) (take l.cause-index l.causes)))
