use Rattle.std.proofs.Common.{◌≡◌, ◌++◌, take, map}
use Rattle.hs_program_rules.specs.Parts.{joined_case}
use Rattle.hs_program_parts.proofs.joining.push_joined.Given as goal

abbrev pub invariant-loop-e : goal.invariant-loop-e
invariant-loop-e l = l.all ≡ l.initial.all ++ map (joined_case l.d) (take l.e-index l.cases)
