use Rattle.std.proofs.Common.{◌≡◌, take, map}
use Rattle.std.specs.List.{flat_map}
use Rattle.hs_program_rules.specs.Parts.{joined_case}
use Rattle.hs_program_parts.proofs.joining.all_joined.Given as goal

abbrev pub invariant-loop-d : goal.invariant-loop-d
invariant-loop-d l = l.cases ≡ flat_map (λ d. map (joined_case d) l.g.cases) (take l.d-index l.f.cases)
