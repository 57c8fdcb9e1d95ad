use Rattle.std.proofs.Common.{◌≡◌, ◌+◌, drop}
use Rattle.std.specs.List.{position_from}
use Rattle.hs_choices.specs.Tests.{is_mixed}
use Rattle.hs_rules.specs.Parts.{right_pure}
use Rattle.hs_choices.specs.Places.{first_place}
use Rattle.hs_choices.proofs.places.first_mixed.Given as goal

abbrev pub invariant-loop-i : goal.invariant-loop-i
invariant-loop-i l = first_place (is_mixed l.goal.opens) (right_pure l.goal) ≡ position_from (is_mixed l.goal.opens) (l.i + 1) (drop l.i (right_pure l.goal))
