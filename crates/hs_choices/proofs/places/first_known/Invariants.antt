use Rattle.std.proofs.Common.{◌≡◌, ◌+◌, drop}
use Rattle.std.specs.List.{position_from}
use Rattle.hs_choices.specs.Tests.{is_known}
use Rattle.hs_rules.specs.Parts.{right_atoms}
use Rattle.hs_choices.specs.Places.{first_place}
use Rattle.hs_choices.proofs.places.first_known.Given as goal

abbrev pub invariant-loop-i : goal.invariant-loop-i
invariant-loop-i l = first_place (is_known l.goal) (right_atoms l.goal) ≡ position_from (is_known l.goal) (l.i + 1) (drop l.i (right_atoms l.goal))
