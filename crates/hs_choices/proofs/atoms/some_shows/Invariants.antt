use Rattle.std.proofs.Common.{◌≡◌, drop}
use Rattle.std.specs.List.{list_any}
use Rattle.hs_rules.specs.Parts.{left_atoms}
use Rattle.hs_choices.specs.Choices.{shows}
use Rattle.hs_choices.proofs.atoms.some_shows.Given as goal

abbrev pub invariant-loop-left : goal.invariant-loop-left
invariant-loop-left l = list_any (shows l.goal l.right l.atoms) (left_atoms l.goal) ≡ list_any (shows l.goal l.right l.atoms) (drop l.left-index (left_atoms l.goal))
