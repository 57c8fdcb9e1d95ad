use Rattle.std.proofs.Common.{ℕ}
use Rattle.std.specs.List.{All}
use Rattle.hs_pure.specs.Stack.{Stack}
use Rattle.hs_pure.specs.Truth.{TrueAt}
use Rattle.hs_bag_equations.specs.Placing.{AreWorth, BagsSuit, Suits}
use Rattle.hs_bag_equations.proofs.place.+members.Given as goal

abbrev pub invariant-add_all_members-loop-p : goal.invariant-add_all_members-loop-p
invariant-add_all_members-loop-p l =
    ((s : Stack) → AreWorth s l.es → All (TrueAt s) l.ps → All (TrueAt s) l.initial.members → All (TrueAt s) l.members)
    × ((n : ℕ) → BagsSuit n l.es → All (Suits n) l.ps → All (Suits n) l.initial.members → All (Suits n) l.members)
