use Rattle.std.proofs.Common.{ℕ}
use Rattle.std.specs.List.{All}
use Rattle.hs_pure.specs.Stack.{Stack}
use Rattle.hs_pure.specs.Truth.{TrueAt}
use Rattle.hs_bag_equations.specs.Placing.{AreWorth, BagsSuit, Suits}
use Rattle.hs_bag_equations.proofs.equations.+collect.Given as goal

abbrev pub invariant-collect_all-loop-p : goal.invariant-collect_all-loop-p
invariant-collect_all-loop-p l =
    ((s : Stack) → All (TrueAt s) l.ps → AreWorth s l.initial.found → AreWorth s l.found)
    × ((n : ℕ) → All (Suits n) l.ps → BagsSuit n l.initial.found → BagsSuit n l.found)
