use Rattle.std.specs.List.{All}
use Rattle.hs_pure.specs.Stack.{Stack}
use Rattle.hs_pure.specs.Truth.{TrueAt}
use Rattle.hs_decide.specs.Asking.{IsAskable}
use Rattle.hs_decide.proofs.facts.+facts.Given as goal

abbrev pub invariant-with_all_facts-loop-p : goal.invariant-with_all_facts-loop-p
invariant-with_all_facts-loop-p l = ((s : Stack) → All (TrueAt s) l.fn.all → All (TrueAt s) l.ps → All (TrueAt s) l.now) × (All IsAskable l.fn.all → All IsAskable l.ps → All IsAskable l.now)
