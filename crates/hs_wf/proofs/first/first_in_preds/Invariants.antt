use Rattle.std.proofs.Common.{take}
use Rattle.std.specs.List.{All}
use Rattle.hs_wf.specs.Founded.{PredIsFounded}
use Rattle.hs_wf.proofs.first.first_in_preds.Given as goal

abbrev pub invariant-loop-n : goal.invariant-loop-n
invariant-loop-n l = All PredIsFounded (take l.n l.preds)
