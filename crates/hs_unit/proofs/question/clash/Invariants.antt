use Rattle.std.proofs.Common.{◌≡◌, drop}
use Rattle.hs_unit.specs.Settling.{clash}
use Rattle.hs_unit.proofs.question.clash.Given as goal

abbrev pub invariant-loop-f : goal.invariant-loop-f
invariant-loop-f l = clash (drop l.f-index l.forms) ≡ clash l.forms
