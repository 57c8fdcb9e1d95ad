use Rattle.std.proofs.Common.{◌≡◌, drop}
use Rattle.hs_unit.specs.Reduction.{all_small}
use Rattle.hs_unit.proofs.small.all_small.Given as goal

abbrev pub invariant-loop-f : goal.invariant-loop-f
invariant-loop-f l = all_small (drop l.f-index l.forms) ≡ all_small l.forms
