use Rattle.std.proofs.Common.{◌≡◌, drop}
use Rattle.hs_pure.specs.Eval.{stack_of}
use Rattle.hs_elimination.specs.Linear.{place}
use Rattle.hs_cooper.specs.Searching.{limit_of_all}
use Rattle.hs_cooper.proofs.limit.+lowering.Given as goal

abbrev pub invariant-lower_by_all-loop-f : goal.invariant-lower_by_all-loop-f
invariant-lower_by_all-loop-f l = limit_of_all (stack_of l.v) (place l.x) (drop l.f-index l.fs) l.least ≡ limit_of_all (stack_of l.v) (place l.x) l.fs l.initial.least
