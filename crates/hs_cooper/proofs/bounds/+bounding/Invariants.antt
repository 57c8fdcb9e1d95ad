use Rattle.std.proofs.Common.{◌≡◌, drop}
use Rattle.hs_elimination.specs.Linear.{place}
use Rattle.hs_cooper.specs.Bounding.{join_all}
use Rattle.hs_cooper.proofs.bounds.+bounding.Given as goal

abbrev pub invariant-join_all_bounds-loop-f : goal.invariant-join_all_bounds-loop-f
invariant-join_all_bounds-loop-f l = join_all (place l.x) l.done (drop l.f-index l.fs) ≡ join_all (place l.x) l.initial.done l.fs
