use Rattle.std.proofs.Common.{◌≡◌, ◌<◌, ◌≤◌, drop}
use Rattle.hs_elimination.specs.Linear.{place}
use Rattle.hs_cooper.specs.Surveying.{period_of_all}
use Rattle.hs_cooper.proofs.period.+periods.Given as goal

abbrev pub invariant-period_of_all-loop-f : goal.invariant-period_of_all-loop-f
invariant-period_of_all-loop-f l = record {
  positive : 0 < l.multiple;
  within : l.multiple ≤ l.budget;
  value : period_of_all (place l.x) (drop l.f-index l.fs) l.multiple ≡ period_of_all (place l.x) l.fs l.m;
}
