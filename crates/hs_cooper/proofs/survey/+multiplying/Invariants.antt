use Rattle.std.proofs.Common.{◌≡◌, ◌<◌, ◌^◌, drop}
use Rattle.hs_elimination.specs.Linear.{place}
use Rattle.hs_cooper.specs.Surveying.{multiplier_of_all}
use Rattle.hs_cooper.proofs.survey.+multiplying.Given as goal

abbrev pub invariant-multiplier_of_all-loop-f : goal.invariant-multiplier_of_all-loop-f
invariant-multiplier_of_all-loop-f l = record {
  positive : 0 < l.multiple;
  fits : l.multiple < 2 ^ 127;
  value : multiplier_of_all (place l.x) (drop l.f-index l.fs) l.multiple ≡ multiplier_of_all (place l.x) l.fs l.m;
}
