use Rattle.std.proofs.Common.{◌≡◌, take, drop}
use Rattle.hs_elimination.specs.Linear.{place}
use Rattle.hs_unit.specs.Sides.{forms}
use Rattle.hs_unit.specs.Reduction.{all_small}
use Rattle.hs_unit.proofs.Steps.{put_all}
use Rattle.hs_unit.proofs.solution.put_right.Given as goal

abbrev pub invariant-loop-c : goal.invariant-loop-c
invariant-loop-c l = record {
  done : l.all ≡ put_all (place l.x) l.u (take l.c-index l.right);
  small : all_small (forms (put_all (place l.x) l.u (drop l.c-index l.right))) ≡ all_small (forms (put_all (place l.x) l.u l.right));
}
