use Rattle.std.proofs.Common.{◌≡◌, map, take, drop}
use Rattle.hs_elimination.specs.Linear.{place}
use Rattle.hs_elimination.specs.Cases.{substitute_lin}
use Rattle.hs_unit.specs.Reduction.{all_small}
use Rattle.hs_unit.proofs.solution.put.Given as goal

abbrev pub invariant-loop-a : goal.invariant-loop-a
invariant-loop-a l = record {
  done : l.all ≡ map (substitute_lin (place l.x) l.u) (take l.a-index l.forms);
  small : all_small (map (substitute_lin (place l.x) l.u) (drop l.a-index l.forms)) ≡ all_small (map (substitute_lin (place l.x) l.u) l.forms);
}
