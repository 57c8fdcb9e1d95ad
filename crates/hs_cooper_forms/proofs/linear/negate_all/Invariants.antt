use Rattle.std.proofs.Common.{◌≡◌, map, take, negsuc}
use Rattle.std.specs.List.{Contains}
use Rattle.hs_pure.specs.declared.lin.Lin.{Lin}
use Rattle.hs_elimination.specs.Linear.{times, IsWideLin}
use Rattle.hs_cooper_forms.proofs.linear.negate_all.Given as goal

abbrev pub invariant-loop-a : goal.invariant-loop-a
invariant-loop-a l = record {
  sums : l.all ≡ map (times (negsuc 0)) (take l.a-index l.sums);
  narrow : (a : Lin) → Contains (take l.a-index l.sums) a → ¬ (IsWideLin (times (negsuc 0) a));
}
