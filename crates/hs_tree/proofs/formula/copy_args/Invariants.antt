use Rattle.std.proofs.Common.{◌≡◌, take}
use Rattle.hs_tree.proofs.formula.copy_args.Given as goal

abbrev pub invariant-loop-arg : goal.invariant-loop-arg
invariant-loop-arg l = l.all ≡ take l.arg-index l.args
