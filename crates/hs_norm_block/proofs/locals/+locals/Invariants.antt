use Rattle.std.proofs.Common.{◌≡◌, take, map, ◌++◌}
use Rattle.std.specs.List.{flat_map}
use Rattle.hs_tree.specs.declared.method.BlockTree.{out-BlockTree}
use Rattle.hs_norm_block.specs.Program.{statement_locals}
use Rattle.hs_norm_block.proofs.locals.+locals.Given as goal

abbrev pub invariant-push_locals-loop-one : goal.invariant-push_locals-loop-one
invariant-push_locals-loop-one l = l.names ≡ l.fn.names ++ flat_map (λ xs. xs) (map statement_locals (take l.one-index (out-BlockTree l.tree).statements))
