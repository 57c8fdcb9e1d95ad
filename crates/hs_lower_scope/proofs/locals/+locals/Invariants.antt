use Rattle.std.proofs.Common.{◌≡◌, take, map, ◌++◌}
use Rattle.std.specs.List.{flat_map}
use Rattle.hs_tree.specs.declared.method.BlockTree.{out-BlockTree}
use Rattle.hs_lower_scope.specs.Scope.{statement_variables}
use Rattle.hs_lower_scope.proofs.locals.+locals.Given as goal

abbrev pub invariant-push_locals-loop-one : goal.invariant-push_locals-loop-one
invariant-push_locals-loop-one l = l.variables ≡ l.fn.variables ++ flat_map (λ xs. xs) (map (statement_variables l.defs) (take l.one-index (out-BlockTree l.tree).statements))
