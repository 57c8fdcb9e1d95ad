use Rattle.std.proofs.Common.{◌≡◌, take, true, map}
use Rattle.std.specs.List.{list_all}
use Rattle.hs_lower_faults.specs.Ends.{statement_ends}
use Rattle.hs_lower_faults.proofs.ends.+ends.Given as goal

abbrev pub invariant-statements_end-loop-tree : goal.invariant-statements_end-loop-tree
invariant-statements_end-loop-tree l = list_all (λ b. b) (map statement_ends (take l.tree-index l.trees)) ≡ true
