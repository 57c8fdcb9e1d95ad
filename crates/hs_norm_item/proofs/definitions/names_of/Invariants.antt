use Rattle.std.proofs.Common.{◌≡◌, take, map}
use Rattle.hs_norm_item.proofs.definitions.names_of.Given as goal

abbrev pub invariant-loop-tree : goal.invariant-loop-tree
invariant-loop-tree l = l.names ≡ map (λ p. p.name) (take l.tree-index l.trees)
