use Rattle.std.proofs.Common.{◌≡◌, take, map}
use Rattle.hs_numbering.specs.Names.{is_upper}
use Rattle.hs_declared.proofs.declared.pred_entry.Given as goal

abbrev pub invariant-loop-param : goal.invariant-loop-param
invariant-loop-param l = l.kinds ≡ map (λ x. is_upper x.text) (take l.param-index l.tree.params)
