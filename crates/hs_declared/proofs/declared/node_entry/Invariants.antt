use Rattle.std.proofs.Common.{◌≡◌, take, map, false}
use Rattle.hs_declared.proofs.declared.node_entry.Given as goal

abbrev pub invariant-loop-field : goal.invariant-loop-field
invariant-loop-field l = l.kinds ≡ map (λ f. false) (take l._field-index l.tree.fields)
