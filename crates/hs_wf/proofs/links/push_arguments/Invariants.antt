use Rattle.std.proofs.Common.{◌≡◌, ◌++◌, take}
use Rattle.hs_wf.specs.Links.{links_to}
use Rattle.hs_wf.proofs.links.push_arguments.Given as goal

abbrev pub invariant-loop-arg : goal.invariant-loop-arg
invariant-loop-arg l = l.links.items ≡ l.fn.links.items ++ links_to l.root (take l.arg-index l.args)
