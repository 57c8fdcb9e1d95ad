use Rattle.std.proofs.Common.{◌≡◌, ◌++◌, take}
use Rattle.std.specs.List.{flat_map}
use Rattle.hs_wf.specs.Links.{atom_links, equation_links}
use Rattle.hs_wf.proofs.links.case_links.Given as goal

abbrev pub invariant-loop-atom : goal.invariant-loop-atom
invariant-loop-atom l = l.links.items ≡ flat_map atom_links (take l.atom-index l.atom-items)

abbrev pub invariant-loop-p : goal.invariant-loop-p
invariant-loop-p l = l.links.items ≡ flat_map atom_links l.fn.case.atoms ++ flat_map equation_links (take l.p-index l.p-items)
