use Rattle.std.proofs.Common.{◌∙◌, ap}
use Rattle.hs_norm_formula.specs.Numbered.{counted, node_entry}
use Rattle.hs_norm_formula.proofs.Counts.{nameable_min}
use Rattle.hs_norm_formula.proofs.by_number.node_entries.Goals as goal

pub returns : goal.returns
returns c = c.loop-i.invariant.built ∙ ap (counted node_entry) (nameable_min c.args.nodes.now c.loop-i.i c.nameable-count.result c.loop-i.auto.i-end c.loop-i-test.false c.nameable-count.ensures)
