use Rattle.std.proofs.Common.{◌∙◌, arith}
use Rattle.indexmap.specs.IndexMap.{get_by_text}
use Rattle.hs_norm_formula.specs.Table.{or_first}
use Rattle.hs_declared.specs.Names.{here}
use Rattle.hs_declared.proofs.Directories.{noted}
use Rattle.hs_declared.proofs.directory.places.Goals as goal

pub loop-i-preserved : goal.loop-i-preserved
loop-i-preserved c = λ q. noted c.args.names.now c.loop-i.i c.index-names-i.result q _ (get_by_text c.loop-i.places q) (omega arith) (c.loop-i.invariant q)
    (c.in_ok-note.ensures q ∙ λ j. or_first (get_by_text c.loop-i.places q) (here q (c.index-names-i.is j) c.loop-i.i))
