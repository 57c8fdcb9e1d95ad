use Rattle.std.proofs.Common.{subst}
use Rattle.hs_numbering.specs.declared.numbering.Numbering.{Numbering}
use Rattle.hs_numbering.specs.Numbering.{Builds}
use Rattle.hs_norm.specs.declared.resolved.Resolved.{Resolved}
use Rattle.hs_norm.specs.Normal.{parts_normal}
use Rattle.hs_norm.proofs.source.items_normal.Goals as goal

pub returns : goal.returns
returns c = subst (λ (b : Resolved × Numbering). Builds b c.parts_normal.result c.parts_normal.new.n)
    (λ j. parts_normal (c.in_ok-d.ensures j) c.args.items.now (c.in_ok-blame_second.ensures j).1) c.parts_normal.ensures
