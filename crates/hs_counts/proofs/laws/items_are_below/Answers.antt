use Rattle.hs_counts.proofs.Right.{layout_items_below}
use Rattle.hs_counts.proofs.laws.items_are_below.Goals as goal

pub returns : goal.returns
returns c = layout_items_below
