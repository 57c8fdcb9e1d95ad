use Rattle.hs_counts.proofs.Right.{layout_items_right}
use Rattle.hs_counts.proofs.laws.right_items.Goals as goal

pub returns : goal.returns
returns c = layout_items_right
