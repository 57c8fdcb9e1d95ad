use Rattle.hs_heap.proofs.Tells.{tells}
use Rattle.hs_rules.specs.Conditions.{CanSplit}
use Rattle.hs_side_rules.specs.Splitting.{MaySplit}
use Rattle.hs_side_rules.proofs.Divided.{can_split, may_split}
use Rattle.hs_side_rules.proofs.splitting.may_split.Goals as goal

pub returns : goal.returns
returns c =
    let g = c.args.goal.now in
    let f = c.args.f.now in
    tells c.is_divider.result (MaySplit g f) (CanSplit g f) c.is_divider.ensures (can_split g f c.free_occurs.ensures c.requires) (may_split g f)
