use Rattle.std.proofs.Common.{◌≡◌, ◌+◌, ◌^◌, sum_by, take}
use Rattle.hs_norm_block.specs.Program.{part_weight}
use Rattle.hs_norm_block.proofs.blocks.is_light.Given as goal

abbrev pub invariant-loop-part : goal.invariant-loop-part
invariant-loop-part l = l.room + sum_by part_weight (take l.part-index l.parts) ≡ 2 ^ 126
