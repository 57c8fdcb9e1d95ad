use Rattle.std.proofs.Common.{◌≡◌, take}
use Rattle.hs_norm_block.specs.Program.{all, use_part}
use Rattle.hs_norm_block.proofs.blocks.use_parts.Given as goal

abbrev pub invariant-loop-part : goal.invariant-loop-part
invariant-loop-part l = (tt, l.n) ≡ all (use_part l.d l.names) (take l.part-index l.parts) l.fn.n
