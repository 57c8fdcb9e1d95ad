use Rattle.std.proofs.Common.{◌≡◌, take}
use Rattle.std.specs.List.{zip}
use Rattle.hs_numbering.specs.Numbering.{each}
use Rattle.hs_norm_item.specs.Definitions.{blame_param_kind}
use Rattle.hs_norm_item.proofs.definitions.blame_param_kinds.Given as goal

abbrev pub invariant-loop-i : goal.invariant-loop-i
invariant-loop-i l = l.n ≡ (each blame_param_kind (take l.i (zip l.kinds l.xs)) l.fn.n).1
