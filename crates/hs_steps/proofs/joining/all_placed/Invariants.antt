use Rattle.std.proofs.Common.{◌≡◌, ◌++◌, length}
use Rattle.std.specs.Vec.Iter.{into_iter_items, into_iter_len}
use Rattle.hs_steps.specs.Joined.{placed, ends_of}
use Rattle.hs_steps.proofs.joining.all_placed.Given as goal

abbrev pub invariant-loop-part : goal.invariant-loop-part
invariant-loop-part l = (l.steps ≡ placed 0 l.yielded) × (l.ends ≡ ends_of 0 l.yielded)
    × (l.fn.parts.items ≡ l.yielded ++ into_iter_items l.part-iterator)
    × (into_iter_len l.part-iterator ≡ length (into_iter_items l.part-iterator))
