-- What the layers above use of the lines of predicates.
use Rattle.std.specs.Prelude.{◌≡◌, ℕ, List, None}
use Rattle.hs_heap.specs.Sound.{IsSound}
use Rattle.hs_xpure.specs.Invariants.{InvariantsHold}
use Rattle.hs_norm.specs.declared.resolved.Resolved.{Resolved}
use Rattle.hs_print.specs.declared.line.Line.{Line}
use Rattle.hs_pred_lines.specs.Lines.{ArePredicateLines, first_unshown}

-- where true lines show all predicates, every heap that satisfies a predicate makes its invariant true
abbrev pub ShownInvariantsHold : Type 0
ShownInvariantsHold = (r : Resolved) (atoms : ℕ) (lines : List Line) → IsSound r.defs → ArePredicateLines r atoms lines → first_unshown lines ≡ None →
    InvariantsHold r.defs
