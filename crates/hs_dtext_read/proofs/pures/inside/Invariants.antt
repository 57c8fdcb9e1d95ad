use Rattle.std.proofs.Common.{◌≡◌, ◌≤◌, length}
use Rattle.hs_dtext.specs.Formulas.{inside}
use Rattle.hs_dtext_read.proofs.pures.inside.Given as goal

abbrev pub invariant-loop-front : goal.invariant-loop-front
invariant-loop-front l = (inside l.text ≡ inside l.front) × (length l.front ≤ length l.text)

abbrev pub decreases-loop-front : goal.decreases-loop-front
decreases-loop-front l = length l.front
