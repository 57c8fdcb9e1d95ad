use Rattle.std.proofs.Common.{◌≡◌, length}
use Rattle.hs_dtext.specs.Formulas.{has_comment}
use Rattle.hs_dtext_read.proofs.formulas.has_comment.Given as goal

abbrev pub invariant-loop-rest : goal.invariant-loop-rest
invariant-loop-rest l = has_comment l.rest ≡ has_comment l.text

abbrev pub decreases-loop-rest : goal.decreases-loop-rest
decreases-loop-rest l = length l.rest
