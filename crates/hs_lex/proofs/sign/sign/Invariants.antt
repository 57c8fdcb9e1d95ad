use Rattle.std.proofs.Common.{◌≡◌, length, map}
use Rattle.hs_lex.specs.Scan.{sign_among, sign_at}
use Rattle.hs_lex.proofs.sign.sign.Given as goal

abbrev pub invariant-loop-signs : goal.invariant-loop-signs
invariant-loop-signs l = sign_among (map (λ s. (s.0.now, s.1)) l.signs) l.text ≡ sign_at l.text

abbrev pub decreases-loop-signs : goal.decreases-loop-signs
decreases-loop-signs l = length l.signs
