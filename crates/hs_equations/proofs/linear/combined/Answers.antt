use Rattle.std.proofs.Common.{rules}
use mir.Syntax.{w128}
use Rattle.std.proofs.lemmas.Int.{to_z-of_z}
use Rattle.hs_equations.proofs.Sums.{value-times_plus}
use Rattle.hs_equations.proofs.linear.combined.Goals as goal

pub returns : goal.returns
returns c = λ s. value-times_plus s c.args.k _ c.args.a.now c.args.b.now c.in_ok-sum.sum (to_z-of_z w128 c.args.k (search rules)) c.in_ok-sum.ensures.sum
