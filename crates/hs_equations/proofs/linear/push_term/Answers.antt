use Rattle.std.proofs.Common.{rules}
use mir.Syntax.{w128}
use Rattle.std.proofs.lemmas.Int.{to_z-of_z}
use Rattle.hs_equations.proofs.Sums.{sum-push}
use Rattle.hs_equations.proofs.linear.push_term.Goals as goal

pub returns-in_ok-push : goal.returns-in_ok-push
returns-in_ok-push c = λ s. sum-push s c.args.terms.now c.push.new.self c.args.v _ c.args.c (to_z-of_z w128 c.args.c (search rules)) c.in_ok-push.ensures.ok
