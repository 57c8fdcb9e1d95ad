use Rattle.std.proofs.Common.{rules}
use mir.Syntax.{w128}
use Rattle.std.proofs.lemmas.Int.{to_z-of_z}
use Rattle.hs_equations.proofs.Sums.{step-divided}
use Rattle.hs_equations.proofs.linear.divided_terms.Goals as goal

pub loop-t-preserved : goal.loop-t-preserved
loop-t-preserved c = λ s.
    step-divided s _ c.args.a.now c.loop-t.t-index c.in-Some.q _ _ _ _ c.loop-t-test.true (to_z-of_z w128 _ (search rules)) (to_z-of_z w128 _ (search rules)) c.in-Some.ensures (c.in_ok-push_term-in-Some.ensures s) (c.loop-t.invariant s)
