use Rattle.std.proofs.Common.{rules}
use mir.Syntax.{w128}
use mir.Val.{to_z, of_z}
use Rattle.std.proofs.lemmas.Int.{to_z-of_z}
use Rattle.hs_pure.specs.Truth.{value}
use Rattle.hs_equations.proofs.Lists.{ok-map}
use Rattle.hs_equations.proofs.Joining.{at-least, joined-least}
use Rattle.hs_equations.proofs.fourier.joined.Goals as goal

pub returns : goal.returns
returns c = ok-map c.divided.result (λ r f s h l.
    f s (joined-least c.args.k (to_z w128 (of_z w128 c.args.k)) c.args.m (to_z w128 (of_z w128 c.args.m)) (value s c.args.low.now) (value s c.args.high.now) _ _ (to_z-of_z w128 c.args.k (search rules)) (to_z-of_z w128 c.args.m (search rules)) (at-least c.args.k _ (to_z-of_z w128 c.args.k (search rules)) c.if-k-lt0.false) (at-least c.args.m _ (to_z-of_z w128 c.args.m (search rules)) c.if-m-lt0.false) h l (c.in_ok-part.ensures s) (c.in_ok-sum.ensures s))) c.divided.ensures
