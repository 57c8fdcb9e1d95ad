use Rattle.std.proofs.Common.{rules, ap, pos, ◌+ℤ◌}
use mir.Syntax.{w128}
use mir.Val.{to_z, of_z}
use Rattle.std.proofs.lemmas.Int.{to_z-of_z}
use Rattle.hs_pure.specs.Truth.{sum_at, value}
use Rattle.hs_equations.proofs.Lists.{ok-map}
use Rattle.hs_equations.proofs.Joining.{value-scaled}
use Rattle.hs_equations.proofs.linear.scaled.Goals as goal

pub returns : goal.returns
returns c =
    ok-map c.combined.result (λ r h s. value-scaled c.args.k (to_z w128 (of_z w128 c.args.k)) (value s c.args.a.now) _ _ (to_z-of_z w128 c.args.k (search rules)) (ap (λ ts. sum_at s ts +ℤ pos 0) c.new.ensures) (h s)) c.combined.ensures
