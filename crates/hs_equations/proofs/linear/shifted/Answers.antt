use Rattle.std.proofs.Common.{rules, refl, ap, ◌+ℤ◌}
use mir.Syntax.{w128}
use mir.Val.{to_z, of_z}
use Rattle.std.proofs.lemmas.Int.{to_z-of_z}
use Rattle.hs_pure.specs.Truth.{sum_at, value}
use Rattle.hs_equations.proofs.Lists.{ok-map}
use Rattle.hs_equations.proofs.Sums.{value-shifted}
use Rattle.hs_equations.proofs.linear.shifted.Goals as goal

pub returns : goal.returns
returns c =
    ok-map c.combined.result (λ r h s. value-shifted _ (value s c.args.a.now) c.args.d (to_z w128 (of_z w128 c.args.d)) _ _ refl (to_z-of_z w128 c.args.d (search rules)) (ap (λ ts. sum_at s ts +ℤ to_z w128 (of_z w128 c.args.d)) c.new.ensures) (h s)) c.combined.ensures
