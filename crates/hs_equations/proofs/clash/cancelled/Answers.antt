use Rattle.std.proofs.Common.{rules, sym, ap, ◌∙◌, ◌+ℤ◌, ◌*ℤ◌}
use mir.Syntax.{w128}
use Rattle.std.proofs.lemmas.Int.{to_z-of_z}
use Rattle.hs_pure.specs.Truth.{value}
use Rattle.hs_equations.proofs.Lists.{some-map}
use Rattle.hs_equations.proofs.clash.cancelled.Goals as goal

pub returns-in_ok-sum : goal.returns-in_ok-sum
returns-in_ok-sum c =
    some-map c.fixed.result (λ z h s. ap (λ k. k *ℤ value s c.args.a.now +ℤ value s c.args.b.now) (sym (to_z-of_z w128 c.args.k (search rules))) ∙ sym (c.in_ok-sum.ensures s) ∙ h s) c.fixed.ensures
