use Rattle.std.proofs.Common.{◌≡◌, ℤ, ◌+ℤ◌, ◌*ℤ◌, ◌∙◌, subst}
use mir.Syntax.{w128}
use Rattle.std.proofs.lemmas.Int.{to_z-of_z}
use Rattle.hs_exact_sum.specs.Limbs.{joined}
use Rattle.hs_exact_sum.proofs.Products.{sum_passed}
use Rattle.hs_exact_sum.proofs.limbs.add_to.Goals as goal

pub returns-clause-sum : goal.returns-clause-sum
returns-clause-sum c =
    let p : c.product.result ≡ c.args.a *ℤ c.args.b =
    c.product.ensures.value ∙ (λ i. to_z-of_z w128 c.args.a c.ranges.a i *ℤ to_z-of_z w128 c.args.b c.ranges.b i) in
    subst (λ (z : ℤ). c.args.digit +ℤ z ≡ joined c.cut.result.high c.cut.result.low) p
    (sum_passed c.args.digit c.product.result (joined c.cut.result.high c.cut.result.low) c.requires.digit c.product.ensures.near c.cut.ensures)
