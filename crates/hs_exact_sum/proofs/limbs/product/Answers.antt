use Rattle.std.proofs.Common.{◌≤◌, ◌^◌, ℤ, unsigned_abs, sym, subst}
use Rattle.hs_exact_sum.proofs.Products.{product-near, product-passed}
use Rattle.hs_exact_sum.proofs.limbs.product.Goals as goal

pub returns-clause-value : goal.returns-clause-value
returns-clause-value c = product-passed c.args.a c.args.b c.ranges.a c.ranges.b c.requires.first c.requires.second

pub returns-clause-near : goal.returns-clause-near
returns-clause-near c =
    subst (λ (z : ℤ). unsigned_abs z ≤ 2 ^ 126) (sym (product-passed c.args.a c.args.b c.ranges.a c.ranges.b c.requires.first c.requires.second))
    (product-near c.args.a c.args.b c.requires.first c.requires.second)
