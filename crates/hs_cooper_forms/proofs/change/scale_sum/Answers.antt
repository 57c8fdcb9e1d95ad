use Rattle.std.proofs.Common.{rules, pos, subst}
use Rattle.std.proofs.lemmas.Int.{to_z_pos}
use mir.Syntax.{w128}
use Rattle.hs_elimination.specs.Linear.{times, IsWideLin}
use Rattle.hs_cooper_forms.specs.Sign.{sign}
use Rattle.hs_cooper_forms.proofs.Changes.{wide_product}
use Rattle.hs_cooper_forms.proofs.change.scale_sum.Goals as goal

pub returns-in_err-product-clause-wide : goal.returns-in_err-product-clause-wide
returns-in_err-product-clause-wide c = λ h. wide_product c.args.x (sign c.args.unit) (pos c.args.q) c.args.a.now
    (subst (λ b. IsWideLin (times (pos c.args.q) b)) c.in_ok-others.ensures.sum
    (subst (λ z. IsWideLin (times z c.in_ok-others.others)) (to_z_pos w128 c.args.q (search rules)) (c.in_err-product.ensures.wide (search rules))))
