use Rattle.std.proofs.Common.{◌≡◌, ℤ, pos, false, ◌+ℤ◌, ◌*ℤ◌, get_or, rules, refl, ◌∙◌, arith}
use mir.Syntax.{w128}
use mir.Val.{SFits}
use Rattle.std.proofs.lemmas.Int.{to_z-of_z}
use Rattle.std.proofs.lemmas.List.{at_drop_all}
use Rattle.hs_pure.specs.declared.var.Var.{Var}
use Rattle.hs_pure.specs.Eval.{stack_of, found}
use Rattle.hs_pure.specs.Truth.{sum_at, value}
use Rattle.hs_pure.proofs.EvalSums.{sum_step}
use Rattle.hs_exact_sum.specs.Limbs.{number_of}
use Rattle.hs_exact_sum.proofs.Exact.{with_constant, exact_some, exact_none}
use Rattle.hs_exact_sum.proofs.value.exact_value.Goals as goal

abbrev none : Var × ℤ
none = (record { number = 0; bag = false }, pos 0)

pub loop-t-preserved : goal.loop-t-preserved
loop-t-preserved c =
    let s = stack_of c.args.v.now in
    let ts = c.as_slice-t-items.result.now in
    let x = get_or ts c.loop-t.t-index none in
    let fits_x : SFits w128 (get_or c.as_slice-t-items.result.now c.loop-t.t-index none).1 = search rules in
    let fits_n : SFits w128 c.number.result = search rules in
    let f : number_of c.add_product-sum.result
    ≡ number_of c.loop-t.sum +ℤ (get_or c.as_slice-t-items.result.now c.loop-t.t-index none).1 *ℤ found c.args.v.now.numbers (get_or c.as_slice-t-items.result.now c.loop-t.t-index none).0
    = c.add_product-sum.ensures.value
    ∙ (λ i. number_of c.loop-t.sum +ℤ to_z-of_z w128 x.1 fits_x i *ℤ (to_z-of_z w128 c.number.result fits_n ∙ c.number.ensures) i) in
    record {
      near = omega (arith, c.add_product-sum.ensures.near, c.loop-t.invariant.near);
      is = sum_step s ts c.loop-t.t-index none (number_of c.loop-t.sum) (number_of c.add_product-sum.result) (x.1 *ℤ (s x.0).number)
          c.loop-t-test.true refl f c.loop-t.invariant.is;
    }

pub returns : goal.returns
returns c =
    let s = stack_of c.args.v.now in
    let ts = c.as_slice-t-items.result.now in
    let k = c.args.a.now.constant in
    let fits : SFits w128 c.args.a.now.constant = search rules in
    let is : number_of c.add_product.result ≡ value (stack_of c.args.v.now) c.args.a.now
    = with_constant (number_of c.add_product.result) (number_of c.loop-t.sum) (sum_at s ts) _ k
    (c.add_product.ensures.value ∙ (λ i. number_of c.loop-t.sum +ℤ to_z-of_z w128 k fits i *ℤ pos 1))
    c.loop-t.invariant.is (at_drop_all (λ us. sum_at s us) ts c.loop-t.t-index c.loop-t-test.false)
    ∙ (λ i. sum_at s (c.as_slice-t-items.ensures i) +ℤ k) in
    record {
      some = exact_some c.total.result (number_of c.add_product.result) (value s c.args.a.now) is c.total.ensures;
      none = exact_none c.total.result (number_of c.add_product.result) (value s c.args.a.now) is c.total.ensures;
    }
