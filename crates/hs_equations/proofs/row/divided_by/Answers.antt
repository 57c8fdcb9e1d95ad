use Rattle.std.proofs.Common.{◌≡◌, rules, sym, ap, ◌∙◌, subst, ◌<ℤ◌, ◌*ℤ◌, ◌+ℤ◌}
use mir.Syntax.{w128}
use mir.Val.{to_z, of_z}
use Rattle.std.proofs.lemmas.Int.{to_z-of_z}
use Rattle.hs_pure.specs.Truth.{sum_at, value}
use Rattle.hs_equations.specs.Rows.{IsEven}
use Rattle.hs_equations.proofs.Lists.{not-from_false}
use Rattle.hs_equations.proofs.Steps.{says-as}
use Rattle.hs_equations.proofs.Division.{divided-met, uneven-met}
use Rattle.hs_equations.proofs.row.divided_by.Goals as goal

pub returns-then-is_even : goal.returns-then-is_even
returns-then-is_even c = λ s h.
    let row = c.args.row.now in
    let g : to_z w128 (of_z w128 c.args.g) ≡ c.args.g = to_z-of_z w128 c.args.g (search rules) in
    let k : to_z w128 (of_z w128 row.sum.constant) ≡ row.sum.constant = to_z-of_z w128 row.sum.constant (search rules) in
    let r : to_z w128 (of_z w128 c.in-Some.cut.rest) ≡ c.in-Some.cut.rest = to_z-of_z w128 c.in-Some.cut.rest (search rules) in
    let c_is : row.sum.constant ≡ c.args.g *ℤ c.in-Some.cut.whole +ℤ c.in-Some.cut.rest = sym k ∙ c.in-Some.ensures.0 ∙ ap (λ z. z *ℤ c.in-Some.cut.whole +ℤ c.in-Some.cut.rest) g in
    let high : c.in-Some.cut.rest <ℤ c.args.g = subst (λ z. c.in-Some.cut.rest <ℤ z) g c.in-Some.ensures.2 in
    let terms : sum_at s row.sum.terms ≡ c.args.g *ℤ sum_at s c.in_ok-terms.terms = ap (sum_at s) (sym c.as_slice.ensures) ∙ c.in_ok-terms.ensures s ∙ ap (λ z. z *ℤ sum_at s c.in_ok-terms.terms) g in
    divided-met c.args.g c.in-Some.cut.whole c.in-Some.cut.rest row.sum.constant _ (sum_at s row.sum.terms) (sum_at s c.in_ok-terms.terms) c.requires c_is c.in-Some.ensures.1 high terms (to_z-of_z w128 c.in-Some.cut.whole (search rules)) row.kind (subst (IsEven row.kind) r (c.is_even.ensures.0 c.if-is_even.true)) h

pub returns-else-is_even : goal.returns-else-is_even
returns-else-is_even c = λ s h.
    let row = c.args.row.now in
    let g : to_z w128 (of_z w128 c.args.g) ≡ c.args.g = to_z-of_z w128 c.args.g (search rules) in
    let k : to_z w128 (of_z w128 row.sum.constant) ≡ row.sum.constant = to_z-of_z w128 row.sum.constant (search rules) in
    let r : to_z w128 (of_z w128 c.in-Some.cut.rest) ≡ c.in-Some.cut.rest = to_z-of_z w128 c.in-Some.cut.rest (search rules) in
    let c_is : row.sum.constant ≡ c.args.g *ℤ c.in-Some.cut.whole +ℤ c.in-Some.cut.rest = sym k ∙ c.in-Some.ensures.0 ∙ ap (λ z. z *ℤ c.in-Some.cut.whole +ℤ c.in-Some.cut.rest) g in
    let high : c.in-Some.cut.rest <ℤ c.args.g = subst (λ z. c.in-Some.cut.rest <ℤ z) g c.in-Some.ensures.2 in
    let terms : sum_at s row.sum.terms ≡ c.args.g *ℤ sum_at s c.in_ok-terms.terms = ap (sum_at s) (sym c.as_slice.ensures) ∙ c.in_ok-terms.ensures s ∙ ap (λ z. z *ℤ sum_at s c.in_ok-terms.terms) g in
    says-as c.uneven.result.kind row.kind (value s c.uneven.result.sum) c.uneven.ensures.kind
    (uneven-met c.args.g c.in-Some.cut.whole c.in-Some.cut.rest row.sum.constant c.in-Some.cut.whole (sum_at s row.sum.terms) (sum_at s c.in_ok-terms.terms) c.requires c_is c.in-Some.ensures.1 high terms (λ i. c.in-Some.cut.whole) row.kind (value s c.uneven.result.sum) (c.uneven.ensures.value s) (λ e. not-from_false c.is_even.result c.is_even.ensures c.if-is_even.false (subst (IsEven row.kind) (sym r) e)) h)
