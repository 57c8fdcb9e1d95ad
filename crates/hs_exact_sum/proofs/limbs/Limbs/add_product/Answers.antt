use Rattle.std.proofs.Common.{◌≡◌, ◌<◌, ◌^◌, pos, ◌+ℤ◌, ◌*ℤ◌, ap, sym, ◌∙◌, rules, arith}
use mir.Syntax.{w128}
use Rattle.std.proofs.lemmas.Int.{ints, to_z-of_z}
use Rattle.hs_exact_sum.specs.Limbs.{joined, number_of}
use Rattle.hs_exact_sum.proofs.Products.{four_products, four_added, with_product, low_passed, digit_passed, rest_passed, fits_upper, upper_passed, near_upper}
use Rattle.hs_exact_sum.proofs.limbs.Limbs.add_product.Goals as goal

pub overflow_add-upper-2 : goal.overflow_add-upper-2
overflow_add-upper-2 c =
    let t : c.args.self.third < 2 ^ 64 = search rules in
    fits_upper c.from-4.result c.add_to-cross.result.high c.add_to-second.result.high c.args.self.third t c.add_to-cross.ensures.near c.add_to-second.ensures.near c.from-4.ensures

pub overflow_add-upper : goal.overflow_add-upper
overflow_add-upper c =
    let t : c.args.self.third < 2 ^ 64 = search rules in
    omega (arith, ints, t, c.from-4.ensures, c.add_to-cross.ensures.near)

pub add_to-third-requires-clause-digit : goal.add_to-third-requires-clause-digit
add_to-third-requires-clause-digit c =
    let t : c.args.self.third < 2 ^ 64 = search rules in
    near_upper c.from-4.result c.add_to-cross.result.high c.add_to-second.result.high c.args.self.third t c.add_to-cross.ensures.near c.add_to-second.ensures.near c.from-4.ensures

pub returns-clause-value : goal.returns-clause-value
returns-clause-value c =
    let l = c.args.self in
    let cs = c.halved-c.result in
    let xs = c.halved-x.result in
    let first = c.add_to-first.result in
    let cross = c.add_to-cross.result in
    let second = c.add_to-second.result in
    let third = c.add_to-third.result in
    let t1 : c.args.self.first < 2 ^ 64 = search rules in
    let t2 : c.args.self.second < 2 ^ 64 = search rules in
    let t3 : c.args.self.third < 2 ^ 64 = search rules in
    let t4 : c.add_to-cross.result.low < 2 ^ 64 = search rules in
    let e1 : pos l.first +ℤ cs.low *ℤ xs.low ≡ joined first.high first.low =
    with_product _ (pos l.first) cs.low xs.low _ (low_passed c.from.result l.first t1 c.from.ensures)
    c.halved-c.ensures.low c.halved-x.ensures.low c.add_to-first.ensures.sum in
    let e2 : (pos l.second +ℤ first.high) +ℤ cs.high *ℤ xs.low ≡ joined cross.high cross.low =
    with_product _ (pos l.second +ℤ first.high) cs.high xs.low _ (digit_passed c.from-2.result first.high l.second t2 c.add_to-first.ensures.near c.from-2.ensures)
    c.halved-c.ensures.high c.halved-x.ensures.low c.add_to-cross.ensures.sum in
    let e3 : pos cross.low +ℤ cs.low *ℤ xs.high ≡ joined second.high second.low =
    with_product _ (pos cross.low) cs.low xs.high _ (low_passed c.from-3.result cross.low t4 c.from-3.ensures)
    c.halved-c.ensures.low c.halved-x.ensures.high c.add_to-second.ensures.sum in
    let e4 : ((pos l.third +ℤ cross.high) +ℤ second.high) +ℤ cs.high *ℤ xs.high ≡ joined third.high third.low =
    with_product _ ((pos l.third +ℤ cross.high) +ℤ second.high) cs.high xs.high _
    (upper_passed c.from-4.result cross.high second.high l.third t3 c.add_to-cross.ensures.near c.add_to-second.ensures.near c.from-4.ensures)
    c.halved-c.ensures.high c.halved-x.ensures.high c.add_to-third.ensures.sum in
    let c_is : c.args.c ≡ cs.high *ℤ pos (2 ^ 64) +ℤ cs.low = sym (to_z-of_z w128 c.args.c c.ranges.c) ∙ c.halved-c.ensures.sum in
    let x_is : c.args.x ≡ xs.high *ℤ pos (2 ^ 64) +ℤ xs.low = sym (to_z-of_z w128 c.args.x c.ranges.x) ∙ c.halved-x.ensures.sum in
    ap (λ z. joined (joined (joined z third.low) second.low) first.low) (rest_passed l.rest third.high c.requires c.add_to-third.ensures.near)
    ∙ four_added first.high cross.high second.high third.high l.rest (cs.low *ℤ xs.low) (cs.high *ℤ xs.low) (cs.low *ℤ xs.high) (cs.high *ℤ xs.high)
    l.first l.second l.third first.low second.low third.low cross.low e1 e2 e3 e4
    ∙ ap (λ z. number_of l +ℤ z) (sym ((λ i. c_is i *ℤ x_is i) ∙ four_products cs.high cs.low xs.high xs.low (pos (2 ^ 64))))
