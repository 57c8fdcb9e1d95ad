use Rattle.std.proofs.Common.{◌≡◌, ap, ◌∙◌, pos, ◌≤ℤ◌, arith, unsigned_abs}
use Rattle.std.proofs.lemmas.Int.{ints, to_z-of_z}
use mir.Syntax.{w128}
use Rattle.hs_pure.proofs.Divides.{divides_is}
use Rattle.hs_pure.proofs.eval.divides.Goals as goal

pub nonzero_rem-result : goal.nonzero_rem-result
nonzero_rem-result c =
    let same : c.unsigned_abs-then-d-ge1.result ≡ unsigned_abs c.args.d = c.unsigned_abs-then-d-ge1.ensures.value ∙ ap unsigned_abs (to_z-of_z w128 c.args.d c.ranges.d) in
    let h : pos 1 ≤ℤ c.args.d = grind (arith, ints) in
    omega (arith, ints)

pub returns-then-d-ge1 : goal.returns-then-d-ge1
returns-then-d-ge1 c =
    let h : pos 1 ≤ℤ c.args.d = grind (arith, ints) in
    divides_is c.args.x c.args.d c.unsigned_abs.result c.unsigned_abs-then-d-ge1.result
    (c.unsigned_abs.ensures.value ∙ ap unsigned_abs (to_z-of_z w128 c.args.x c.ranges.x))
    (c.unsigned_abs-then-d-ge1.ensures.value ∙ ap unsigned_abs (to_z-of_z w128 c.args.d c.ranges.d)) h

pub returns-else-d-ge1 : goal.returns-else-d-ge1
returns-else-d-ge1 c = (λ is. absurd (let e = c.if-d-ge1.false in cc (e, is)), λ p. absurd (let e = p.0 in grind (arith, ints)))
