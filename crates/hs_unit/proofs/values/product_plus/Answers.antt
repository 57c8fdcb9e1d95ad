use Rattle.std.proofs.Common.{◌≤◌, ◌^◌, unsigned_abs, ℤ, sym, subst}
use Rattle.hs_unit.proofs.Bounds.{computed, value-bound}
use Rattle.hs_unit.proofs.values.product_plus.Goals as goal

pub returns-clause-value : goal.returns-clause-value
returns-clause-value c = computed c.args.c c.args.y c.args.k c.ranges.c c.ranges.y c.ranges.k c.requires.factor c.requires.near c.requires.constant

pub returns-clause-bound : goal.returns-clause-bound
returns-clause-bound c =
    subst (λ (z : ℤ). unsigned_abs z ≤ 2 ^ 122) (sym (computed c.args.c c.args.y c.args.k c.ranges.c c.ranges.y c.ranges.k c.requires.factor c.requires.near c.requires.constant))
    (value-bound c.args.c c.args.y c.args.k c.requires.factor c.requires.near c.requires.constant)
