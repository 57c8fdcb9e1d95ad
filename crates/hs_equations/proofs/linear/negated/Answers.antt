use Rattle.std.proofs.Common.{refl, ap, pos, negsuc, ◌+ℤ◌}
use Rattle.hs_pure.specs.Truth.{sum_at, value}
use Rattle.hs_equations.proofs.Lists.{ok-map}
use Rattle.hs_equations.proofs.Sums.{value-negated}
use Rattle.hs_equations.proofs.linear.negated.Goals as goal

pub returns : goal.returns
returns c = ok-map c.combined.result (λ r h s. value-negated (negsuc 0) (value s c.args.a.now) _ _ refl (ap (λ ts. sum_at s ts +ℤ pos 0) c.new.ensures) (h s)) c.combined.ensures
