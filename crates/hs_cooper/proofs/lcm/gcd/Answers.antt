use Rattle.std.proofs.lemmas.Nat.Gcd.{IsGcd-from_mod, IsGcd-from_zero, same_from_IsGcd}
use Rattle.hs_elimination.proofs.Lcms.{gcd-is}
use Rattle.hs_cooper.proofs.lcm.gcd.Goals as goal

pub steps-preserved : goal.steps-preserved
steps-preserved c = λ g h. c.steps.invariant g (IsGcd-from_mod _ _ _ h)

pub returns : goal.returns
returns c = same_from_IsGcd _ _ _ _ (c.steps.invariant _ (IsGcd-from_zero _ _ c.steps-test.false)) (gcd-is c.args.a c.args.b)
