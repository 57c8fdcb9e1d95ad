use Rattle.std.proofs.Common.{arith}
use Rattle.hs_elimination.proofs.Lcms.{gcd_positive, lcm-from}
use Rattle.hs_cooper.proofs.lcm.lcm.Goals as goal

pub nonzero_div-a : goal.nonzero_div-a
nonzero_div-a c = omega (arith, gcd_positive c.args.a c.args.b c.requires.a_positive)

pub returns-in-Some : goal.returns-in-Some
returns-in-Some c = let e = lcm-from c.args.a c.args.b c.gcd.result c.gcd.ensures in omega (arith, e, c.in-Some.ensures)

pub returns-in_default : goal.returns-in_default
returns-in_default c = λ h. let e = lcm-from c.args.a c.args.b c.gcd.result c.gcd.ensures in omega (arith, e, c.in-Some.ensures)

pub returns-in_default-2 : goal.returns-in_default-2
returns-in_default-2 c = λ h. let e = lcm-from c.args.a c.args.b c.gcd.result c.gcd.ensures in c.in_default.ensures (omega arith)
