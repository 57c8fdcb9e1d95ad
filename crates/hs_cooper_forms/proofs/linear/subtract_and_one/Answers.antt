use Rattle.std.proofs.Common.{rules}
use Rattle.hs_cooper_forms.proofs.Merging.{one_more}
use Rattle.hs_cooper_forms.proofs.linear.subtract_and_one.Goals as goal

pub returns-clause-sum : goal.returns-clause-sum
returns-clause-sum c = one_more c.args.a.now c.args.b.now c.in_ok-terms.terms c.in-Some.constant (search rules) (search rules) (rw (c.as_slice.ensures, c.as_slice-2.ensures) at c.in_ok-terms.ensures.sum) c.in-Some.ensures.0 c.in-Some.ensures.1
