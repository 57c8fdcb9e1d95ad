use Rattle.std.proofs.Common.{rules}
use Rattle.hs_pure.specs.Eval.{stack_of}
use Rattle.hs_cooper_forms.specs.Reading.{form_of}
use Rattle.hs_cooper.proofs.Searches.{refused_near}
use Rattle.hs_cooper.proofs.search.near_at.Goals as goal

pub returns-in_err-is_true-clause-wide : goal.returns-in_err-is_true-clause-wide
returns-in_err-is_true-clause-wide c = λ h. refused_near (stack_of c.args.v.now) c.args.x (form_of c.args.f.now) c.args.b.now c.args.j _ (form_of c.in_ok-case.case) c.in_ok-sum.ensures.sum c.in_ok-case.ensures.form (c.in_err-is_true.ensures.wide (search rules))
