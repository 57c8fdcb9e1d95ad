use Rattle.std.proofs.Common.{◌≡◌, true, inl, inr, rules, sym, subst}
use Rattle.hs_pure.specs.Eval.{stack_of, NumbersFit}
use Rattle.hs_elimination.specs.Normal.{is_simple}
use Rattle.hs_elimination.proofs.Order.{simple-assertion}
use Rattle.hs_elimination.proofs.Simple.{no_quantifiers}
use Rattle.hs_cooper_forms.specs.Reading.{form_of}
use Rattle.hs_cooper.proofs.Searches.{told}
use Rattle.hs_cooper.proofs.search.is_true.Goals as goal

pub eval-requires : goal.eval-requires
eval-requires c = record { no_quantifiers = no_quantifiers c.in_ok-p.p (subst (λ a. is_simple a ≡ true) (sym c.in_ok-p.ensures.form) (simple-assertion (form_of c.args.f.now))) }

pub returns-in-Ok-clause-truth : goal.returns-in-Ok-clause-truth
returns-in-Ok-clause-truth c = told (stack_of c.args.v.now) (form_of c.args.f.now) c.in_ok-p.p c.in-Ok.truth c.in_ok-p.ensures.form c.in-Ok.ensures.truth

pub returns-in_err-p-clause-wide : goal.returns-in_err-p-clause-wide
returns-in_err-p-clause-wide c = λ h. inl (c.in_err-p.ensures.wide (search rules))

pub returns-clause-wide : goal.returns-clause-wide
returns-clause-wide c = λ _. inr (λ h. c.in-Err.ensures.wide (subst (NumbersFit (stack_of c.args.v.now)) (sym c.in_ok-p.ensures.form) h))
