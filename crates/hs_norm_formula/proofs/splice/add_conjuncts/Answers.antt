use Rattle.std.proofs.Common.{◌∙◌, ◌++◌, sym, ap}
use Rattle.hs_norm_formula.proofs.Splicing.{conjuncts-alone}
use Rattle.hs_norm_formula.proofs.splice.add_conjuncts.Goals as goal

pub returns : goal.returns
returns c = c.in_ok-push.ensures.ok ∙ ap (λ xs. c.args.into.now ++ xs) (sym (conjuncts-alone c.args.p (sym c.is_and.ensures ∙ c.if-is_and.false)))
