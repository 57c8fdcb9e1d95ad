use Rattle.std.proofs.Common.{◌≡◌, IfOk, map, ap, ◌∙◌, subst}
use Rattle.hs_goal.specs.Classes.{the_case}
use Rattle.hs_rules.specs.Parts.{to_fresh, fresh_variables}
use Rattle.hs_rules.specs.Residues.{all_binding}
use Rattle.hs_question.proofs.residues.bound_again.Goals as goal

pub returns : goal.returns
returns c =
    let fresh : c.as_slice.result.now ≡ fresh_variables (the_case c.args.side.now) c.args.next =
    c.as_slice.ensures ∙ c.in_ok-variables.ensures ∙ ap (λ bs. map (to_fresh bs c.args.next) bs) c.bound_of.ensures in
    subst (λ ds. IfOk c.all_binding.result (λ f. f ≡ all_binding (fresh_variables (the_case c.args.side.now) c.args.next) (record { cases = ds }))) c.first_cases.ensures
    (subst (λ vs. IfOk c.all_binding.result (λ f. f ≡ all_binding vs (record { cases = c.first_cases.result.now }))) fresh c.all_binding.ensures)
