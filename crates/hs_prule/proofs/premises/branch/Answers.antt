use Rattle.std.proofs.Common.{◌≡◌, ap, ◌∙◌, subst}
use Rattle.hs_pure.specs.declared.pure.Pure.{Pure}
use Rattle.hs_pure.specs.Rename.{renamed}
use Rattle.hs_program_rules.specs.States.{variable_in}
use Rattle.hs_program_rules.specs.Table.{AreLow}
use Rattle.hs_sides.specs.Answers.{IsGiven}
use Rattle.hs_prule.specs.After.{both_ways}
use Rattle.hs_prule.proofs.premises.branch.Goals as goal

pub returns : goal.returns
returns c =
    let over : c.get.result.now ≡ renamed (λ v. variable_in c.args.at.now.state.slots v.number) c.args.condition.now =
    c.get.ensures ∙ c.in_ok-over.ensures ∙ ap (λ s. renamed (λ v. variable_in s v.number) c.args.condition.now) c.as_slice.ensures in
    subst (λ (q : Pure). IsGiven (AreLow (both_ways c.args.at.now c.args.d.now q c.args.other)) (both_ways c.args.at.now c.args.d.now q c.args.other) c.both.result) over c.both.ensures
