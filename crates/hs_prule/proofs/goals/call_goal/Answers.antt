use Rattle.std.proofs.Common.{◌≡◌, map, ap, ◌∙◌}
use Rattle.hs_heap.specs.Renamed.{renamed_formula}
use Rattle.hs_program_rules.specs.Parts.{call_renaming, variables_in}
use Rattle.hs_prule.proofs.Same.{asked_same}
use Rattle.hs_prule.proofs.goals.call_goal.Goals as goal

pub returns : goal.returns
returns c =
    let vs : c.as_slice-2.result.now ≡ variables_in c.args.at.now.state.slots c.args.args.now = c.as_slice-2.ensures ∙ c.in_ok-values.ensures ∙ ap (λ s. variables_in s c.args.args.now) c.as_slice.ensures in
    asked_same c.args.at.now c.asked.result c.in_ok-asks.ensures.next
    (c.in_ok-asks.ensures.opens ∙ ap (λ us. map (call_renaming c.args.m.now c.args.p.now us c.args.at.now.state.next) c.args.p.now.logic) vs)
    (c.in_ok-asks.ensures.pre ∙ ap (λ us. renamed_formula (call_renaming c.args.m.now c.args.p.now us c.args.at.now.state.next) c.args.p.now.pre) vs) c.asked.ensures
