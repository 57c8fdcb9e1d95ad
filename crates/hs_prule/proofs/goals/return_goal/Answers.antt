use Rattle.std.proofs.Common.{ap, ◌∙◌}
use Rattle.hs_heap.specs.Renamed.{renamed_formula}
use Rattle.hs_program_rules.specs.Parts.{return_renaming}
use Rattle.hs_prule.proofs.Same.{asked_same}
use Rattle.hs_prule.proofs.goals.return_goal.Goals as goal

pub returns : goal.returns
returns c =
    asked_same c.args.at.now c.asked.result (λ i. c.args.at.now.state.next) c.new.ensures
    (c.in_ok-right.ensures ∙ ap (λ s. renamed_formula (return_renaming c.args.m.now c.args.from s) c.args.p.now.post) c.as_slice.ensures) c.asked.ensures
