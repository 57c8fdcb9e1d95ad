use Rattle.std.proofs.Common.{◌≡◌, [], sym, ◌∙◌, arith}
use Rattle.hs_rules.specs.Parts.{right_atoms}
use Rattle.hs_choices.proofs.Untried.{some_mixed, none_long}
use Rattle.hs_choices.proofs.stopping.stuck.Goals as goal

pub open_bag-requires-clause-mixed : goal.open_bag-requires-clause-mixed
open_bag-requires-clause-mixed c =
    let g = c.args.goal.now in
    let none : right_atoms g ≡ [] = sym c.atoms_of.ensures ∙ none_long c.atoms_of.result.now (omega arith) in
    some_mixed g c.requires none
