use Rattle.hs_cooper_forms.proofs.Changes.{ok_map}
use Rattle.hs_quantifiers.proofs.Parts.{ordered_of}
use Rattle.hs_equations.specs.Finding.{IsCounter}
use Rattle.hs_decide.proofs.Sides.{refuted_map, bags-without, implied_without, counter_without}
use Rattle.hs_decide.proofs.rows.by_equations.Goals as goal

pub examine-requires-in-Ok-clause-left_bags : goal.examine-requires-in-Ok-clause-left_bags
examine-requires-in-Ok-clause-left_bags c = bags-without c.args.a.now c.in-Ok.sides.left c.requires.left_bags c.in-Ok.ensures.left

pub examine-requires-in-Ok-clause-right_bags : goal.examine-requires-in-Ok-clause-right_bags
examine-requires-in-Ok-clause-right_bags c = bags-without c.args.b.now c.in-Ok.sides.right c.requires.right_bags c.in-Ok.ensures.right

pub examine-requires-in-Ok-clause-left_ordered : goal.examine-requires-in-Ok-clause-left_ordered
examine-requires-in-Ok-clause-left_ordered c = ordered_of c.args.a.now c.in-Ok.sides.left c.requires.left_bags c.requires.left_ordered c.in-Ok.ensures.left

pub examine-requires-in-Ok-clause-right_ordered : goal.examine-requires-in-Ok-clause-right_ordered
examine-requires-in-Ok-clause-right_ordered c = ordered_of c.args.b.now c.in-Ok.sides.right c.requires.right_bags c.requires.right_ordered c.in-Ok.ensures.right

pub returns-in-Ok-clause-implied : goal.returns-in-Ok-clause-implied
returns-in-Ok-clause-implied c =
    ok_map c.examine-in-Ok.result
    (λ r f is. implied_without c.args.a.now c.args.b.now c.requires.left_bags c.requires.right_bags c.requires.left_ordered c.requires.right_ordered c.in-Ok.sides.left c.in-Ok.sides.right c.in-Ok.ensures.left c.in-Ok.ensures.right (f is))
    c.examine-in-Ok.ensures.implied

pub returns-in-Ok-clause-refuted : goal.returns-in-Ok-clause-refuted
returns-in-Ok-clause-refuted c =
    ok_map c.examine-in-Ok.result
    (refuted_map (IsCounter c.in-Ok.sides.left c.in-Ok.sides.right) (IsCounter c.args.a.now c.args.b.now)
    (counter_without c.args.a.now c.args.b.now c.requires.left_bags c.requires.right_bags c.requires.left_ordered c.requires.right_ordered c.in-Ok.sides.left c.in-Ok.sides.right c.in-Ok.ensures.left c.in-Ok.ensures.right))
    c.examine-in-Ok.ensures.refuted
