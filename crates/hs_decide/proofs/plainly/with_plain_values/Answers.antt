use Rattle.hs_decide.proofs.Reducing.{solved}
use Rattle.hs_decide.proofs.plainly.with_plain_values.Goals as goal

pub returns-in-Ok : goal.returns-in-Ok
returns-in-Ok c = λ _. solved c.args.question.now c.args.reduced.now c.requires.reduced c.bags_plain_is_of_assertion.ensures c.rebuilt_bags_make_true.ensures c.rebuilt_by_counts.ensures c.args.values.now c.in-Ok.rebuilt c.requires.solved c.as_slice.result.now c.as_slice.ensures c.in-Ok.ensures.same
