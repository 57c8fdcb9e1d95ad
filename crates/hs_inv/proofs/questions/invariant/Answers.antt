use Rattle.std.proofs.Common.{rules, ◌≡◌, Some}
use Rattle.hs_heap.specs.Meaning.{pred_at}
use Rattle.hs_inv.proofs.There.{decided_there}
use Rattle.hs_inv.proofs.questions.invariant.Goals as goal

pub returns-clause-decided : goal.returns-clause-decided
returns-clause-decided c =
    let there : pred_at c.args.defs.now c.args.pred ≡ Some c.in-Some.p.now = search rules in
    decided_there c.args.defs.now c.args.pred c.in-Some.p.now c.args.atoms c.invariant_of.result there c.invariant_of.ensures.decided
