use Rattle.std.proofs.Common.{rules, ◌≡◌, Some}
use Rattle.hs_heap.specs.Meaning.{pred_at}
use Rattle.hs_founding.proofs.fault.name.Goals as goal

pub returns : goal.returns
returns c =
    let there : pred_at c.args.resolved.now.defs c.args.number ≡ Some c.in-Some.pred.now = search rules in
    record { pred = c.in-Some.pred.now; there = there; is = c.in_ok-copy.ensures }
