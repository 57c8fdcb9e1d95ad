use Rattle.std.proofs.Common.{◌≡◌, ◌<◌, List, length, get_or, subst}
use Rattle.hs_norm_item.specs.declared.forms.PairTree.{PairTree}
use Rattle.hs_hip_lines.proofs.Telling.{telling_push}
use Rattle.hs_hip_lines.proofs.lines.method_lines.Goals as goal

pub loop-p-preserved : goal.loop-p-preserved
loop-p-preserved c =
    let here = c.as_slice-p-items.ensures in
    let p = c.p-item.result in
    let below = subst (λ (ps : List PairTree). c.loop-p.p-index < length ps) here c.loop-p-test.true in
    let at = subst (λ (ps : List PairTree). p ≡ get_or ps c.loop-p.p-index p) here c.p-item.is in
    telling_push c.args.defs.now c.args.program.now c.args.limits.now c.args.unshown.now c.args.m c.args.method.now.name c.args.method.now.pairs c.loop-p.lines.items c.push.new.self.items
    c.loop-p.p-index c.loop-p.i p c.in_ok-line.line c.loop-p.invariant below at c.in_ok-line.ensures c.in_ok-push.ensures.items
