use Rattle.std.proofs.Common.{◌≡◌, map, length, ap, ◌∙◌, rules}
use Rattle.hs_calculus.proofs.Lists.{extend_step}
use Rattle.hs_calculus.proofs.extend.extend_copies.Goals as goal

pub loop-row-preserved : goal.loop-row-preserved
loop-row-preserved g c =
    let n : c.len.result ≡ length c.loop-row.longer.items = search rules in
    ap (map (λ row. row.items)) c.in_ok-append.ensures.items
    ∙ extend_step (λ row. row.items) c.args.wanted c.loop-row.row-index c.len.result c.args.rows.now c.loop-row.longer.items c.in_ok-more.more.items c.args.found.now c.row-item.result c.deref.result.now
    c.loop-row.invariant c.in_ok-more.ensures n c.deref.ensures.value (search rules) c.row-item.is
