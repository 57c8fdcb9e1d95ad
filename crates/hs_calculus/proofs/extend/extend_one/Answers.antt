use Rattle.std.proofs.Common.{rules, ◌≡◌, length}
use Rattle.hs_calculus.proofs.Lists.{one_row_set}
use Rattle.hs_calculus.proofs.extend.extend_one.Goals as goal

pub returns : goal.returns
returns g c =
    let rows : length c.args.rows.items ≡ 1 = search rules in
    let found : length c.args.found.items ≡ 1 = search rules in
    one_row_set (λ row. row.items) c.args.rows.items c.args.found.items c.remove.result c.index_mut.result.now c.push.new.self rows found c.remove.ensures.value c.index_mut.ensures.value c.in_ok-push.ensures.items
