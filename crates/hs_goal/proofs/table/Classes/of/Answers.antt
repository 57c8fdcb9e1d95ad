use Rattle.std.proofs.Common.{nat_eq}
use Rattle.indexmap.specs.IndexMap.{get}
use Rattle.hs_goal.proofs.Alike.{shorter_links}
use Rattle.hs_goal.proofs.Flat.{table_told}
use Rattle.hs_goal.proofs.table.Classes.of.Goals as goal

pub returns : goal.returns
returns c = table_told c.args.conjuncts.now (get nat_eq c.shorten_all.new.links) (get nat_eq c.in_ok-table.table)
    (shorter_links c.args.conjuncts.now (get nat_eq c.in_ok-links.links) (get nat_eq c.shorten_all.new.links) c.in_ok-links.ensures c.in_ok-shorten_all.ensures) c.in_ok-table.ensures
