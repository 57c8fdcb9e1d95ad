use Rattle.std.proofs.Common.{nat_eq}
use Rattle.indexmap.specs.IndexMap.{get}
use Rattle.hs_goal.proofs.Ends.{shortened_at}
use Rattle.hs_goal.proofs.links.shorten.Goals as goal

pub returns-in_ok-insert : goal.returns-in_ok-insert
returns-in_ok-insert c = shortened_at (get nat_eq c.args.links.now) (get nat_eq c.find.new.links) (get nat_eq c.insert.new.self) c.args.key c.in_ok-end.end c.in_ok-end.ensures c.if-end-key.true c.in_ok-insert.ensures.updates.0
