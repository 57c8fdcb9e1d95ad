use Rattle.std.proofs.Common.{nat_eq}
use Rattle.indexmap.specs.IndexMap.{get}
use Rattle.hs_goal.proofs.Ends.{joined, joined_other}
use Rattle.hs_goal.proofs.links.join.Goals as goal

pub returns-in_ok-insert : goal.returns-in_ok-insert
returns-in_ok-insert c = joined_other (get nat_eq c.args.links.now) (get nat_eq c.find.new.links) (get nat_eq c.find-2.new.links) (get nat_eq c.insert.new.self) c.args.a c.args.b c.in_ok-a.a c.in_ok-b.b
    c.in_ok-a.ensures c.in_ok-b.ensures c.if-a-b.true c.in_ok-insert.ensures.updates.0

pub returns-in_ok-insert-2 : goal.returns-in_ok-insert-2
returns-in_ok-insert-2 c = joined (get nat_eq c.args.links.now) (get nat_eq c.find.new.links) (get nat_eq c.find-2.new.links) (get nat_eq c.insert-then-b-a.new.self) c.args.a c.args.b c.in_ok-a.a c.in_ok-b.b
    c.in_ok-a.ensures c.in_ok-b.ensures c.if-b-a.true c.in_ok-insert-2.ensures.updates.0
