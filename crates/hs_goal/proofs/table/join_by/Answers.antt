use Rattle.std.proofs.Common.{nat_eq, sym, ◌∙◌, subst}
use Rattle.indexmap.specs.IndexMap.{get}
use Rattle.hs_goal.specs.Links.{Joins}
use Rattle.hs_goal.specs.Keys.{key}
use Rattle.hs_goal.proofs.Alike.{none_more, one_more, on_ok}
use Rattle.hs_goal.proofs.table.join_by.Goals as goal

pub returns-in-Some : goal.returns-in-Some
returns-in-Some c = on_ok c.join.result (λ j ps h. one_more ps c.args.p.now (get nat_eq c.args.links.now) (get nat_eq c.join.new.links) c.in-Some.a c.in-Some.b h (sym c.equated.ensures ∙ c.in-Some.is)
    (subst (λ k. Joins (get nat_eq c.args.links.now) (get nat_eq c.join.new.links) k (key c.in-Some.b)) c.key.ensures (subst (λ k. Joins (get nat_eq c.args.links.now) (get nat_eq c.join.new.links) c.key.result k) c.key-in-Some.ensures j))) c.join.ensures

pub returns-in-None : goal.returns-in-None
returns-in-None c ps h = none_more ps c.args.p.now (get nat_eq c.args.links.now) h (sym c.equated.ensures ∙ c.in-None.is)
