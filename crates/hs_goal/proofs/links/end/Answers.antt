use Rattle.std.proofs.Common.{nat_eq, sym, ◌∙◌}
use Rattle.indexmap.specs.IndexMap.{get}
use Rattle.hs_goal.proofs.Ends.{end-Some}
use Rattle.hs_goal.proofs.links.end.Goals as goal

pub loop-next-preserved : goal.loop-next-preserved
loop-next-preserved c = sym (end-Some (get nat_eq c.args.links.now) c.requires c.loop-next.at c.in-Some.next (sym c.link.ensures ∙ c.in-Some.is)) ∙ c.loop-next.invariant
