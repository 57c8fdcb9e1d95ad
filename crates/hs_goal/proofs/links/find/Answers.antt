use Rattle.std.proofs.Common.{◌≡◌, nat_eq, Some, sym, ◌∙◌}
use Rattle.indexmap.specs.IndexMap.{get}
use Rattle.hs_goal.proofs.Ends.{end-None, end-Some, shortened, shortens_again}
use Rattle.hs_goal.proofs.links.find.Goals as goal

pub returns-in_default-link : goal.returns-in_default-link
returns-in_default-link c =
    let s = c.loop-next.invariant.shorter in
    record {
      shorter = s;
      found =
          sym (end-None (get nat_eq c.loop-next.links) s.fall c.in-Some.next (sym c.link-in-Some.ensures ∙ c.in_default-link.is))
          ∙ sym (end-Some (get nat_eq c.loop-next.links) s.fall c.loop-next.at c.in-Some.next (sym c.link.ensures ∙ c.in-Some.is))
          ∙ c.loop-next.invariant.on;
    }

pub loop-next-preserved : goal.loop-next-preserved
loop-next-preserved c =
    let f = get nat_eq c.args.links.now in
    let g = get nat_eq c.loop-next.links in
    let h = get nat_eq c.insert.new.self in
    let s = c.loop-next.invariant.shorter in
    let is : g c.loop-next.at ≡ Some c.in-Some.next = sym c.link.ensures ∙ c.in-Some.is in
    let next : g c.in-Some.next ≡ Some c.in-Some-link.after = sym c.link-in-Some.ensures ∙ c.in-Some-link.is in
    let t = shortened g h c.loop-next.at c.in-Some.next c.in-Some-link.after s.fall is next c.in_ok-insert.ensures.updates.0 in
    record {
      shorter = shortens_again f g h s t;
      on = t.ends c.in-Some-link.after ∙ sym (end-Some g s.fall c.in-Some.next c.in-Some-link.after next) ∙ sym (end-Some g s.fall c.loop-next.at c.in-Some.next is) ∙ c.loop-next.invariant.on;
    }
