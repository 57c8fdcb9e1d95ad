use Rattle.std.proofs.Common.{nat_eq, get_or, take, take_all, sym, ap, ◌∙◌, subst}
use Rattle.std.specs.Map.{lookup}
use Rattle.std.proofs.lemmas.List.{take_more}
use Rattle.indexmap.specs.IndexMap.{get}
use Rattle.hs_goal.specs.Links.{HasEnds}
use Rattle.hs_goal.proofs.Ends.{Puts}
use Rattle.hs_goal.proofs.Flat.{no_ends, more_ends, all_ends}
use Rattle.hs_goal.proofs.links.ends.Goals as goal

pub loop-key-init : goal.loop-key-init
loop-key-init c = no_ends (get nat_eq c.args.links.now) (get nat_eq c.new-table.result) (λ k. ap (λ es. lookup (nat_eq k) es) c.new-table.ensures.empty)

pub loop-key-preserved : goal.loop-key-preserved
loop-key-preserved c =
    let f = get nat_eq c.args.links.now in
    let more = get nat_eq c.insert.new.self in
    let keys = c.as_slice-keys.result.now in
    let i = c.loop-key.key-index in
    subst (λ ks. HasEnds ks f more) (sym (take_more keys i 0 c.loop-key-test.true))
    (more_ends f (get nat_eq c.loop-key.table) more (take i keys) (get_or keys i 0) c.loop-key.invariant
    (subst (λ e. Puts (get nat_eq c.loop-key.table) more (get_or keys i 0) e) c.end.ensures c.in_ok-insert.ensures.updates.0))

pub returns : goal.returns
returns c =
    all_ends c.args.links.now.entries (get nat_eq c.loop-key.table) c.requires
    (subst (λ ks. HasEnds ks (get nat_eq c.args.links.now) (get nat_eq c.loop-key.table)) (take_all c.loop-key.key-index c.as_slice-keys.result.now c.loop-key-test.false ∙ c.as_slice-keys.ensures ∙ c.keys.ensures.rest) c.loop-key.invariant)
