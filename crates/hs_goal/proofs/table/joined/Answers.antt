use Rattle.std.proofs.Common.{◌++◌, ◌∷◌, [], nat_eq, sym, subst, take, ap}
use Rattle.std.proofs.lemmas.List.{take_more}
use Rattle.std.specs.Map.{lookup}
use Rattle.indexmap.specs.IndexMap.{get}
use Rattle.hs_goal.specs.Keys.{HaveClasses}
use Rattle.hs_goal.proofs.Alike.{no_links}
use Rattle.hs_goal.proofs.table.joined.Goals as goal

pub loop-conjunct-init : goal.loop-conjunct-init
loop-conjunct-init c = no_links (get nat_eq c.new-links.result) (λ k. ap (λ es. lookup (nat_eq k) es) c.new-links.ensures.empty)

pub loop-conjunct-preserved : goal.loop-conjunct-preserved
loop-conjunct-preserved c =
    let ps = c.args.conjuncts.now in
    let i = c.loop-conjunct.conjunct-index in
    let g = get nat_eq c.join_by.new.links in
    subst (λ l. HaveClasses l g) (sym (take_more ps i c.conjunct-item.result c.loop-conjunct-test.true))
    (subst (λ p. HaveClasses (take i ps ++ p ∷ []) g) c.conjunct-item.is (c.in_ok-join_by.ensures (take i ps) c.loop-conjunct.invariant))
