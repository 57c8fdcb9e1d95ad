use Rattle.std.proofs.Common.{rules, ◌≡◌, ◌+◌, [], ◌∷◌, ◌++◌, ap, ◌∙◌}
use Rattle.hs_node.specs.declared.claim.Claim.TheVariants.{Pair}
use Rattle.hs_claims.specs.Entries.{entry_by}
use Rattle.hs_claims.proofs.Entered.{pair_pushed}
use Rattle.hs_claims.proofs.entries.push_entries.Goals as goal

pub loop-pair-preserved : goal.loop-pair-preserved
loop-pair-preserved c =
    let pushed : c.push.new.self ≡ c.loop-pair.all ++ Pair (entry_by c.args.m c.args.method.now (c.loop-pair.i + 1) c.pair-item.result) ∷ [] = search rules in (
      ap (λ k. k + 1) c.loop-pair.invariant.0,
      pushed ∙ pair_pushed c.args.m c.args.method.now c.args.all.now c.loop-pair.all c.loop-pair.pair-index c.loop-pair.i c.pair-item.result
          (search rules) (search rules) c.loop-pair.invariant.0 c.loop-pair.invariant.1,
    )
