use Rattle.std.proofs.Common.{rules, ◌≡◌, ◌+◌, ◌++◌, ap, ◌∙◌}
use Rattle.hs_claims.specs.Entries.{all_entries}
use Rattle.hs_claims.proofs.Entered.{pairs_pushed}
use Rattle.hs_claims.proofs.listed.push_pairs.Goals as goal

pub loop-method-preserved : goal.loop-method-preserved
loop-method-preserved c =
    let pushed : c.push_entries.new.all ≡ c.loop-method.all ++ all_entries (c.loop-method.m + 1) c.method-item.result = search rules in (
      ap (λ k. k + 1) c.loop-method.invariant.0,
      pushed ∙ pairs_pushed c.args.program.now c.args.all.now c.loop-method.all c.loop-method.method-index c.loop-method.m c.method-item.result
          (search rules) (search rules) c.loop-method.invariant.0 c.loop-method.invariant.1,
    )
