use Rattle.std.proofs.Common.{◌∙◌, ◌++◌, ◌∷◌, []}
use Rattle.hs_calculus.proofs.Lists.{extend_ends}
use Rattle.hs_calculus.proofs.extend.extend.Goals as goal

pub returns : goal.returns
returns g c =
    c.loop-last.invariant ∙ extend_ends c.args.room c.min.result c.loop-last.last-index (λ last. c.args.row.now ++ last ∷ []) c.args.found.now c.min.ensures c.loop-last-test.false
