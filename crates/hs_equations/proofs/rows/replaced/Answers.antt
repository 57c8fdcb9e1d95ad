use Rattle.std.proofs.Common.{◌∙◌, []}
use Rattle.std.proofs.lemmas.List.Elements.{All-nil, All-same}
use Rattle.hs_equations.specs.Rows.{IsSolved}
use Rattle.hs_equations.proofs.Lists.{All-last, All-pushed}
use Rattle.hs_equations.proofs.rows.replaced.Goals as goal

pub loop-old-init : goal.loop-old-init
loop-old-init c = λ s e h. (h, All-same (IsSolved s) _ [] c.new-all.ensures (All-nil (IsSolved s)))

pub loop-old-preserved : goal.loop-old-preserved
loop-old-preserved c = λ s e h.
    let before = c.loop-old.invariant s e h in
    let last = All-last (IsSolved s) _ _ c.in-Some.old c.in-Some.ensures before.0 in
    (last.0, All-pushed (IsSolved s) _ _ _ c.in_ok-push.ensures.ok before.1 (c.in_ok-sum.ensures s e ∙ last.1))

pub returns : goal.returns
returns c = λ s e h. (c.loop-old.invariant s e h).1
