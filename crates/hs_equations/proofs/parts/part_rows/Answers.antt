use Rattle.std.proofs.lemmas.List.Elements.{All-nil, All-same}
use Rattle.std.proofs.Common.{[]}
use Rattle.hs_equations.specs.Rows.{IsMet}
use Rattle.hs_equations.proofs.Lists.{All-last}
use Rattle.hs_equations.proofs.parts.part_rows.Goals as goal

pub loop-row-init : goal.loop-row-init
loop-row-init c = λ s h. (h, (All-same (IsMet s) _ [] c.new.ensures (All-nil (IsMet s)), All-same (IsMet s) _ [] c.new-2.ensures (All-nil (IsMet s))))

pub loop-row-preserved : goal.loop-row-preserved
loop-row-preserved c = λ s h.
    let before = c.loop-row.invariant s h in
    let last = All-last (IsMet s) _ _ c.in-Some.row c.in-Some.ensures before.0 in
    (last.0, c.in_ok-parts.ensures s before.1 last.1)

pub returns : goal.returns
returns c = λ s h. (c.loop-row.invariant s h).1
