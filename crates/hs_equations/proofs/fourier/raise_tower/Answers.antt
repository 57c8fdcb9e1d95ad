use Rattle.std.proofs.Common.{[]}
use Rattle.std.proofs.lemmas.List.Elements.{All-nil, All-same}
use Rattle.hs_equations.specs.Rows.{IsMet}
use Rattle.hs_equations.proofs.fourier.raise_tower.Goals as goal

pub going-init : goal.going-init
going-init c = λ s h. (h, All-same (IsMet s) _ [] c.new.ensures (All-nil (IsMet s)))

pub returns-then-has_false : goal.returns-then-has_false
returns-then-has_false c = λ s h. c.has_false.ensures c.if-has_false.true s (All-same (IsMet s) _ _ c.as_slice.ensures (c.going.invariant s h).0)

pub returns-in_default : goal.returns-in_default
returns-in_default c = λ s h. c.going.invariant s h

pub going-preserved : goal.going-preserved
going-preserved c = λ s h. c.in_ok-now.ensures s (c.going.invariant s h)
